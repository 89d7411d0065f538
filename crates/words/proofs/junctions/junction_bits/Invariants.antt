-- `words::junctions::junction_bits` meets its contract. The loop's invariant: the set is that of the letters above those that are left. Assumes nothing.
use Rattle.words.specs.Junctions.{Building}
use Rattle.words.proofs.junctions.junction_bits.Given as goal

abbrev pub invariant-loop-a : goal.invariant-loop-a
invariant-loop-a l = Building l.word l.a l.set l.next
