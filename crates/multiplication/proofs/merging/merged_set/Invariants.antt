-- `multiplication::merging::merged_set` meets its contract. The invariant: the letters above those that are left are done. Assumes nothing.
use Rattle.multiplication.specs.Merging.{Merging}
use Rattle.multiplication.proofs.merging.merged_set.Given as goal

abbrev pub invariant-loop-a : goal.invariant-loop-a
invariant-loop-a l = Merging l.rank l.first.counts.now l.first.downs l.second.counts.now l.second.downs l.a l.set l.first_next l.second_next
