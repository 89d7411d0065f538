-- `counts::blocks::confirmed` meets its contract. The loop's invariant: the blocks passed agree with their counts. Assumes nothing.
use Rattle.counts.specs.Blocks.{Agreed}
use Rattle.counts.proofs.blocks.confirmed.Given as goal

abbrev pub invariant-loop-a : goal.invariant-loop-a
invariant-loop-a l = Agreed l.letters l.counts l.a l.at
