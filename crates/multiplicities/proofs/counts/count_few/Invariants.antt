-- The invariant: so many of the letters before place x are counted.
use Rattle.std.proofs.Common.{take}
use Rattle.multiplicities.specs.Tallies.{Tallies}
use Rattle.multiplicities.proofs.counts.count_few.Given as goal

abbrev pub invariant-loop-x : goal.invariant-loop-x
invariant-loop-x g l = Tallies (goal.F-post g l.test) (take l.x-index l.letters) l.found
