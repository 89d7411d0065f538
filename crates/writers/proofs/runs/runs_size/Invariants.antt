-- `writers::runs::runs_size` meets its contract, by the laws of specs/RunLoops. The invariant: the count and the runs before place i are counted. Assumes nothing.
use Prim.Native.Nat.{◌-◌}
use lib.ListN.{length}
use Rattle.writers.specs.RunLoops.{RunsTotalling}
use Rattle.writers.proofs.runs.runs_size.Given as goal

abbrev pub invariant-loop-i : goal.invariant-loop-i
invariant-loop-i l = RunsTotalling l.initial.size l.letters l.marks l.size l.i

abbrev pub decreases-loop-i : goal.decreases-loop-i
decreases-loop-i l = length l.letters - l.i
