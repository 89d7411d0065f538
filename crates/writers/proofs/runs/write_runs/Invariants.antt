-- `writers::runs::write_runs` meets its contract, by the laws of specs/RunLoops. The invariant: the runs before place i are written. Assumes nothing.
use Prim.Native.Nat.{◌-◌}
use lib.ListN.{length}
use Rattle.writers.specs.RunLoops.{RunsWriting}
use Rattle.writers.proofs.runs.write_runs.Given as goal

abbrev pub invariant-loop-i : goal.invariant-loop-i
invariant-loop-i l = RunsWriting l.letters l.marks l.initial.out l.initial.at l.out l.i l.at

abbrev pub decreases-loop-i : goal.decreases-loop-i
decreases-loop-i l = length l.letters - l.i
