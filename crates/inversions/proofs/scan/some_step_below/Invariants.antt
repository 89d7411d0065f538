-- The invariant: an i+1 directly below i was found before place i, or stands in what is left.
use Rattle.inversions.specs.Walking.{Walking}
use Rattle.inversions.proofs.scan.some_step_below.Given as goal

abbrev pub invariant-loop-i : goal.invariant-loop-i
invariant-loop-i l = Walking l.here l.letters l.marks l.i l.found
