-- `writers::runs::run_length` meets its contract, by the laws of specs/RunLengths. The invariant: the letters from place i to place end are one letter. Assumes nothing.
use Rattle.writers.specs.RunLengths.{Walking}
use Rattle.writers.proofs.runs.run_length.Given as goal

abbrev pub invariant-loop-end : goal.invariant-loop-end
invariant-loop-end l = Walking l.letters l.i l.end
