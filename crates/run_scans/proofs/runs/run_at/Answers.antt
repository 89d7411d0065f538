-- No step is asked for, or none stands there, or it is read.
use Rattle.numerals.specs.Numbers.{passed}
use Rattle.run_scans.specs.Runs.{run-first, run-step_broken, run_step_read}
use Rattle.run_scans.proofs.runs.run_at.Goals as goal

pub returns-then-not-stepped : goal.returns-then-not-stepped
returns-then-not-stepped c = rw c.if-not-stepped.true (run-first _ c.marked_run_at.ensures)

pub returns-in_err-mark : goal.returns-in_err-mark
returns-in_err-mark c =
    rw (c.if-not-stepped.false, passed c.from_residual.result c.from_residual.ensures.1) (run-step_broken c.args.text.now c.args.at c.in_err-mark.ensures)

pub returns : goal.returns
returns c = rw c.if-not-stepped.false (run_step_read c.args.text.now c.args.at c.in_ok-mark.ensures c.marked_run_at-2.ensures)
