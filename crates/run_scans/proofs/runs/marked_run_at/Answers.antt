-- The cell breaks the grammar, or the count does, or both are read.
use Rattle.numerals.specs.Numbers.{passed}
use Rattle.run_scans.specs.Runs.{run-cell, run-count}
use Rattle.run_scans.proofs.runs.marked_run_at.Goals as goal

pub returns-in_err-cell : goal.returns-in_err-cell
returns-in_err-cell c = rw (passed c.from_residual.result c.from_residual.ensures.1) (run-cell _ _ c.args.mark c.in_err-cell.ensures)

pub returns-in_err-times : goal.returns-in_err-times
returns-in_err-times c =
    rw (passed c.from_residual-in_err-times.result c.from_residual-in_err-times.ensures.1) (run-count _ _ c.args.mark c.in_ok-cell.ensures c.in_err-times.ensures)

pub returns : goal.returns
returns c = run-count _ _ c.args.mark c.in_ok-cell.ensures c.in_ok-times.ensures
