-- The beginning breaks the grammar, or the line goes on from it.
use Rattle.numerals.specs.Numbers.{passed}
use Rattle.run_scans.specs.Lines.{whole_body, whole_broken}
use Rattle.run_scans.proofs.line.scan_runs.Goals as goal

pub returns-in_err-head : goal.returns-in_err-head
returns-in_err-head c = rw (passed c.from_residual.result c.from_residual.ensures.1) (whole_broken c.args.text.now _ _ c.in_err-head.ensures)

pub returns : goal.returns
returns c = whole_body c.args.text.now c.in_ok-head.ensures c.body_at.ensures
