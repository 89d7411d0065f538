-- No step, or a letter after it.
use Rattle.numerals.specs.Numbers.{passed}
use Rattle.cell_scans.specs.Cells.{cell_broken, cell_read}
use Rattle.cell_scans.proofs.cells.stepped_at.Goals as goal

pub returns-in_err-mark : goal.returns-in_err-mark
returns-in_err-mark c = rw (passed c.from_residual.result c.from_residual.ensures.1) (cell_broken c.args.text.now c.args.at c.in_err-mark.ensures)

pub returns : goal.returns
returns c = cell_read c.args.text.now c.args.at c.in_ok-mark.ensures c.letter_at.ensures
