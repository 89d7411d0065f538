-- What the field says, with the mark.
use Rattle.numerals.specs.Numbers.{passed}
use Rattle.cell_scans.specs.Cells.{marked_told}
use Rattle.cell_scans.proofs.cells.letter_at.Goals as goal

pub returns-in_err-letter : goal.returns-in_err-letter
returns-in_err-letter c = rw (passed c.from_residual.result c.from_residual.ensures.1) (marked_told _ _ c.in_err-letter.ensures)

pub returns : goal.returns
returns c = marked_told _ _ c.in_ok-letter.ensures
