-- The checks refuse, or letters and marks are copied and counted.
use Rattle.std.proofs.Common.{refl}
use Rattle.numerals.specs.Numbers.{passed}
use Rattle.readers.specs.Stores.{tableau_passed, tableau_refused}
use Rattle.readers.proofs.tableau.store_tableau.Goals as goal

pub returns-in_err-check_tableau_read : goal.returns-in_err-check_tableau_read
returns-in_err-check_tableau_read c =
    rw (passed c.from_residual.result c.from_residual.ensures.1) (tableau_refused _ _ _ _ _ _ c.in_err-check_tableau_read.ensures _ refl)

pub returns : goal.returns
returns c =
    tableau_passed _ _ _ _ _ _ c.in_ok-check_tableau_read.ensures refl (record { letters_are = c.copy.ensures; marks_are = c.copy-2.ensures }) c.letter_counts.ensures
