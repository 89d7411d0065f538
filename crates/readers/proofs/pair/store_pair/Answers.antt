-- The checks refuse, or letters, marks and entries are copied and the letters counted.
use Rattle.std.proofs.Common.{refl}
use Rattle.numerals.specs.Numbers.{passed}
use Rattle.readers.specs.PairStores.{pair_passed, pair_refused}
use Rattle.readers.proofs.pair.store_pair.Goals as goal

pub returns-in_err-check_pair_read : goal.returns-in_err-check_pair_read
returns-in_err-check_pair_read c =
    rw (passed c.from_residual.result c.from_residual.ensures.1) (pair_refused _ _ _ _ _ _ _ _ c.in_err-check_pair_read.ensures _ refl)

pub returns : goal.returns
returns c =
    pair_passed _ _ _ _ _ _ _ _ c.in_ok-check_pair_read.ensures refl
    (record { letters_are = c.copy.ensures; marks_are = c.copy-2.ensures; entries_are = c.copy-3.ensures }) c.letter_counts.ensures
