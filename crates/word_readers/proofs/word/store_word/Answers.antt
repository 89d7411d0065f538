-- The checks refuse, or the letters are copied.
use Rattle.numerals.specs.Numbers.{passed}
use Rattle.word_readers.specs.WordReaders.{word_passed, word_refused}
use Rattle.word_readers.proofs.word.store_word.Goals as goal

pub returns-in_err-check_word_read : goal.returns-in_err-check_word_read
returns-in_err-check_word_read c = rw (passed c.from_residual.result c.from_residual.ensures.1) (word_refused _ _ _ _ c.in_err-check_word_read.ensures)

pub returns : goal.returns
returns c = word_passed _ _ _ _ c.in_ok-check_word_read.ensures c.copy.ensures
