-- The checks of a word refuse, or that of the room decides.
use Rattle.std.proofs.Common.{[], ◌∷◌, length, refl}
use Rattle.numerals.specs.Numbers.{passed}
use Rattle.outcomes.specs.Judgements.{room_judged, word_judgements}
use Rattle.refusals.specs.Chains.{ends}
use Rattle.refusals.specs.Running.{checks_then, goes_further, stops_there}
use Rattle.word_readers.proofs.word.check_word_read.Goals as goal

pub returns-in_err-check_word : goal.returns-in_err-check_word
returns-in_err-check_word c = rw (passed c.from_residual.result c.from_residual.ensures.1) (stops_there _ c.in_err-check_word.ensures _ _ refl)

pub returns : goal.returns
unfolding checks_then
returns c = goes_further (word_judgements c.args.rank c.args.word.now) c.in_ok-check_word.ensures [] (room_judged (length c.args.word.now) c.args.room ∷ []) refl (ends _ _ c.check_room.ensures)
