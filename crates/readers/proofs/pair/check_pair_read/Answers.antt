-- The checks of the pair refuse, or those of the rooms decide.
use Rattle.std.proofs.Common.{[], length, refl}
use Rattle.numerals.specs.Numbers.{passed}
use Rattle.outcomes.specs.Judgements.{pair_judgements, pair_rooms}
use Rattle.refusals.specs.Running.{checks_then, goes_further, stops_there}
use Rattle.readers.proofs.pair.check_pair_read.Goals as goal

pub returns-in_err-check_pair : goal.returns-in_err-check_pair
returns-in_err-check_pair c = rw (passed c.from_residual.result c.from_residual.ensures.1) (stops_there _ c.in_err-check_pair.ensures _ _ refl)

pub returns : goal.returns
unfolding checks_then
returns c =
    goes_further (pair_judgements c.args.pair.now.rank c.args.pair.now.letters.now c.args.pair.now.marks.now c.args.pair.now.entries.now) c.in_ok-check_pair.ensures []
    (pair_rooms (length c.args.pair.now.letters.now) c.args.letters c.args.marks c.args.entries) refl c.check_pair_rooms.ensures
