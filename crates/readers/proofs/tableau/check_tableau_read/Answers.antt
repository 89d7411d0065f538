-- The checks of the tableau refuse, or one of the rooms does, or the last of them decides.
use Rattle.std.proofs.Common.{[], ◌∷◌, length, refl}
use Rattle.numerals.specs.Numbers.{passed}
use Rattle.outcomes.specs.Judgements.{room_judged, tableau_judgements}
use Rattle.refusals.specs.Chains.{ends, halts, proceeds}
use Rattle.refusals.specs.Running.{checks_then, goes_further, stops_there}
use Rattle.readers.proofs.tableau.check_tableau_read.Goals as goal

pub returns-in_err-check_tableau : goal.returns-in_err-check_tableau
returns-in_err-check_tableau c = rw (passed c.from_residual.result c.from_residual.ensures.1) (stops_there _ c.in_err-check_tableau.ensures _ _ refl)

pub returns-in_err-check_room : goal.returns-in_err-check_room
unfolding checks_then
returns-in_err-check_room c =
    rw (passed c.from_residual-in_err-check_room.result c.from_residual-in_err-check_room.ensures.1)
    (goes_further (tableau_judgements c.args.tableau.now.rank c.args.tableau.now.letters.now c.args.tableau.now.marks.now) c.in_ok-check_tableau.ensures []
    (room_judged (length c.args.tableau.now.letters.now) c.args.letters ∷ room_judged (length c.args.tableau.now.letters.now) c.args.marks ∷ []) refl
    (halts _ _ c.in_err-check_room.ensures))

pub returns : goal.returns
unfolding checks_then
returns c =
    goes_further (tableau_judgements c.args.tableau.now.rank c.args.tableau.now.letters.now c.args.tableau.now.marks.now) c.in_ok-check_tableau.ensures []
    (room_judged (length c.args.tableau.now.letters.now) c.args.letters ∷ room_judged (length c.args.tableau.now.letters.now) c.args.marks ∷ []) refl
    (proceeds c.in_ok-check_room.ensures (ends _ _ c.check_room-2.ensures))
