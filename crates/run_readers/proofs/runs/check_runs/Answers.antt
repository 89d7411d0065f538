-- The checks of the line refuse, or one of the rooms does, or the last of them decides.
use Rattle.numerals.specs.Numbers.{passed}
use Rattle.refusals.specs.Chains.{ends, halts, proceeds}
use Rattle.run_readers.specs.Stores.{runs_go, runs_stop}
use Rattle.run_readers.proofs.runs.check_runs.Goals as goal

pub returns-in_err-check_tally : goal.returns-in_err-check_tally
returns-in_err-check_tally c = rw (passed c.from_residual.result c.from_residual.ensures.1) (runs_stop _ _ _ _ _ _ c.in_err-check_tally.ensures)

pub returns-in_err-check_room : goal.returns-in_err-check_room
returns-in_err-check_room c =
    rw (passed c.from_residual-in_err-check_room.result c.from_residual-in_err-check_room.ensures.1)
    (runs_go _ _ _ _ _ c.in_ok-check_tally.ensures (halts _ _ c.in_err-check_room.ensures))

pub returns : goal.returns
returns c = runs_go _ _ _ _ _ c.in_ok-check_tally.ensures (proceeds c.in_ok-check_room.ensures (ends _ _ c.check_room-2.ensures))
