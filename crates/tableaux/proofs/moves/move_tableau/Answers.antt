-- The reply and the letters of `move_cells`, and the counts beside them.
use Rattle.std.proofs.Common.{rules}
use Rattle.tableaux.specs.Moves.{index_byte, move_made, move_movable, move_stopped}
use Rattle.tableaux.proofs.moves.move_tableau.Goals as goal

pub returns-in_err-place : goal.returns-in_err-place
returns-in_err-place c = let e = move_stopped _ _ _ _ _ _ _ c.in_err-place.ensures in search (rules, e)

pub overflow_cast-index : goal.overflow_cast-index
overflow_cast-index c = index_byte _ _ _ (move_movable _ _ _ _ _ c.args.side _ c.in_ok-place.ensures)

pub change_counts-requires : goal.change_counts-requires
change_counts-requires c = move_movable _ _ _ _ _ _ _ c.in_ok-place.ensures

pub returns : goal.returns
returns c = move_made _ _ _ _ _ _ _ c.in_ok-place.ensures c.change_counts.ensures
