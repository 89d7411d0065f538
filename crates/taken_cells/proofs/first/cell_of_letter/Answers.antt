-- One cell more is passed.
use Rattle.taken_cells.specs.Lettered.{meeting_turn}
use Rattle.taken_cells.proofs.first.cell_of_letter.Goals as goal

pub loop-cell-preserved : goal.loop-cell-preserved
loop-cell-preserved c = meeting_turn c.loop-cell.invariant c.loop-cell-test.true c.orders_left-before.ensures c.starts_at.ensures c.if-starts_at.false
