-- A letter without a step.
use Rattle.cell_scans.specs.Cells.{item_first}
use Rattle.cell_scans.proofs.cells.item_at.Goals as goal

pub returns-else-stepped : goal.returns-else-stepped
returns-else-stepped c = item_first _ c.if-stepped.false c.letter_at.ensures
