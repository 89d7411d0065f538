-- `writers::items::write_cell` meets its contract, by the laws of specs. Assumes nothing.
use Rattle.writers.specs.Cells.{stepping}
use Rattle.writers.proofs.items.write_cell.Goals as goal

pub write_step-from-requires : goal.write_step-from-requires
write_step-from-requires c = search stepping

pub returns : goal.returns
returns c = search stepping
