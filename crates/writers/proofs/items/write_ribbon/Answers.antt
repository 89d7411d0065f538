-- `writers::items::write_ribbon` meets its contract, by the laws of specs. Assumes nothing.
use Rattle.writers.specs.Cells.{stepping}
use Rattle.writers.proofs.items.write_ribbon.Goals as goal

pub write_field-at-requires : goal.write_field-at-requires
write_field-at-requires c = search stepping

pub loop-i-init : goal.loop-i-init
loop-i-init c = search stepping

pub loop-i-preserved : goal.loop-i-preserved
loop-i-preserved c = search stepping

pub returns : goal.returns
returns c = search stepping
