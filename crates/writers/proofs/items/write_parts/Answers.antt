-- `writers::items::write_parts` meets its contract, by the laws of specs. Assumes nothing.
use Rattle.writers.specs.Parts.{parting}
use Rattle.writers.proofs.items.write_parts.Goals as goal

pub write_ribbon-at-requires : goal.write_ribbon-at-requires
write_ribbon-at-requires c = search parting

pub loop-entry-init : goal.loop-entry-init
loop-entry-init c = search parting

pub write_field-at-requires : goal.write_field-at-requires
write_field-at-requires c = search parting

pub loop-entry-preserved : goal.loop-entry-preserved
loop-entry-preserved c = search parting

pub returns : goal.returns
returns c = search parting
