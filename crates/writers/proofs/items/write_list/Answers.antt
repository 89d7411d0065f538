-- `writers::items::write_list` meets its contract, by the laws of specs. Assumes nothing.
use Rattle.writers.specs.Items.{writing}
use Rattle.writers.proofs.items.write_list.Goals as goal

pub write_field-at-requires : goal.write_field-at-requires
write_field-at-requires c = search writing

pub loop-letter-init : goal.loop-letter-init
loop-letter-init c = search writing

pub loop-letter-preserved : goal.loop-letter-preserved
loop-letter-preserved c = search writing

pub returns : goal.returns
returns c = search writing
