-- `writers::items::parts_size` meets its contract, by the laws of specs. Assumes nothing.
use Rattle.writers.specs.Parts.{parting}
use Rattle.writers.proofs.items.parts_size.Goals as goal

pub loop-entry-init : goal.loop-entry-init
loop-entry-init c = search parting

pub loop-entry-preserved : goal.loop-entry-preserved
loop-entry-preserved c = search parting

pub returns : goal.returns
returns c = search parting
