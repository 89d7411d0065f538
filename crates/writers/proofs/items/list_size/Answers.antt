-- `writers::items::list_size` meets its contract, by the laws of specs. Assumes nothing.
use Rattle.writers.specs.Items.{totalling}
use Rattle.writers.proofs.items.list_size.Goals as goal

pub loop-letter-preserved : goal.loop-letter-preserved
loop-letter-preserved c = search totalling

pub returns : goal.returns
returns c = search totalling
