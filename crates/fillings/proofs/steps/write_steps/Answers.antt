-- `fillings::steps::write_steps` meets its contract, by the laws of specs. Assumes nothing.
use Rattle.fillings.specs.Layers.{stepping}
use Rattle.fillings.proofs.steps.write_steps.Goals as goal

pub loop-a-init : goal.loop-a-init
loop-a-init c = search stepping
