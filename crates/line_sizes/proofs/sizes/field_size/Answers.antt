-- One digit more is counted.
use Rattle.line_sizes.specs.Sizes.{shrink_turn}
use Rattle.line_sizes.proofs.sizes.field_size.Goals as goal

pub loop-left-preserved : goal.loop-left-preserved
loop-left-preserved c = shrink_turn c.loop-left.invariant c.loop-left-test.true
