-- The digits of what is left are not counted yet.
use Rattle.line_sizes.specs.Sizes.{Shrinking}
use Rattle.line_sizes.proofs.sizes.field_size.Given as goal

abbrev pub invariant-loop-left : goal.invariant-loop-left
invariant-loop-left l = Shrinking l.value l.size l.left

abbrev pub decreases-loop-left : goal.decreases-loop-left
decreases-loop-left l = l.left
