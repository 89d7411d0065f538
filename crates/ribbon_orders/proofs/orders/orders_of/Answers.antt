-- A turn takes the last mark of those that are left.
use Rattle.ribbon_orders.specs.Rows.{part_fits, rowing_end}
use Rattle.ribbon_orders.proofs.orders.orders_of.Goals as goal

pub sweep-requires : goal.sweep-requires
sweep-requires c = part_fits c.loop-mark.invariant.2 _ _ c.in-Some.ensures.steps

pub returns : goal.returns
returns c = rowing_end c.loop-mark.invariant.2 c.in-None.ensures.steps.0
