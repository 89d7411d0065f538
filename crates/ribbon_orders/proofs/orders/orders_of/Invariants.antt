-- The invariant: the row has the tally of the marks that the iterator has passed.
use Rattle.std.specs.Iterator.Adapters.{rev_source}
use Rattle.std.specs.Slice.Iter.{iter_rest}
use Rattle.ribbon_orders.specs.Rows.{Rowing}
use Rattle.ribbon_orders.proofs.orders.orders_of.Given as goal

abbrev pub invariant-loop-mark : goal.invariant-loop-mark
invariant-loop-mark l = goal.iterator-loop-mark.can_next l.mark-iterator × goal.iterator-loop-mark.is_finite l.mark-iterator
    × Rowing l.marks l.row l.numbers (iter_rest (rev_source l.mark-iterator))
