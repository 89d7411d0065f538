-- The invariants: the numbers before the index are added up; the numbers before place i are replaced.
use Rattle.std.specs.Prelude.{◌≡◌, sum, take}
use Rattle.ribbon_orders.specs.Sweeps.{Sweeping}
use Rattle.ribbon_orders.proofs.orders.sweep.Given as goal

abbrev pub invariant-loop-number : goal.invariant-loop-number
invariant-loop-number l = l.all ≡ sum (take l.number-index l.fn.row)

abbrev pub invariant-loop-place : goal.invariant-loop-place
invariant-loop-place l = Sweeping l.mark l.initial.row l.row l.all l.place-index l.before
