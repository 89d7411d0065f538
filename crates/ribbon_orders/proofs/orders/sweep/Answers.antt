-- The sweep begins with the sum of the row.
use Rattle.std.specs.Prelude.{◌≡◌, sum}
use Rattle.std.proofs.Common.{arith}
use Rattle.std.proofs.lemmas.Grind.{common_steps}
use Rattle.ribbon_orders.specs.Sweeps.{sweeping_start}
use Rattle.ribbon_orders.proofs.orders.sweep.Goals as goal

pub loop-place-init : goal.loop-place-init
loop-place-init c =
    let e : c.loop-number.all ≡ sum c.args.row.now = grind (arith, common_steps) in sweeping_start c.args.mark c.args.row.now c.loop-number.all c.requires e
