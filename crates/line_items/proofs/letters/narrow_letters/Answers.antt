-- None, one letter more, and all of them.
use Rattle.std.proofs.Common.{arith}
use Rattle.line_items.specs.Letters.{narrow_end, narrow_start, narrow_turn}
use Rattle.line_items.proofs.letters.narrow_letters.Goals as goal

pub loop-i-init : goal.loop-i-init
loop-i-init c = narrow_start _ _ c.min-count.ensures

pub loop-i-preserved : goal.loop-i-preserved
loop-i-preserved c = narrow_turn c.loop-i.invariant (omega arith) c.narrow.ensures

pub returns : goal.returns
returns c = narrow_end c.loop-i.invariant (omega arith)
