-- An item breaks the grammar, or is read.
use Rattle.std.proofs.Common.{arith}
use Rattle.numerals.specs.Numbers.{passed}
use Rattle.scans.specs.Items.{gather_broken, gather_turn}
use Rattle.scans.proofs.cells.ribbon_at.Goals as goal

pub returns-in_err-letter : goal.returns-in_err-letter
returns-in_err-letter c =
    rw (passed c.from_residual.result c.from_residual.ensures.1)
    (gather_broken c.loop-i.invariant (omega arith) c.in_err-letter.ensures)

pub loop-i-preserved : goal.loop-i-preserved
loop-i-preserved c = gather_turn c.loop-i.invariant (omega arith) c.in_ok-letter.ensures c.keep.ensures c.keep-in-loop-i.ensures
