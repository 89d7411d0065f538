-- The cells break the grammar, or the line goes on from them.
use Rattle.numerals.specs.Numbers.{passed}
use Rattle.scans.specs.PairScans.{cells_broken, cells_entries}
use Rattle.scans.proofs.pair.parts_at.Goals as goal

pub returns-in_err-next : goal.returns-in_err-next
returns-in_err-next c = rw (passed c.from_residual.result c.from_residual.ensures.1) (cells_broken c.args.head.rank _ c.in_err-next.ensures)

pub returns : goal.returns
returns c = cells_entries c.args.head.rank c.in_ok-next.ensures c.body_at.ensures
