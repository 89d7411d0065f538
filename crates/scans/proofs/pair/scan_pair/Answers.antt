-- The beginning breaks the grammar, or the line goes on from it.
use Rattle.numerals.specs.Numbers.{passed}
use Rattle.scans.specs.PairScans.{pair_broken, pair_parts}
use Rattle.scans.proofs.pair.scan_pair.Goals as goal

pub returns-in_err-head : goal.returns-in_err-head
returns-in_err-head c =
    rw (passed c.from_residual.result c.from_residual.ensures.1) (pair_broken c.args.text.now _ _ _ c.in_err-head.ensures)

pub returns : goal.returns
returns c = pair_parts c.args.text.now c.in_ok-head.ensures c.parts_at.ensures
