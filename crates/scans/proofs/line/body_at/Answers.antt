-- The items break the grammar, or the end does, or the line is read.
use Rattle.numerals.specs.Numbers.{passed}
use Rattle.scans.specs.Scans.{body_broken, body_end, body_more}
use Rattle.scans.proofs.line.body_at.Goals as goal

pub returns-in_err-feed : goal.returns-in_err-feed
returns-in_err-feed c = rw (passed c.from_residual.result c.from_residual.ensures.1) (body_broken c.args.head.rank c.in_err-feed.ensures)

pub returns-in_err-next : goal.returns-in_err-next
returns-in_err-next c =
    rw (passed c.from_residual-in_err-next.result c.from_residual-in_err-next.ensures.1) (body_more c.args.head.rank c.in_ok-feed.ensures c.in_err-next.ensures)

pub returns : goal.returns
returns c = body_end c.args.head.rank c.in_ok-feed.ensures c.in_ok-next.ensures
