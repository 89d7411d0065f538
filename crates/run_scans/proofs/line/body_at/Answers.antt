-- The items break the grammar, or more bytes stand after the line feed, or none.
use Rattle.std.proofs.Common.{arith}
use Rattle.numerals.specs.Numbers.{passed}
use Rattle.run_scans.specs.Lines.{body_broken, body_last, body_more}
use Rattle.run_scans.proofs.line.body_at.Goals as goal

pub returns-in_err-feed : goal.returns-in_err-feed
returns-in_err-feed c = rw (passed c.from_residual.result c.from_residual.ensures.1) (body_broken _ _ c.args.head.rank c.args.head.count c.in_err-feed.ensures)

pub overflow_add-feed : goal.overflow_add-feed
overflow_add-feed c = omega (arith, c.in_ok-feed.ensures.replied.inside)

pub returns-then-feed-text : goal.returns-then-feed-text
returns-then-feed-text c = body_more _ _ c.args.head.rank c.args.head.count c.in_ok-feed.ensures (omega arith)

pub returns : goal.returns
returns c = body_last _ _ c.args.head.rank c.args.head.count c.in_ok-feed.ensures (omega arith)
