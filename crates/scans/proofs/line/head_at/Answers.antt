-- The letter of the kind does not stand first, or the rank breaks the grammar, or the number of items does, or both are read.
use Rattle.numerals.specs.Numbers.{passed}
use Rattle.scans.specs.Heads.{head_broken, head_counted, head_none}
use Rattle.scans.proofs.line.head_at.Goals as goal

pub returns-then-not-stands : goal.returns-then-not-stands
returns-then-not-stands c = head_none _ _ c.args.ranked c.if-not-stands.ensures

pub returns-in_err-rank : goal.returns-in_err-rank
returns-in_err-rank c =
    rw (passed c.from_residual.result c.from_residual.ensures.1) (head_broken c.args.text.now c.args.kind c.args.ranked c.if-not-stands.ensures c.in_err-rank.ensures)

pub returns-in_err-count : goal.returns-in_err-count
returns-in_err-count c =
    rw (passed c.from_residual-in_err-count.result c.from_residual-in_err-count.ensures.1)
    (head_counted c.args.text.now c.args.kind c.args.ranked c.if-not-stands.ensures c.in_ok-rank.ensures c.in_err-count.ensures)

pub returns : goal.returns
returns c =
    rw (c.from.ensures, c.from-2.ensures)
    (head_counted c.args.text.now c.args.kind c.args.ranked c.if-not-stands.ensures c.in_ok-rank.ensures c.in_ok-count.ensures)
