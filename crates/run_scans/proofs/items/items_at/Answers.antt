-- Before the first item; an item breaks the grammar, or is read; the line feed.
use Rattle.std.proofs.Common.{arith}
use Rattle.numerals.specs.Numbers.{passed}
use Rattle.run_scans.specs.Items.{scan_broken, scan_feed, scan_less, scan_start, scan_turn}
use Rattle.run_scans.proofs.items.items_at.Goals as goal

pub loop-stepped-init : goal.loop-stepped-init
loop-stepped-init c = scan_start _ _ c.args.rank _ _ (omega arith) (omega arith) c.no_items-tally.ensures

pub returns-in_err-item : goal.returns-in_err-item
returns-in_err-item c =
    rw (passed c.from_residual.result c.from_residual.ensures.1) (scan_broken c.loop-stepped.invariant c.loop-stepped-test.ensures c.in_err-item.ensures)

pub loop-stepped-smaller : goal.loop-stepped-smaller
loop-stepped-smaller c = scan_less c.loop-stepped.invariant c.loop-stepped-test.ensures c.in_ok-item.ensures

pub loop-stepped-preserved : goal.loop-stepped-preserved
loop-stepped-preserved c =
    scan_turn c.loop-stepped.invariant c.loop-stepped-test.ensures c.in_ok-item.ensures c.keep.ensures c.keep-in-loop-stepped.ensures c.add_item-tally.ensures

pub returns : goal.returns
returns c = scan_feed c.loop-stepped.invariant c.loop-stepped-test.ensures
