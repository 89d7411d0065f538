use Rattle.std.specs.Prelude.{◌≡◌, ◌+◌, ◌-◌, min, length}
use Rattle.std.proofs.Common.{arith}
use Rattle.closings.specs.Closings.{entries_closed}
use Rattle.closings.proofs.lists.close_entries.Goals as goal
use Rattle.closings.proofs.lists.close_entries.Goals.{then-at-end, else-at-end}

-- How many are left is what the law counts.
pub returns : goal.returns
returns c =
    let end = min c.args.used (length c.args.entries.now) in
    let left : c.if-at-end.left ≡ min c.args.at end + (end - (c.args.at + 1)) = elim c.if-at-end.branch [ then-at-end w ↦ omega arith | else-at-end w ↦ omega arith ] in
    entries_closed c.args.at c.args.used c.args.entries.now left c.close_elements.ensures c.lower_entries.ensures
