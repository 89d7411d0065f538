-- `columns::reading::next_column` meets its contract, by the laws of specs/Columns. Assumes nothing.
use Rattle.std.proofs.Common.{◌+◌, ◌∙◌}
use Rattle.std.proofs.lemmas.List.{take_rest}
use Rattle.columns.specs.Columns.{next_down, no_down}
use Rattle.columns.proofs.reading.next_column.Goals as goal

pub returns-in_err-down : goal.returns-in_err-down
returns-in_err-down c =
    let past = take_rest c.in_ok-steps.steps.now c.right_fours-right.result in
    let after = c.in_ok-steps.ensures.lookup.0.2 ∙ take_rest c.args.marks.now (c.args.from + 1) in
    rw c.from_residual-in_err-down.ensures (no_down c.first_down.ensures past c.right_fours-right.ensures after c.requires c.in_err-down.was)

pub returns : goal.returns
returns c =
    let past = take_rest c.in_ok-steps.steps.now c.right_fours-right.result in
    let after = c.in_ok-steps.ensures.lookup.0.2 ∙ take_rest c.args.marks.now (c.args.from + 1) in
    next_down c.first_down.ensures past c.right_fours-right.ensures after c.requires c.in_ok-down.was
