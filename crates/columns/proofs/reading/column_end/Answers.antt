-- `columns::reading::column_end` meets its contract, by the laws of specs/Columns. Assumes nothing.
use Rattle.std.proofs.Common.{◌+◌}
use Rattle.std.proofs.lemmas.List.{take_rest}
use Rattle.columns.specs.Columns.{some_right}
use Rattle.columns.proofs.reading.column_end.Goals as goal

pub returns-in-Some : goal.returns-in-Some
returns-in-Some c = some_right c.first_right.ensures (take_rest c.args.marks.now (c.args.start + 1)) c.requires c.in-Some.is
