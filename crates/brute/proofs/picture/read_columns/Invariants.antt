-- `brute::picture::read_columns` is safe. The invariant: the column begins among the cells that are read. Assumes nothing.
use Rattle.std.proofs.Common.{◌≤◌}
use Rattle.brute.proofs.picture.read_columns.Given as goal

abbrev pub invariant-loop-cell : goal.invariant-loop-cell
invariant-loop-cell l = l.start ≤ l.cell
