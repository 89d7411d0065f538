-- The invariant: the words of the cells before this one are passed.
use Rattle.taken_cells.specs.Numbered.{Seeking}
use Rattle.taken_cells.proofs.first.cell_of_number.Given as goal

abbrev pub invariant-loop-cell : goal.invariant-loop-cell
invariant-loop-cell l = Seeking l.cells l.marks l.number l.cell l.left
