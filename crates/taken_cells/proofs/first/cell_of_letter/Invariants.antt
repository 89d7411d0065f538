-- The invariant: the cells before this one are passed.
use Rattle.taken_cells.specs.Lettered.{Meeting}
use Rattle.taken_cells.proofs.first.cell_of_letter.Given as goal

abbrev pub invariant-loop-cell : goal.invariant-loop-cell
invariant-loop-cell l = Meeting l.cells l.letters l.marks l.letter l.cell l.before
