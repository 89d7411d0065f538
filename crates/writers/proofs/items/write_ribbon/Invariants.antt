-- `writers::items::write_ribbon` meets its contract, by the laws of specs/Cells. The invariant: the first i cells are written. Assumes nothing.
use lib.ListN.{length}
use Rattle.writers.specs.Cells.{cell_at}
use Rattle.writers.specs.Items.{Writing}
use Rattle.writers.proofs.items.write_ribbon.Given as goal

abbrev pub invariant-loop-i : goal.invariant-loop-i
invariant-loop-i l = Writing (cell_at l.letters l.marks) (length l.letters) l.initial.out l.initial.at l.out l.i l.at
