-- `writers::items::parts_size` meets its contract, by the laws of specs/Parts. The invariant: the cells and the first i entries are counted. Assumes nothing.
use Rattle.writers.specs.Items.{Totalling}
use Rattle.writers.proofs.items.parts_size.Given as goal

abbrev pub invariant-loop-entry : goal.invariant-loop-entry
invariant-loop-entry l = Totalling l.initial.size l.entries l.size l.entry-index
