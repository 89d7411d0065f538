-- `writers::items::write_parts` meets its contract, by the laws of specs/Parts. The invariant: the cells and the first i entries are written. Assumes nothing.
use lib.ListN.{length}
use Rattle.writers.specs.Items.{field_at, Writing}
use Rattle.writers.proofs.items.write_parts.Given as goal

abbrev pub invariant-loop-entry : goal.invariant-loop-entry
invariant-loop-entry l = Writing (field_at l.entries) (length l.entries) l.initial.out l.initial.at l.out l.entry-index l.at
