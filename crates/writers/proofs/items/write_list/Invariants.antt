-- `writers::items::write_list` meets its contract, by the laws of specs/Items. The invariant: the first i letters are written. Assumes nothing.
use lib.ListN.{length}
use Rattle.writers.specs.Items.{field_at, Writing}
use Rattle.writers.proofs.items.write_list.Given as goal

abbrev pub invariant-loop-letter : goal.invariant-loop-letter
invariant-loop-letter l = Writing (field_at l.letters) (length l.letters) l.initial.out l.initial.at l.out l.letter-index l.at
