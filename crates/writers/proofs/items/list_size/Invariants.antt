-- `writers::items::list_size` meets its contract, by the laws of specs/Items. The invariant: the count and the first i letters are counted. Assumes nothing.
use Rattle.writers.specs.Items.{Totalling}
use Rattle.writers.proofs.items.list_size.Given as goal

abbrev pub invariant-loop-letter : goal.invariant-loop-letter
invariant-loop-letter l = Totalling l.initial.size l.letters l.size l.letter-index
