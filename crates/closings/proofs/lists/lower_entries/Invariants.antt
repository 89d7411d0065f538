-- The invariant: the entries before the place are one less.
use Rattle.closings.specs.Lowering.{Lowering}
use Rattle.closings.proofs.lists.lower_entries.Given as goal

abbrev pub invariant-loop-entry : goal.invariant-loop-entry
invariant-loop-entry l = Lowering l.initial.entries l.entry-index l.entries
