-- `writers::fields::write_field` meets its contract, by the laws of specs/Fields. The invariant: the digits of what is left are not stored yet. Assumes nothing.
use Rattle.writers.specs.Fields.{Digiting}
use Rattle.writers.proofs.fields.write_field.Given as goal

abbrev pub invariant-loop-left : goal.invariant-loop-left
invariant-loop-left l = Digiting l.value l.initial.out l.at l.out l.i l.left

abbrev pub decreases-loop-left : goal.decreases-loop-left
decreases-loop-left l = l.left
