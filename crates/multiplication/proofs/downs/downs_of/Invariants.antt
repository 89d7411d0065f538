-- `multiplication::downs::downs_of` meets its contract. The invariant: the steps into the cells before place i are in the table. Assumes nothing.
use Rattle.multiplication.specs.Downs.{Stepping}
use Rattle.multiplication.proofs.downs.downs_of.Given as goal

abbrev pub invariant-loop-i : goal.invariant-loop-i
invariant-loop-i l = Stepping l.letters l.marks l.i l.downs
