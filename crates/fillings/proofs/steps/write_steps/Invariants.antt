-- `fillings::steps::write_steps` meets its contract, by the laws of specs/Layers. The invariant: the marks of the letters 1 to a are written. Assumes nothing.
use Rattle.fillings.specs.Layers.{Laying, steps_in}
use Rattle.fillings.proofs.steps.write_steps.Given as goal

abbrev pub invariant-loop-a : goal.invariant-loop-a
invariant-loop-a l = Laying (steps_in l.steps l.counts) l.counts l.initial.marks l.marks l.rank l.a l.at
