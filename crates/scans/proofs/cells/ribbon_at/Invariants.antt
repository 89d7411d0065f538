-- The items before i are read, and what is left gives the whole.
use mathlib.Core.Bool.{true}
use lib.ListN.{drop}
use Rattle.scans.specs.Items.{Gathering}
use Rattle.scans.proofs.cells.ribbon_at.Given as goal

abbrev pub invariant-loop-i : goal.invariant-loop-i
invariant-loop-i l = Gathering l.text (drop l.from l.text) true l.count l.initial.letters l.initial.marks l.letters l.marks l.stepped l.i l.at
