-- The items before i are read, and what is left gives the whole.
use mathlib.Core.Bool.{false}
use mathlib.Core.List.{[]}
use lib.ListN.{drop}
use Rattle.scans.specs.Items.{Gathering}
use Rattle.scans.proofs.cells.letters_at.Given as goal

abbrev pub invariant-loop-i : goal.invariant-loop-i
invariant-loop-i l = Gathering l.text (drop l.from l.text) false l.count l.initial.letters [] l.letters [] false l.i l.at
