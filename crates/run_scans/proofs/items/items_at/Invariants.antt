-- Some items are read, and what is left gives the whole.
use Prim.Native.Nat.{◌-◌}
use lib.ListN.{drop, length}
use Rattle.run_scans.specs.Items.{Scanning}
use Rattle.run_scans.proofs.items.items_at.Given as goal

abbrev pub invariant-loop-stepped : goal.invariant-loop-stepped
invariant-loop-stepped l = Scanning l.text (drop l.from l.text) l.rank l.initial.times l.initial.marks l.times l.marks l.tally l.stepped l.at

abbrev pub decreases-loop-stepped : goal.decreases-loop-stepped
decreases-loop-stepped l = length l.text - l.at
