-- The invariant: the bytes before i are moved.
use Rattle.taken_cells.specs.Removal.{Pulling}
use Rattle.taken_cells.proofs.removal.pulled.Given as goal

abbrev pub invariant-loop-i : goal.invariant-loop-i
invariant-loop-i l = Pulling l.place l.last l.initial.out l.out l.i
