-- One byte more is moved.
use Rattle.taken_cells.specs.Removal.{pulling_turn}
use Rattle.taken_cells.proofs.removal.pulled.Goals as goal

pub loop-i-preserved : goal.loop-i-preserved
loop-i-preserved c = pulling_turn c.loop-i.invariant c.loop-i-test.true
