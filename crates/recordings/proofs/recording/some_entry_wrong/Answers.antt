-- `recordings::recording::some_entry_wrong` meets its contract, by the laws of specs/Noted. Assumes nothing.
use Rattle.std.specs.Prelude.{refl}
use Rattle.recordings.specs.Noted.{turn_noting}
use Rattle.recordings.proofs.recording.some_entry_wrong.Goals as goal

pub loop-entry-preserved : goal.loop-entry-preserved
loop-entry-preserved c = turn_noting c.loop-entry.invariant c.loop-entry-test.true c.from-number.ensures c.number_outside.ensures refl refl
