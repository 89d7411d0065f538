-- `recordings::recording::scan_entries` meets its contract, by the laws of specs/Entries. Assumes nothing.
use Rattle.recordings.specs.Entries.{meeting}
use Rattle.recordings.proofs.recording.scan_entries.Goals as goal

pub loop-place-preserved : goal.loop-place-preserved
loop-place-preserved c = search meeting
