-- `recordings::recording::check_entries` meets its contract: no bit is set in the table at first. Assumes nothing.
use Rattle.recordings.specs.Seen.{seen_none}
use Rattle.recordings.proofs.recording.check_entries.Goals as goal

pub scan_entries-requires-clause-seen : goal.scan_entries-requires-clause-seen
scan_entries-requires-clause-seen c = seen_none 1024
