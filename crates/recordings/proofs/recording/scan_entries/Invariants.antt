-- `recordings::recording::scan_entries` meets its contract, by the laws of specs/Entries. Assumes nothing.
use lib.ListN.{length}
use Rattle.recordings.specs.Entries.{Meeting}
use Rattle.recordings.proofs.recording.scan_entries.Given as goal

abbrev pub invariant-loop-place : goal.invariant-loop-place
invariant-loop-place l = Meeting l.limit (length l.initial.seen) l.entries l.seen l.place
