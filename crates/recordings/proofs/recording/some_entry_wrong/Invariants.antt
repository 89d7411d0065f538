-- `recordings::recording::some_entry_wrong` meets its contract, by the laws of specs/Noted. Assumes nothing.
use Rattle.recordings.specs.Noted.{Noting}
use Rattle.recordings.proofs.recording.some_entry_wrong.Given as goal

abbrev pub invariant-loop-entry : goal.invariant-loop-entry
invariant-loop-entry l = Noting l.limit l.entries l.noted l.entry-index l.wrong
