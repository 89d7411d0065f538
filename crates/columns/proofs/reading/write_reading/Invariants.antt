-- `columns::reading::write_reading` meets its contract, by the laws of specs/Reading. Assumes nothing.
use Rattle.std.proofs.Common.{length, ◌-◌}
use Rattle.columns.specs.Reading.{Reading}
use Rattle.columns.proofs.reading.write_reading.Given as goal

abbrev pub invariant-loop-start : goal.invariant-loop-start
invariant-loop-start l = Reading l.letters l.marks l.fn.word l.word l.end

abbrev pub decreases-loop-start : goal.decreases-loop-start
decreases-loop-start l = length l.marks - l.end
