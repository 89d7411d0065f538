-- `columns::reading::write_reading` meets its contract, by the laws of specs/Reading. Assumes nothing.
use Rattle.columns.specs.Reading.{end_reading}
use Rattle.columns.proofs.reading.write_reading.Goals as goal

pub returns : goal.returns
returns c = end_reading c.loop-start.invariant c.in_default.ensures
