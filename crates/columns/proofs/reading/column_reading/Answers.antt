-- `columns::reading::column_reading` meets its contract, by the laws of specs/Reading. Assumes nothing.
use Rattle.columns.specs.Reading.{reading_passed}
use Rattle.columns.proofs.reading.column_reading.Goals as goal

pub returns : goal.returns
returns c = reading_passed _ _ _ _ _ c.check_reading.ensures _ c.in_ok-check_reading.was c.write_reading.ensures
