-- `capi::on_tableaux::luchtrav_column_reading` meets its contract: the answer is passed on beside the lent memory. Assumes nothing.
use Rattle.structs.specs.Handing.{passed_on}
use Rattle.capi.proofs.on_tableaux.luchtrav_column_reading.Goals as goal

pub returns : goal.returns
returns c = passed_on _ _ _ _ _ c.from.ensures c.column_reading.ensures
