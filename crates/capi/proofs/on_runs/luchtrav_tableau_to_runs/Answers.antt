-- `capi::on_runs::luchtrav_tableau_to_runs` meets its contract: the answer is passed on beside the lent memory. Assumes nothing.
use Rattle.structs.specs.Handing.{passed_on}
use Rattle.capi.proofs.on_runs.luchtrav_tableau_to_runs.Goals as goal

pub returns : goal.returns
returns c = passed_on _ _ _ _ _ c.from.ensures c.tableau_to_runs.ensures
