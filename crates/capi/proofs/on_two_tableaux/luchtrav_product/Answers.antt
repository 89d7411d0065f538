-- `capi::on_two_tableaux::luchtrav_product` meets its contract: the answer is passed on beside the lent memory. Assumes nothing.
use Rattle.structs.specs.Handing.{passed_on}
use Rattle.capi.proofs.on_two_tableaux.luchtrav_product.Goals as goal

pub returns : goal.returns
returns c = passed_on _ _ _ _ _ c.from.ensures c.product.ensures
