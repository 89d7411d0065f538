-- `capi::on_pairs::luchtrav_word_of_pair` meets its contract: the answer is passed on beside the lent memory. Assumes nothing.
use Rattle.structs.specs.Handing.{passed_on}
use Rattle.capi.proofs.on_pairs.luchtrav_word_of_pair.Goals as goal

pub returns : goal.returns
returns c = passed_on _ _ _ _ _ c.from.ensures c.word_of_pair.ensures
