-- `capi::on_words::luchtrav_pair_of_word` meets its contract: the answer is passed on beside the lent memory. Assumes nothing.
use Rattle.structs.specs.Handing.{passed_on}
use Rattle.capi.proofs.on_words.luchtrav_pair_of_word.Goals as goal

pub returns : goal.returns
returns c = passed_on _ _ _ _ _ c.from.ensures c.pair_of_word.ensures
