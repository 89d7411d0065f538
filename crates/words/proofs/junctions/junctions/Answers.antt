-- `words::junctions::junctions` meets its contract. Assumes nothing.
use Rattle.acceptance.specs.Passed.{passed_word}
use Rattle.words.proofs.junctions.junctions.Goals as goal

pub junction_bits-set-requires : goal.junction_bits-set-requires
junction_bits-set-requires c = passed_word _ _ c.in_ok-check_word.ensures
