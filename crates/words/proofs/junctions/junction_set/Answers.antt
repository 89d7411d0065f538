-- `words::junctions::junction_set` meets its contract, by the laws of specs/Given. Assumes nothing.
use Rattle.words.specs.Given.{giving}
use Rattle.words.proofs.junctions.junction_set.Goals as goal

pub junction_bits-requires : goal.junction_bits-requires
junction_bits-requires c = search giving

pub returns-in-Err : goal.returns-in-Err
returns-in-Err c = search giving
