-- `words::junctions::junction_bits` meets its contract, by the laws of specs/Junctions. Assumes nothing.
use Rattle.words.specs.Junctions.{building}
use Rattle.words.proofs.junctions.junction_bits.Goals as goal

pub loop-a-init : goal.loop-a-init
loop-a-init c = search building

pub loop-a-preserved : goal.loop-a-preserved
loop-a-preserved c = search building
