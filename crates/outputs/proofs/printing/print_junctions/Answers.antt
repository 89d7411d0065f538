-- `outputs::printing::print_junctions` meets its contract, by the laws of specs. Assumes nothing.
use Rattle.outputs.specs.ThreeLines.{printing}
use Rattle.outputs.proofs.printing.print_junctions.Goals as goal

pub returns-in_default : goal.returns-in_default
returns-in_default c = search printing

pub returns : goal.returns
returns c = search printing
