-- `outputs::printing::print_reading` meets its contract, by the laws of specs. Assumes nothing.
use Rattle.outputs.specs.ThreeLines.{printing}
use Rattle.outputs.proofs.printing.print_reading.Goals as goal

pub unwrap-end-requires : goal.unwrap-end-requires
unwrap-end-requires c = search printing

pub slice_bounds-reading-end : goal.slice_bounds-reading-end
slice_bounds-reading-end c = search printing

pub slice_bounds-write_word_line-end : goal.slice_bounds-write_word_line-end
slice_bounds-write_word_line-end c = search printing

pub returns-in_default : goal.returns-in_default
returns-in_default c = search printing

pub returns : goal.returns
returns c = search printing
