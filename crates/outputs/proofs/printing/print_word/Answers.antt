-- `outputs::printing::print_word` meets its contract, by the laws of specs. Assumes nothing.
use Rattle.outputs.specs.ThreeLines.{printing}
use Rattle.outputs.proofs.printing.print_word.Goals as goal

pub unwrap-cells-requires : goal.unwrap-cells-requires
unwrap-cells-requires c = search printing

pub slice_bounds-letters-end : goal.slice_bounds-letters-end
slice_bounds-letters-end c = search printing

pub slice_bounds-pair-end : goal.slice_bounds-pair-end
slice_bounds-pair-end c = search printing

pub slice_bounds-marks-end : goal.slice_bounds-marks-end
slice_bounds-marks-end c = search printing

pub slice_bounds-pair-end-2 : goal.slice_bounds-pair-end-2
slice_bounds-pair-end-2 c = search printing

pub slice_bounds-entries-end : goal.slice_bounds-entries-end
slice_bounds-entries-end c = search printing

pub slice_bounds-pair-end-3 : goal.slice_bounds-pair-end-3
slice_bounds-pair-end-3 c = search printing

pub print_lines-requires-clause-held : goal.print_lines-requires-clause-held
print_lines-requires-clause-held c = search printing
