-- `outputs::printing::print_lines` meets its contract, by the laws of specs. Assumes nothing.
use Rattle.outputs.specs.ThreeLines.{printing}
use Rattle.outputs.proofs.printing.print_lines.Goals as goal

pub print_pair-first-requires-clause-pair_at : goal.print_pair-first-requires-clause-pair_at
print_pair-first-requires-clause-pair_at c = search printing

pub print_pair-first-requires-clause-entries_in_bounds : goal.print_pair-first-requires-clause-entries_in_bounds
print_pair-first-requires-clause-entries_in_bounds c = search printing

pub print_reading-requires-clause-tableau_at : goal.print_reading-requires-clause-tableau_at
print_reading-requires-clause-tableau_at c = search printing

pub print_reading-requires-clause-true_counts : goal.print_reading-requires-clause-true_counts
print_reading-requires-clause-true_counts c = search printing

pub print_reading-requires-clause-marks_in_bounds : goal.print_reading-requires-clause-marks_in_bounds
print_reading-requires-clause-marks_in_bounds c = search printing

pub print_junctions-requires : goal.print_junctions-requires
print_junctions-requires c = search printing

pub returns : goal.returns
returns c = search printing
