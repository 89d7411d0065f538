-- `weight_sums::tables::compare_counts` meets its contract: both sums and both answers follow the tables, letter by letter. Assumes nothing.
use Rattle.std.proofs.Common.{length}
use Rattle.weight_sums.specs.Tables.{Summing}
use Rattle.weight_sums.proofs.tables.compare_counts.Given as goal

abbrev pub invariant-loop-first_count : goal.invariant-loop-first_count
invariant-loop-first_count l = Summing l.first l.second (length l.yielded) l.sums.first l.sums.second l.at_most l.at_least
