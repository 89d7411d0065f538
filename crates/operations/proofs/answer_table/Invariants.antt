-- `operations::answer_table` is safe and ends: each line is cut off. Assumes nothing.
use Rattle.std.proofs.Common.{length}
use Rattle.operations.proofs.answer_table.Given as goal

abbrev pub decreases-loop-rest : goal.decreases-loop-rest
decreases-loop-rest g l = length l.rest
