-- `notation::items::byte_at` ends: each turn leaves less of the text. Assumes nothing.
use Rattle.std.proofs.Common.{length}
use Rattle.notation.proofs.items.byte_at.Given as goal

abbrev pub decreases-loop-rest : goal.decreases-loop-rest
decreases-loop-rest l = length l.rest
