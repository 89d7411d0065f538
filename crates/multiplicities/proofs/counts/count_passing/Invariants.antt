-- The invariant: what the parts so far have is counted, and what the iterator has left is not.
use Rattle.std.specs.Prelude.{◌≡◌}
use Rattle.std.specs.Slice.Iter.{chunks_rest, chunks_size}
use Rattle.multiplicities.proofs.Remaining.{Remaining}
use Rattle.multiplicities.proofs.counts.count_passing.Given as goal

abbrev pub invariant-loop-part : goal.invariant-loop-part
invariant-loop-part g l =
    (goal.iterator-loop-part g).can_next l.part-iterator
    × (goal.iterator-loop-part g).is_finite l.part-iterator
    × (chunks_size l.part-iterator ≡ 1024)
    × Remaining (goal.F-post g l.test) l.letters (chunks_rest l.part-iterator) l.found
