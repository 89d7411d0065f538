-- What holds of a line whose limits, 1 and 2, have passed.
--     limit_rank, limit_length, limit_part     the rank is at most 64, there are at most 1,024 items, and so many of 1,024 elements can be taken
-- Assumes nothing.
use Rattle.std.specs.Prelude.{ℕ, ◌≤◌, ◌≡◌, List, [], ◌∷◌, length}
use Rattle.std.proofs.Common.{arith, sym}
use Rattle.outcomes.specs.Judgements.{length_judged, rank_judged}
use Rattle.outcomes.specs.Replies.{first, gives, passed}
use Rattle.outcomes.proofs.Theory.Judgements.{length-judged, rank_judged_lem}
use Rattle.outcomes.proofs.Theory.Passing.{Passing, first-passed}

-- The verdict of 1 and 2 passes.
module _ (n k : ℕ) (e : gives [] ≡ first (rank_judged n ∷ length_judged k ∷ []) passed) where
  passing : Passing (rank_judged n ∷ length_judged k ∷ [])
  passing = (first-passed (rank_judged n ∷ length_judged k ∷ [])).0 (sym e)

  pub limit_rank : n ≤ 64
  limit_rank = let (rank, rest) = passing in ((rank_judged_lem n).0 rank).1

  pub limit_length : k ≤ 1024
  limit_length = let (rank, (size, t)) = passing in (length-judged k).0 size

  -- So many of 1,024 elements can be taken.
  pub limit_part : (xs : List ℕ) → length xs ≡ 1024 → k ≤ length xs
  limit_part xs l = omega (arith, limit_length)
