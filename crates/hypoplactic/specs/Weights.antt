-- Weights and their comparison (paper, section 2.3, formula 2.1; document 01, "Weights").
--     sum_to k w          the sum of the first k letter counts
--     compare_weights     the first word's weight against the second's: equal, lower, higher or neither
--     Below u v          formula 2.1: each sum of the first k letter counts of u is at most that of v
--     SameWeight u v     each letter stands equally often in both
--     Compared c u v     what the answer c says of u and v
-- Assumes nothing.
use Rattle.std.specs.Prelude.{ℕ, zero, suc, ◌+◌, ◌≤◌, ◌≡◌, List, Bool, true, false, ◌&&◌, leb}
use Rattle.hypoplactic.specs.Words.{count}

-- The sum of the counts of the letters 1 to k.
abbrev pub sum_to : ℕ → List ℕ → ℕ
sum_to zero w = 0
sum_to (suc k) w = sum_to k w + count (suc k) w

-- Each sum of the first 1 to k counts is at most that of the second word.
abbrev pub at_most : ℕ → List ℕ → List ℕ → Bool
at_most zero u v = true
at_most (suc k) u v = at_most k u v && leb (sum_to (suc k) u) (sum_to (suc k) v)

pub data Comparison : Type 0 where
  equal lower higher neither : Comparison

-- From "the first is at most the second" and the reverse.
abbrev pub comparison : Bool → Bool → Comparison
comparison true true = equal
comparison true false = lower
comparison false true = higher
comparison false false = neither

unfoldable pub compare_weights : List ℕ → List ℕ → Comparison
compare_weights u v = comparison (at_most 64 u v) (at_most 64 v u)

-- Formula 2.1: the weight of u is at most that of v.
abbrev pub Below : List ℕ → List ℕ → Type 0
Below u v = (k : ℕ) → sum_to k u ≤ sum_to k v

-- Equal weights: each letter stands equally often in both words.
abbrev pub SameWeight : List ℕ → List ℕ → Type 0
SameWeight u v = (a : ℕ) → 1 ≤ a → count a u ≡ count a v

-- What an answer says of two words.
abbrev pub Compared : Comparison → List ℕ → List ℕ → Type 0
Compared equal u v = SameWeight u v
Compared lower u v = Below u v × ¬ SameWeight u v
Compared higher u v = Below v u × ¬ SameWeight u v
Compared neither u v = (¬ Below u v) × (¬ Below v u)
