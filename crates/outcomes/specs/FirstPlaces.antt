-- The first such place (document 01, "Returned instead of a result"), as the theorems on the checks 4 to 8 say it: each check is a scan over the places of
-- its input, and a scan refuses at the first place whose fault stands.
--     scan k i size fault    refused with k at the first of so many places, counted from i, whose fault stands; passed where none does
--     First fault size d     what that place is: a fault stands there, and none before it
--     shorter xs ms          the length of the shorter of two lists: 6 and 8 judge the places that both have
--     mark_fault xs ms p      the fault that 6 looks for
-- Assumes nothing.
use Rattle.std.specs.Prelude.{ℕ, zero, suc, ◌<◌, ◌≡◌, Bool, true, false, ◌&&◌, ◌||◌, List, [], ◌∷◌, eqb, ltb, get_or}
use Rattle.outcomes.specs.Replies.{Said, passed, refuse_if}

-- The first of size places, counted from i, at which the fault stands.
abbrev pub scan : ℕ → ℕ → ℕ → (ℕ → Bool) → Said
scan k i zero fault = passed
scan k i (suc size) fault = refuse_if (fault 0) k i (scan k (suc i) size (λ q. fault (suc q)))

-- A fault stands at the d-th place of so many, and at none before it.
pub record First (fault : ℕ → Bool) (size d : ℕ) : Type 0 where
  pub within : d < size
  pub stands : fault d ≡ true
  pub none_before : (q : ℕ) → q < d → fault q ≡ false

-- As long as the shorter of two lists.
abbrev pub shorter : List ℕ → List ℕ → ℕ
shorter [] ms = 0
shorter (x ∷ xs) [] = 0
shorter (x ∷ xs) (m ∷ ms) = suc (shorter xs ms)

-- A first mark that is not 0; later a mark that is not 0 or 1, or down between equals.
abbrev pub mark_fault : List ℕ → List ℕ → ℕ → Bool
mark_fault xs ms zero = ltb 0 (get_or ms 0 0)
mark_fault xs ms (suc q) = ltb 1 (get_or ms (suc q) 0) || eqb (get_or ms (suc q) 0) 1 && eqb (get_or xs q 0) (get_or xs (suc q) 0)
