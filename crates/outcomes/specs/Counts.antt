-- Letter counts (document 02, N6): 64 numbers that a tableau brings along, that of the letter a at place a - 1.
--     counts_of w           how often each of the letters 1 to 64 stands in w
--     with_counts xs        letters beside their counts
--     counts_judged cs xs   17: the first of 64 places whose number is not how often its letter stands in xs
--     TrueCounts xs cs     what 17 lets through: each of the 64 numbers is its letter's count
--     one_more cs a         the numbers after one more letter a
--     one_over cs a b       the numbers after one letter a has become b
-- Elements are looked up and none is counted, so that nothing rests on how many numbers there are: lent memory has 64, and a place beyond reads as 0.
-- Assumes nothing.
use Rattle.std.specs.Prelude.{ℕ, zero, suc, ◌-◌, ◌<◌, ◌≡◌, Bool, not, List, [], ◌∷◌, eqb, get_or, set}
use Rattle.hypoplactic.specs.Words.{count}
use Rattle.outcomes.specs.Replies.{Said}
use Rattle.outcomes.specs.FirstPlaces.{scan}

-- The counts of so many letters, from k on.
abbrev pub counts_from : ℕ → ℕ → List ℕ → List ℕ
counts_from zero k w = []
counts_from (suc n) k w = count k w ∷ counts_from n (suc k) w

unfoldable pub counts_of : List ℕ → List ℕ
counts_of w = counts_from 64 1 w

-- Letters beside their counts.
abbrev pub with_counts : List ℕ → List ℕ × List ℕ
with_counts xs = (xs, counts_of xs)

-- Whether the number at place i is not the count of its letter.
abbrev pub count_fault : List ℕ → List ℕ → ℕ → Bool
count_fault cs xs i = not (eqb (get_or cs i 0) (count (suc i) xs))

-- 17: the first wrong number's letter minus 1.
unfoldable pub counts_judged : List ℕ → List ℕ → Said
counts_judged cs xs = scan 17 0 64 (count_fault cs xs)

pub record TrueCounts (xs cs : List ℕ) : Type 0 where
  pub entry : (i : ℕ) → i < 64 → get_or cs i 0 ≡ count (suc i) xs

-- One more of the letter a,
abbrev pub one_more : List ℕ → ℕ → List ℕ
one_more cs a = set cs (a - 1) (suc (get_or cs (a - 1) 0))

-- and one less.
abbrev pub one_less : List ℕ → ℕ → List ℕ
one_less cs a = set cs (a - 1) (get_or cs (a - 1) 0 - 1)

abbrev pub one_over : List ℕ → ℕ → ℕ → List ℕ
one_over cs a b = one_more (one_less cs a) b
