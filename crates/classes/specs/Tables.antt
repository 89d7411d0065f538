-- Letter counts compared, 64 numbers of each.
--     same_from n j cs ds     n numbers, from place j on, are equal
--     same_tables cs ds       all 64 are
--     same_true              of true letter counts: each letter stands equally often in both words
--     tables_equal           the library's test of two arrays of 64 numbers
-- Assumes nothing.
use Rattle.std.specs.Prelude.{ℕ, zero, suc, ◌+◌, ◌≤◌, ◌<◌, ◌≡◌, refl, List, Bool, true, ◌&&◌, eqb, length, get_or, drop}
use Rattle.std.specs.Cmp.Lexicographic.{pointwise}
use Rattle.std.proofs.Common.{arith, ap, ap₂, drop_of_length-le, drop-cons}
use Rattle.outcomes.specs.Counts.{TrueCounts}
use Rattle.hypoplactic.specs.Junctions.{same_counts}

-- Whether n numbers, from place j on, are equal.
abbrev pub same_from : ℕ → ℕ → List ℕ → List ℕ → Bool
same_from zero j cs ds = true
same_from (suc n) j cs ds = eqb (get_or cs j 0) (get_or ds j 0) && same_from n (suc j) cs ds

-- Whether all 64 are.
unfoldable pub same_tables : List ℕ → List ℕ → Bool
same_tables cs ds = same_from 64 0 cs ds

-- ---- true letter counts

-- They agree where the words' counts do,
same_from_lem : (u v : List ℕ) {cs ds : List ℕ} → TrueCounts u cs → TrueCounts v ds → (n j : ℕ) → j + n ≤ 64 → same_from n j cs ds ≡ same_counts n (suc j) u v
same_from_lem u v f g zero j h = refl
same_from_lem u v f g (suc n) j h = ap₂ ◌&&◌ (ap₂ eqb (f.entry j (omega arith)) (g.entry j (omega arith))) (same_from_lem u v f g n (suc j) (omega arith))

-- all 64 of them.
pub same_true : (u v : List ℕ) {cs ds : List ℕ} → TrueCounts u cs → TrueCounts v ds → same_tables cs ds ≡ same_counts 64 1 u v
unfolding same_tables
same_true u v f g = same_from_lem u v f g 64 0 (omega arith)

-- ---- the test

-- From place j on, n numbers, which are the last.
tables_from : (n j : ℕ) (cs ds : List ℕ) → length cs ≡ j + n → length ds ≡ j + n → pointwise eqb (drop j cs) (drop j ds) ≡ same_from n j cs ds
tables_from zero j cs ds p q =
    let none : length cs ≤ j = omega arith in
    let none' : length ds ≤ j = omega arith in
    rw (drop_of_length-le cs none, drop_of_length-le ds none')
tables_from (suc n) j cs ds p q =
    let more : j < length cs = omega arith in
    let more' : j < length ds = omega arith in
    rw (drop-cons cs j 0 more, drop-cons ds j 0 more')
    (ap (λ (b : Bool). eqb (get_or cs j 0) (get_or ds j 0) && b) (tables_from n (suc j) cs ds (omega arith) (omega arith)))

-- The test of two arrays of 64 numbers.
pub tables_equal : (cs ds : List ℕ) → length cs ≡ 64 → length ds ≡ 64 → pointwise eqb cs ds ≡ same_tables cs ds
unfolding same_tables
tables_equal = tables_from 64 0
