-- The step of the comparison of weights (document 02, N2), of any two words u and v.
--     stepped_weights     from both sums of the first k counts and the two next counts it gives both sums of the first k + 1
--     step_only           no other function of these four numbers does so for all accepted words
--     Carried u v k a b   a and b are what k steps over the counts of u and v leave of 0 and 0
--     carried_weights     these, and only these, are both sums of the first k counts
-- Assumes nothing.
use Prim.Native.Nat.{ℕ, zero, suc, ◌+◌, ◌≤◌}
use native.Mathlib.Nat.{zero-add}
use native.Mathlib.Omega.{arith}
use mathlib.Core.Path.{◌≡◌, refl, ap, ◌∙◌}
use mathlib.Core.Logic.{◌↔◌}
use mathlib.Core.List.{List, [], ◌∷◌}
use lib.ListN.{length}
use Rattle.hypoplactic.specs.Words.{Accepted, Within, count}
use Rattle.hypoplactic.specs.Weights.{sum_to}
use Rattle.weight_sums.specs.Sums.{Stepped}

-- One step, from both sums of the first k counts to both of the first k + 1.
pub stepped_weights : (u v : List ℕ) (k : ℕ) {c d : ℕ} → Stepped (sum_to k u) (sum_to k v) (count (suc k) u) (count (suc k) v) c d
    → (c ≡ sum_to (suc k) u) × (d ≡ sum_to (suc k) v)
stepped_weights u v k s = (s.first, s.second)

-- ---- nothing else is a step

-- So many letters 1 and then so many letters 2.
abbrev ones_twos : ℕ → ℕ → List ℕ
ones_twos zero zero = []
ones_twos zero (suc x) = 2 ∷ ones_twos zero x
ones_twos (suc a) x = 1 ∷ ones_twos a x

count_ones : (a x : ℕ) → count 1 (ones_twos a x) ≡ a
count_ones zero zero = refl
count_ones zero (suc x) = count_ones zero x
count_ones (suc a) x = ap suc (count_ones a x)

count_twos : (a x : ℕ) → count 2 (ones_twos a x) ≡ x
count_twos zero zero = refl
count_twos zero (suc x) = ap suc (count_twos zero x)
count_twos (suc a) x = count_twos a x

length_ones : (a x : ℕ) → length (ones_twos a x) ≡ a + x
length_ones zero zero = refl
length_ones zero (suc x) = ap suc (length_ones zero x) ∙ omega arith
length_ones (suc a) x = ap suc (length_ones a x) ∙ omega arith

within_ones : (a x : ℕ) → Within 2 (ones_twos a x)
within_ones zero zero = tt
within_ones zero (suc x) = (omega arith, omega arith, within_ones zero x)
within_ones (suc a) x = (omega arith, omega arith, within_ones a x)

accepted_ones : (a x : ℕ) → a + x ≤ 1024 → Accepted 2 (ones_twos a x)
accepted_ones a x h = record { rank_low = omega arith; rank_high = omega arith; short = omega (arith, length_ones a x); letters = within_ones a x }

-- A function of both sums and both next counts that gives both next sums, for all accepted words of one rank, is the step on all numbers that such words have.
pub step_only : (f : ℕ → ℕ → ℕ → ℕ → ℕ × ℕ)
    → ((n : ℕ) (u v : List ℕ) (k : ℕ) → Accepted n u → Accepted n v
    → f (sum_to k u) (sum_to k v) (count (suc k) u) (count (suc k) v) ≡ (sum_to (suc k) u, sum_to (suc k) v))
    → (a b x y : ℕ) → a + x ≤ 1024 → b + y ≤ 1024 → Stepped a b x y (f a b x y).0 (f a b x y).1
step_only f p a b x y h i =
    let both : f a b x y ≡ (a + x, b + y) =
    rw (count_ones a x, count_ones b y, count_twos a x, count_twos b y, zero-add a, zero-add b)
    at (p 2 (ones_twos a x) (ones_twos b y) 1 (accepted_ones a x h) (accepted_ones b y i)) in
    record { first = ap (λ (r : ℕ × ℕ). r.0) both; second = ap (λ (r : ℕ × ℕ). r.1) both }

-- ---- step after step

-- From 0 and 0, one step for each of the first k letters.
pub data Carried (u v : List ℕ) : ℕ → ℕ → ℕ → Type 0 where
  begin : Carried u v 0 0 0
  step : {k a b c d : ℕ} → Carried u v k a b → Stepped a b (count (suc k) u) (count (suc k) v) c d → Carried u v (suc k) c d

-- What is carried along are the sums,
carried_are : (u v : List ℕ) {k a b : ℕ} → Carried u v k a b → (a ≡ sum_to k u) × (b ≡ sum_to k v)
carried_are u v begin = (refl, refl)
carried_are u v (step {k} c s) =
    let so_far = carried_are u v c in
    stepped_weights u v k (rw (so_far.0, so_far.1) at s)

-- and the sums are carried along.
sums_carried : (u v : List ℕ) (k : ℕ) → Carried u v k (sum_to k u) (sum_to k v)
sums_carried u v zero = begin
sums_carried u v (suc k) = step (sums_carried u v k) (record { first = refl; second = refl })

pub carried_weights : (u v : List ℕ) {k a b : ℕ} → Carried u v k a b ↔ ((a ≡ sum_to k u) × (b ≡ sum_to k v))
carried_weights u v {k} = (carried_are u v, λ e. rw (e.0, e.1) (sums_carried u v k))
