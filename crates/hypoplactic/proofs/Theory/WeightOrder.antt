-- The comparison of weights is formula 2.1 of the paper, for every k.
--     compare_weights_lem   the answer is c exactly when what c says holds
-- Assumes nothing.
use Prim.Native.Nat.{ℕ, zero, suc, ◌+◌, ◌≤◌, ◌<◌}
use mathlib.Core.Path.{◌≡◌, refl, sym, ap, ap₂, ◌∙◌, subst}
use mathlib.Core.Logic.{◌↔◌, ◌⊎◌, inl, inr}
use mathlib.Core.List.{List}
use mathlib.Core.Bool.{Bool, true, false, ◌&&◌, false≢true}
use borrow.Author.Tests.{le-leb, leb-true}
use native.Mathlib.Nat.{add-zero, le_of_eq, le-suc_iff}
use native.Mathlib.Decide.{le_ind}
use native.Mathlib.Omega.{arith}
use lib.Dec.{leb}
use Rattle.hypoplactic.specs.Words.{Within}
use Rattle.hypoplactic.specs.Weights.{sum_to, at_most, Comparison, equal, lower, higher, neither, comparison, compare_weights, Below, SameWeight, Compared}
use Rattle.hypoplactic.proofs.Theory.Limits.{and_both, count-outside}
use Rattle.hypoplactic.proofs.Theory.Pairs.{le-or-lt}

-- Equal sums have equal terms.
sums_counts : (u v : List ℕ) → Below u v → Below v u → SameWeight u v
sums_counts u v p q zero h = let z : ⊥ = omega arith in absurd z
sums_counts u v p q (suc a) h = omega (arith, p a, q a, p (suc a), q (suc a))

counts_sums : (u v : List ℕ) → SameWeight u v → (k : ℕ) → sum_to k u ≡ sum_to k v
counts_sums u v e zero = refl
counts_sums u v e (suc k) = ap₂ ◌+◌ (counts_sums u v e k) (e (suc k) (omega arith))

-- From n on, the sums of a word within n stay as they are.
sum_beyond : (n : ℕ) (w : List ℕ) → Within n w → (k : ℕ) → n ≤ k → sum_to k w ≡ sum_to n w
sum_beyond n w h =
    le_ind (λ (k : ℕ). sum_to k w ≡ sum_to n w) refl
    (λ k l e. ap (λ (c : ℕ). sum_to k w + c) (count-outside (suc k) w h (λ o. omega arith)) ∙ add-zero (sum_to k w) ∙ e)

-- The test looks at the sums of the first 0 to n counts.
at_most_bounds : (n : ℕ) (u v : List ℕ) → at_most n u v ≡ true → (k : ℕ) → k ≤ n → sum_to k u ≤ sum_to k v
at_most_bounds zero u v e zero h = omega arith
at_most_bounds zero u v e (suc k) h = let z : ⊥ = omega arith in absurd z
at_most_bounds (suc n) u v e k h = go (at_most_bounds n u v both.0 k) (le-suc_iff.0 h)
  where
    both : (at_most n u v ≡ true) × (leb (sum_to (suc n) u) (sum_to (suc n) v) ≡ true)
    both = and_both (at_most n u v) _ e

    go : (k ≤ n → sum_to k u ≤ sum_to k v) → (k ≤ n) ⊎ (k ≡ suc n) → sum_to k u ≤ sum_to k v
    go rest (inl l) = rest l
    go rest (inr q) = rw q (leb-true _ _ both.1)

bounds_at_most : (n : ℕ) (u v : List ℕ) → Below u v → at_most n u v ≡ true
bounds_at_most zero u v b = refl
bounds_at_most (suc n) u v b = ap₂ ◌&&◌ (bounds_at_most n u v b) (le-leb _ _ (b (suc n)))

-- For words within n these are all the sums.
at_most-below : (n : ℕ) (u v : List ℕ) → Within n u → Within n v → (at_most n u v ≡ true) ↔ Below u v
at_most-below n u v hu hv = (λ e k. go e k (le-or-lt k n), bounds_at_most n u v)
  where
    go : at_most n u v ≡ true → (k : ℕ) → (k ≤ n) ⊎ (n < k) → sum_to k u ≤ sum_to k v
    go e k (inl h) = at_most_bounds n u v e k h
    go e k (inr h) = omega (arith, sum_beyond n u hu k (omega arith), sum_beyond n v hv k (omega arith), at_most_bounds n u v e n (omega arith))

fails : (b : Bool) {A : Type 0} → (b ≡ true) ↔ A → ¬ A → b ≡ false
fails true h o = absurd (o (h.0 refl))
fails false h o = refl

-- The answer from two tests that decide the two sides of the order.
module _ (u v : List ℕ) where
  answer_holds : (p q : Bool) → (p ≡ true) ↔ Below u v → (q ≡ true) ↔ Below v u → Compared (comparison p q) u v
  answer_holds true true hp hq = sums_counts u v (hp.0 refl) (hq.0 refl)
  answer_holds true false hp hq = (hp.0 refl, λ e. false≢true (hq.1 (λ k. le_of_eq (sym (counts_sums u v e k)))))
  answer_holds false true hp hq = (hq.0 refl, λ e. false≢true (hp.1 (λ k. le_of_eq (counts_sums u v e k))))
  answer_holds false false hp hq = (λ b. false≢true (hp.1 b), λ b. false≢true (hq.1 b))

  holds_answer : (p q : Bool) → (p ≡ true) ↔ Below u v → (q ≡ true) ↔ Below v u → (c : Comparison) → Compared c u v → comparison p q ≡ c
  holds_answer p q hp hq equal e = ap₂ comparison (hp.1 (λ k. le_of_eq (counts_sums u v e k))) (hq.1 (λ k. le_of_eq (sym (counts_sums u v e k))))
  holds_answer p q hp hq lower h = ap₂ comparison (hp.1 h.0) (fails q hq (λ b. h.1 (sums_counts u v h.0 b)))
  holds_answer p q hp hq higher h = ap₂ comparison (fails p hp (λ b. h.1 (sums_counts u v b h.0))) (hq.1 h.0)
  holds_answer p q hp hq neither h = ap₂ comparison (fails p hp h.0) (fails q hq h.1)

  -- The answer is c exactly when what c says holds.
  pub compare_weights_lem : Within 64 u → Within 64 v → (c : Comparison) → (compare_weights u v ≡ c) ↔ Compared c u v
  unfolding compare_weights
  compare_weights_lem hu hv c =
      let p = at_most-below 64 u v hu hv in
      let q = at_most-below 64 v u hv hu in
      (λ e. subst (λ (d : Comparison). Compared d u v) e (answer_holds _ _ p q), holds_answer _ _ p q c)
