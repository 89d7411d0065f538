-- The same_class_lem test decides equality of tableaux, for words with letters 1 to 64 (document 01, "Same class"; document 02, N5).
--     same_class_lem      the test passes exactly when letters and marks of the two tableaux are equal
--     before_neighbours     the order of neighbouring letters, by the junction of the smaller
--     tested_counts, counts_tested     the test of the counts passes exactly for equal counts of the letters that it looks at
--     by_range        what is equal for the letters 1 to n and for every other number is equal for all
-- Assumes nothing.
use Prim.Native.Nat.{ℕ, zero, suc, ◌+◌, ◌≤◌, ◌<◌}
use mathlib.Core.Path.{◌≡◌, refl, sym, ap, ap₂, ◌∙◌}
use mathlib.Core.Logic.Dec
use mathlib.Core.Logic.{◌↔◌, ◌⊎◌, inl, inr, dite}
use mathlib.Core.List.{List}
use mathlib.Core.Bool.{Bool, true, false, ◌&&◌}
use mathlib.Core.Option.{some}
use borrow.Author.Tests.{eq-eqb, eqb-true, lt-ltb}
use native.Mathlib.Nat.{eq-or-lt_of_le, eq-zero-or-pos}
use native.Mathlib.Numerals.{one-add}
use native.Mathlib.Decide.{dec_le}
use native.Mathlib.Omega.{arith}
use lib.Dec.{eqb}
use Rattle.hypoplactic.specs.Words.{Inside, Within, before, count, occurs}
use Rattle.hypoplactic.specs.Insertion.{letters_of, marks_of}
use Rattle.hypoplactic.specs.Junctions.{down_out, junction, junction_set, next_larger, same_class, same_counts}
use Rattle.hypoplactic.proofs.Theory.Bits.{bits_number, number_bits}
use Rattle.hypoplactic.proofs.Theory.DownSteps.{junction_down, left_occurs}
use Rattle.hypoplactic.proofs.Theory.Letters.{count-letters, letters_same}
use Rattle.hypoplactic.proofs.Theory.Limits.{and_both, count-outside, occurs_none}
use Rattle.hypoplactic.proofs.Theory.Marks.{Apart, marks_same}
use Rattle.hypoplactic.proofs.Theory.NextLarger.{next_is}
use Rattle.hypoplactic.proofs.Theory.Occurrences.{before_absent, occurs_count, occurs_same}

-- ---- the test of the counts

-- It looks at the letters k, .., k + n - 1.
pub tested_counts : (n k : ℕ) (u v : List ℕ) → same_counts n k u v ≡ true → (a : ℕ) → k ≤ a → a < k + n → count a u ≡ count a v
tested_counts zero k u v e a l h = let z : ⊥ = omega arith in absurd z
tested_counts (suc n) k u v e a l h = go (λ m. tested_counts n (suc k) u v both.1 a m (omega arith)) (eq-or-lt_of_le l)
  where
    both : (eqb (count k u) (count k v) ≡ true) × (same_counts n (suc k) u v ≡ true)
    both = and_both (eqb (count k u) (count k v)) (same_counts n (suc k) u v) e

    go : (k < a → count a u ≡ count a v) → (k ≡ a) ⊎ (k < a) → count a u ≡ count a v
    go rest (inl q) = rw (← q) (eqb-true _ _ both.0)
    go rest (inr m) = rest m

pub counts_tested : (n k : ℕ) (u v : List ℕ) → ((a : ℕ) → count a u ≡ count a v) → same_counts n k u v ≡ true
counts_tested zero k u v e = refl
counts_tested (suc n) k u v e = ap₂ ◌&&◌ (eq-eqb _ _ (e k)) (counts_tested n (suc k) u v e)

-- ---- from the letters 1 to n to all numbers

-- What is equal for the letters 1 to n, and for every other number, is equal for all.
pub by_range : (n : ℕ) {A : Type 0} (f g : ℕ → A) → ((a : ℕ) → 1 ≤ a → a ≤ n → f a ≡ g a) → ((a : ℕ) → ¬ Inside n a → f a ≡ g a) → (a : ℕ) → f a ≡ g a
by_range n f g within outside a = dite (Dec.and (dec_le 1 a) (dec_le a n)) (λ h. within a h.0 h.1) (outside a)

-- A letter outside 1 to n has no junction in a word within n.
junction-outside : {n : ℕ} (a : ℕ) (w : List ℕ) → Within n w → ¬ Inside n a → junction w a ≡ false
junction-outside a w h o = sym (left_occurs w a (next_larger a w)) ∙ ap (λ (b : Bool). b && junction w a) (occurs_none a w (count-outside a w h o))

-- ---- the tableau and the class tell each other

-- Of p < q with no letter of the word between them, some q stands left of some p exactly where q occurs and p has a junction.
pub before_neighbours : (w : List ℕ) (p q : ℕ) → p < q → Apart p q w → before w p q ≡ (occurs q w && junction w p)
before_neighbours w p q l apart = go (eq-zero-or-pos (count q w))
  where
    go : (count q w ≡ 0) ⊎ (0 < count q w) → before w p q ≡ (occurs q w && junction w p)
    go (inl z) = let absent : occurs q w ≡ false = occurs_none q w z in before_absent w p q absent ∙ rw absent
    go (inr h) = rw (next_is p w (some q) (l, h, apart), occurs_count q w, lt-ltb 0 (count q w) h)

module _ (u v : List ℕ) where
  -- Equal counts and equal junctions make equal marks.
  junctions_marks : ((a : ℕ) → count a u ≡ count a v) → ((a : ℕ) → junction u a ≡ junction v a) → marks_of u ≡ marks_of v
  junctions_marks c j =
      marks_same u v c
      (λ p q l apart.
      before_neighbours u p q l apart ∙ ap₂ ◌&&◌ (occurs_same q u v (c q)) (j p)
      ∙ sym (before_neighbours v p q l (λ x g k. sym (c x) ∙ apart x g k)))

  -- Equal junction sets are equal junctions, of the letters 1 to 64 and so of all.
  set_junctions : Within 64 u → Within 64 v → junction_set u ≡ junction_set v → (a : ℕ) → junction u a ≡ junction v a
  unfolding junction_set
  set_junctions hu hv e = by_range 64 (junction u) (junction v) inside (λ a o. junction-outside a u hu o ∙ sym (junction-outside a v hv o))
    where
      inside : (a : ℕ) → 1 ≤ a → a ≤ 64 → junction u a ≡ junction v a
      inside zero l h = let z : ⊥ = omega arith in absurd z
      inside (suc a) l h = rw (← one-add a) (number_bits (junction u) (junction v) 64 1 e a (omega arith))

  -- The junction set depends on the tableau alone.
  tableau-set : letters_of u ≡ letters_of v → marks_of u ≡ marks_of v → junction_set u ≡ junction_set v
  unfolding junction_set
  tableau-set e m = bits_number (junction u) (junction v) 64 1 (λ j h. junction_down u (1 + j) ∙ ap₂ (down_out (1 + j)) e m ∙ sym (junction_down v (1 + j)))

  class_tableau : Within 64 u → Within 64 v → same_class u v ≡ true → (letters_of u ≡ letters_of v) × (marks_of u ≡ marks_of v)
  unfolding same_class
  class_tableau hu hv e =
      let p = and_both (same_counts 64 1 u v) (eqb (junction_set u) (junction_set v)) e in
      let tested : (a : ℕ) → 1 ≤ a → a ≤ 64 → count a u ≡ count a v = λ a l h. tested_counts 64 1 u v p.0 a l (omega arith) in
      let c = by_range 64 (λ a. count a u) (λ a. count a v) tested (λ a o. count-outside a u hu o ∙ sym (count-outside a v hv o)) in
      (letters_same u v c, junctions_marks c (set_junctions hu hv (eqb-true _ _ p.1)))

  tableau_class : (letters_of u ≡ letters_of v) × (marks_of u ≡ marks_of v) → same_class u v ≡ true
  unfolding same_class
  tableau_class h =
      let c : (a : ℕ) → count a u ≡ count a v = λ a. sym (count-letters a u) ∙ ap (count a) h.0 ∙ count-letters a v in
      ap₂ ◌&&◌ (counts_tested 64 1 u v c) (eq-eqb _ _ (tableau-set h.0 h.1))

  -- The test passes exactly when the tableaux are equal.
  pub same_class_lem : Within 64 u → Within 64 v → (same_class u v ≡ true) ↔ ((letters_of u ≡ letters_of v) × (marks_of u ≡ marks_of v))
  same_class_lem hu hv = (class_tableau hu hv, tableau_class)
