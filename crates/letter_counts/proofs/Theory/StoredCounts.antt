-- What the letter counts of a tableau tell.
--     reading_counts        the letter counts of a tableau are those of its column reading
--     letters_of-counts     two tableaux within the limits with equal letter counts have equal letters
--     class_stored          equal letter counts and equal marks tell whether two column readings are of one class
--     weights_same          words that have each letter equally often compare alike
--     weights_stored        the comparison of weights of two column readings is that of the tableaux' letters
--     one_truth             two tests that pass exactly when one fact holds are equal
-- Each tableau is within the limits of its own rank. Assumes nothing.
use Prim.Native.Nat.{ℕ, zero, suc, ◌≤◌}
use mathlib.Core.Path.{◌≡◌, refl, sym, ap, ap₂, ◌∙◌}
use mathlib.Core.Logic.{◌↔◌}
use mathlib.Core.List.{List}
use mathlib.Core.Bool.{Bool, true, false, ◌&&◌}
use native.Mathlib.Omega.{arith}
use lib.Dec.{leb}
use lib.ListN.{drop, get_or}
use borrow.Author.Tests.{eq-eqb}
use Rattle.hypoplactic.specs.Words.{count}
use Rattle.outcomes.specs.Counts.{counts_from, counts_of}
use Rattle.hypoplactic.specs.Ribbons.{Tableau, TableauAt}
use Rattle.hypoplactic.specs.Reading.{column_reading}
use Rattle.hypoplactic.specs.Junctions.{same_class, same_counts}
use Rattle.hypoplactic.specs.Weights.{at_most, comparison, compare_weights}
use Rattle.hypoplactic.proofs.Theory.Boundary.{along_of_tableau}
use Rattle.quasi_crystal.proofs.Theory.Closure.{reading_accepted}
use Rattle.hypoplactic.proofs.Theory.Contents.{sum_same}
use Rattle.outcomes.proofs.Theory.Counts.{counts_same}
use Rattle.hypoplactic.proofs.Theory.Letters.{rising_unique}
use Rattle.hypoplactic.proofs.Theory.Limits.{accepted_within, and_both, count-outside}
use Rattle.hypoplactic.proofs.Theory.Pairs.{Rising}
use Rattle.hypoplactic.proofs.Theory.ReadBack.{read_back}
use Rattle.hypoplactic.proofs.Theory.SameClass.{by_range, counts_tested, same_class_lem, tested_counts}
use Rattle.hypoplactic.proofs.Theory.Seating.{rising_of_along}
use Rattle.products.proofs.Theory.ProductContents.{reading_count}
use Rattle.numbering.proofs.Theory.ClassSize.{same_equal, same_refl}
use Rattle.numbering.specs.Dictionary.{same_list}
use Rattle.letter_counts.specs.TwoTableaux.{same_stored}

-- ---- the letters of a tableau and its column reading

-- The letter counts of a tableau are those of its column reading.
pub reading_counts : (xs ms : List ℕ) → Tableau xs ms → counts_of (column_reading xs ms) ≡ counts_of xs
reading_counts xs ms h = counts_same (column_reading xs ms) xs (reading_count xs ms h)

-- ---- equal counts

-- Equal counts pass the test of them.
counts_test : (n k : ℕ) (u v : List ℕ) → counts_from n k u ≡ counts_from n k v → same_counts n k u v ≡ true
counts_test zero k u v e = refl
counts_test (suc n) k u v e = ap₂ ◌&&◌ (eq-eqb _ _ (ap (λ (cs : List ℕ). get_or cs 0 0) e)) (counts_test n (suc k) u v (ap (drop 1) e))

-- The letters of a tableau never fall.
letters_rise : (xs ms : List ℕ) → Tableau xs ms → Rising 0 xs
letters_rise xs ms h = rising_of_along 0 xs ms (along_of_tableau xs ms h)

-- Two tests that pass exactly when one fact holds are equal.
pub one_truth : {P : Type 0} (a b : Bool) → (a ≡ true) ↔ P → (b ≡ true) ↔ P → a ≡ b
one_truth true b p q = sym (q.1 (p.0 refl))
one_truth false true p q = p.1 (q.0 refl)
one_truth false false p q = refl

module _ {n m : ℕ} {xs ms ys ns : List ℕ} (h : TableauAt n xs ms) (k : TableauAt m ys ns) where
  -- Two tableaux that pass the test of their counts have equal letters,
  tested_letters : same_counts 64 1 xs ys ≡ true → xs ≡ ys
  tested_letters e =
      let tested : (a : ℕ) → 1 ≤ a → a ≤ 64 → count a xs ≡ count a ys = λ a l g. tested_counts 64 1 xs ys e a l (omega arith) in
      rising_unique 0 xs ys (letters_rise xs ms h.tableau) (letters_rise ys ns k.tableau)
      (by_range 64 (λ a. count a xs) (λ a. count a ys) tested
      (λ a o. count-outside a xs (accepted_within h.word) o ∙ sym (count-outside a ys (accepted_within k.word) o)))

  -- and so have two with equal letter counts.
  pub letters_of-counts : counts_of xs ≡ counts_of ys → xs ≡ ys
  unfolding counts_of
  letters_of-counts e = tested_letters (counts_test 64 1 xs ys e)

  -- ---- classes

  -- Equal counts and equal marks are equal tableaux.
  stored_tableaux : (same_stored xs ms ys ns ≡ true) ↔ ((xs ≡ ys) × (ms ≡ ns))
  unfolding same_stored
  stored_tableaux = (
    λ e. let both = and_both (same_counts 64 1 xs ys) (same_list ms ns) e in (tested_letters both.0, same_equal ms ns both.1),
    λ e. ap₂ ◌&&◌ (counts_tested 64 1 xs ys (λ a. ap (count a) e.0)) (rw (← e.1) (same_refl ms)),
  )

  -- So are two column readings of one class.
  class_tableaux : (same_class (column_reading xs ms) (column_reading ys ns) ≡ true) ↔ ((xs ≡ ys) × (ms ≡ ns))
  class_tableaux =
      let (letters, marks) = read_back xs ms h.tableau in
      let (letters', marks') = read_back ys ns k.tableau in
      let told = same_class_lem (column_reading xs ms) (column_reading ys ns) (accepted_within (reading_accepted h)) (accepted_within (reading_accepted k)) in (
        λ e. let both = told.0 e in (sym letters ∙ both.0 ∙ letters', sym marks ∙ both.1 ∙ marks'),
        λ e. told.1 (letters ∙ e.0 ∙ sym letters', marks ∙ e.1 ∙ sym marks'),
      )

  -- What is stored tells whether the two column readings are of one class.
  pub class_stored : same_class (column_reading xs ms) (column_reading ys ns) ≡ same_stored xs ms ys ns
  class_stored = one_truth (same_class (column_reading xs ms) (column_reading ys ns)) (same_stored xs ms ys ns) class_tableaux stored_tableaux

-- ---- weights

-- Words that have each letter equally often have equal sums of counts (sum_same), which compare alike.
at_most_same : (k : ℕ) (u v u' v' : List ℕ) → ((a : ℕ) → count a u ≡ count a u') → ((a : ℕ) → count a v ≡ count a v') → at_most k u v ≡ at_most k u' v'
at_most_same zero u v u' v' e f = refl
at_most_same (suc k) u v u' v' e f = ap₂ ◌&&◌ (at_most_same k u v u' v' e f) (ap₂ leb (sum_same (suc k) u u' e) (sum_same (suc k) v v' f))

pub weights_same : (u v u' v' : List ℕ) → ((a : ℕ) → count a u ≡ count a u') → ((a : ℕ) → count a v ≡ count a v')
    → compare_weights u v ≡ compare_weights u' v'
unfolding compare_weights
weights_same u v u' v' e f = ap₂ comparison (at_most_same 64 u v u' v' e f) (at_most_same 64 v u v' u' f e)

-- The comparison of two column readings is that of the tableaux' letters.
pub weights_stored : (xs ms ys ns : List ℕ) → Tableau xs ms → Tableau ys ns
    → compare_weights (column_reading xs ms) (column_reading ys ns) ≡ compare_weights xs ys
weights_stored xs ms ys ns h k = weights_same (column_reading xs ms) (column_reading ys ns) xs ys (reading_count xs ms h) (reading_count ys ns k)
