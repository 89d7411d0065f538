-- The words of a class are those that its tableau tells as a ribbon with a free first step; so the class is as large as that has orders.
--     same_equal, same_refl     same_list is equality
--     class_kept                a word has the tableau exactly when the ribbon keeps it
--     tableau_open              a tableau is such a ribbon
--     class_words_lem               the words of a class in dictionary order, by orders
--     class_size_lem                how many they are
-- Assumes nothing.
use Prim.Native.Nat.{ℕ, zero, suc, ◌≤◌, ◌<◌}
use native.Mathlib.Omega.{arith}
use mathlib.Core.Path.{◌≡◌, refl, sym, ap, ap₂, ◌∙◌}
use mathlib.Core.Logic.{◌⊎◌, inl, inr, ◌↔◌}
use mathlib.Core.Bool.{Bool, true, false, ◌&&◌, false≢true}
use mathlib.Core.List.{List, [], ◌∷◌}
use lib.Dec.{eqb, ltb}
use lib.ListN.{length, drop}
use borrow.Author.Tests.{eq-eqb, eqb-true, lt-ltb, le-ltb}
use Rattle.hypoplactic.specs.Words.{Within, before, count, tick}
use Rattle.hypoplactic.specs.Ribbons.{Along, LetterStep, Tableau}
use Rattle.hypoplactic.specs.Insertion.{letters_of, marks_of}
use Rattle.hypoplactic.specs.Places.{marks_after, marks_by}
use Rattle.hypoplactic.proofs.Theory.Boundary.{along_of_tableau}
use Rattle.hypoplactic.proofs.Theory.Letters.{count-letters, rising_unique}
use Rattle.hypoplactic.proofs.Theory.Limits.{and_both}
use Rattle.hypoplactic.proofs.Theory.Marks.{marks_before}
use Rattle.hypoplactic.proofs.Theory.Pairs.{Rising, le-or-lt, letters-rising}
use Rattle.hypoplactic.proofs.Theory.Seating.{rising_of_along}
use Rattle.numbering.specs.Dictionary.{class_size, class_words, in_class, same_list}
use Rattle.numbering.specs.Orders.{freed, head_of, orders, taken_words}
use Rattle.numbering.proofs.Theory.Choices.{LinkStep, OpenRibbon}
use Rattle.numbering.proofs.Theory.Kept.{Kept, KeptStep}
use Rattle.numbering.proofs.Theory.Taken.{taken-kept, taken_size}

-- ---- equal lists

pub same_refl : (xs : List ℕ) → same_list xs xs ≡ true
same_refl [] = refl
same_refl (x ∷ xs) = rw (eq-eqb x x refl) (same_refl xs)

pub same_equal : (xs ys : List ℕ) → same_list xs ys ≡ true → xs ≡ ys
same_equal [] [] e = refl
same_equal [] (y ∷ ys) e = absurd (false≢true e)
same_equal (x ∷ xs) [] e = absurd (false≢true e)
same_equal (x ∷ xs) (y ∷ ys) e =
    let both : (eqb x y ≡ true) × (same_list xs ys ≡ true) = and_both (eqb x y) (same_list xs ys) e in
    ap₂ ◌∷◌ (eqb-true x y both.0) (same_equal xs ys both.1)

-- ---- marks and kept steps

module _ (w : List ℕ) where
  -- The mark of a step by the order of letters in the word is the tableau's exactly when the word keeps the step.
  step_kept : (m p q : ℕ) → LetterStep m p q → (tick (ltb p q && before w p q) 0 ≡ m) ↔ KeptStep w m p q
  step_kept zero p q h = (λ e l. right (before w p q) (rw (lt-ltb p q l) at e), λ k. down (le-or-lt q p) k)
    where
      right : (b : Bool) → tick (true && b) 0 ≡ 0 → b ≡ false
      right true e = let z : ⊥ = omega arith in absurd z
      right false e = refl

      down : (q ≤ p) ⊎ (p < q) → (p < q → before w p q ≡ false) → tick (ltb p q && before w p q) 0 ≡ 0
      down (inl l) k = rw (le-ltb p q l)
      down (inr l) k = rw (lt-ltb p q l, k l)
  step_kept (suc zero) p q h = (λ e. yes (before w p q) (rw (lt-ltb p q h) at e), λ k. rw (lt-ltb p q h, k))
    where
      yes : (b : Bool) → tick (true && b) 0 ≡ 1 → b ≡ true
      yes true e = refl
      yes false e = let z : ⊥ = omega arith in absurd z
  step_kept (suc (suc m)) p q h = absurd h

  marks-kept : (p : ℕ) (xs ms : List ℕ) → Along LetterStep p xs ms → (marks_after (before w) p xs ≡ ms) ↔ Along (KeptStep w) p xs ms
  marks-kept p [] [] h = (λ e. tt, λ k. refl)
  marks-kept p [] (m ∷ ms) h = absurd h
  marks-kept p (x ∷ xs) [] h = absurd h
  marks-kept p (x ∷ xs) (m ∷ ms) h =
      let step : (tick (ltb p x && before w p x) 0 ≡ m) ↔ KeptStep w m p x = step_kept m p x h.0 in
      let rest : (marks_after (before w) x xs ≡ ms) ↔ Along (KeptStep w) x xs ms = marks-kept x xs ms h.1 in
      (λ e. (step.0 (ap head_of e), rest.0 (ap (drop 1) e)), λ k. ap₂ ◌∷◌ (step.1 k.0) (rest.1 k.1))

  first-kept : (xs ms : List ℕ) → Tableau xs ms → (marks_by (before w) xs ≡ ms) ↔ Along (KeptStep w) 0 xs (freed ms)
  first-kept [] [] h = (λ e. tt, λ k. refl)
  first-kept [] (m ∷ ms) h = absurd h
  first-kept (x ∷ xs) [] h = absurd h
  first-kept (x ∷ xs) (m ∷ ms) h =
      let rest : (marks_after (before w) x xs ≡ ms) ↔ Along (KeptStep w) x xs ms = marks-kept x xs ms h.1 in
      (λ e. (tt, rest.0 (ap (drop 1) e)), λ k. ap₂ ◌∷◌ (sym h.0) (rest.1 k.1))

  -- A word has a tableau exactly when the ribbon with a free first step keeps it.
  pub class_kept : (xs ms : List ℕ) → Tableau xs ms → (in_class xs ms w ≡ true) ↔ Kept xs (freed ms) w
  class_kept xs ms h = (there, back)
    where
      there : in_class xs ms w ≡ true → Kept xs (freed ms) w
      there e =
          let both : (same_list (letters_of w) xs ≡ true) × (same_list (marks_of w) ms ≡ true) = and_both (same_list (letters_of w) xs) (same_list (marks_of w) ms) e in
          let letters : letters_of w ≡ xs = same_equal (letters_of w) xs both.0 in
          let marks : marks_of w ≡ ms = same_equal (marks_of w) ms both.1 in
          record {
            counts = λ b. ap (count b) (sym letters) ∙ count-letters b w;
            steps = (first-kept xs ms h).0 (ap (marks_by (before w)) (sym letters) ∙ sym (marks_before w) ∙ marks);
          }

      back : Kept xs (freed ms) w → in_class xs ms w ≡ true
      back k =
          let rising : Rising 0 xs = rising_of_along 0 xs ms (along_of_tableau xs ms h) in
          let letters : letters_of w ≡ xs = rising_unique 0 (letters_of w) xs (letters-rising w) rising (λ a. count-letters a w ∙ sym (k.counts a)) in
          let marks : marks_of w ≡ ms = marks_before w ∙ ap (marks_by (before w)) letters ∙ (first-kept xs ms h).1 k.steps in
          rw (letters, marks, same_refl xs, same_refl ms)

-- ---- classes

letter_links : (p : ℕ) (xs ms : List ℕ) → Along LetterStep p xs ms → Along LinkStep p xs ms
letter_links p [] [] h = tt
letter_links p [] (m ∷ ms) h = absurd h
letter_links p (x ∷ xs) [] h = absurd h
letter_links p (x ∷ xs) (m ∷ ms) h = (link m h.0, letter_links x xs ms h.1)
  where
    link : (m : ℕ) → LetterStep m p x → LinkStep m p x
    link zero k = k
    link (suc zero) k = k
    link (suc (suc m)) k = absurd k

-- A tableau is a ribbon with a free first step.
pub tableau_open : (n : ℕ) (xs ms : List ℕ) → Within n xs → Tableau xs ms → OpenRibbon n (length xs) xs (freed ms)
tableau_open n [] [] w h = record { cells = refl; letters = w; linked = tt; first = tt }
tableau_open n [] (m ∷ ms) w h = absurd h
tableau_open n (x ∷ xs) [] w h = absurd h
tableau_open n (x ∷ xs) (m ∷ ms) w h = record { cells = refl; letters = w; linked = (omega (arith, w.0), letter_links x xs ms h.1); first = refl }

module _ (n : ℕ) (xs ms : List ℕ) (w : Within n xs) (h : Tableau xs ms) where
  -- The words of a class in dictionary order are those that its ribbon tells.
  pub class_words_lem : class_words n xs ms ≡ taken_words (length xs) xs (freed ms)
  unfolding class_words
  class_words_lem = taken-kept n (length xs) xs (freed ms) (in_class xs ms) (tableau_open n xs ms w h) (λ v. class_kept v xs ms h)

  -- How many they are.
  pub class_size_lem : class_size n xs ms ≡ orders (freed ms)
  class_size_lem = ap length class_words_lem ∙ taken_size n (length xs) xs (freed ms) (tableau_open n xs ms w h)
