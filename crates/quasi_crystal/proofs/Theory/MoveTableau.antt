-- Moves on a word and on its tableau (paper, section 5; document 01, "Moves").
--     inversion_below    an i-inversion of a word is i+1 directly below i in its tableau
--     tableau-moved      the tableau of a moved word is the moved tableau
--     tableau_unmoved    where a move is undefined on a word, it is undefined on its tableau
--     tableau_answer     both in one equation
-- Assumes nothing.
use Prim.Native.Nat.{ℕ, suc, ◌≤◌, ◌<◌}
use mathlib.Core.Path.{◌≡◌, refl, ap, ◌∙◌}
use mathlib.Core.Logic.{◌⊎◌, inl, inr}
use mathlib.Core.List.{List, [], ◌∷◌}
use mathlib.Core.Bool.{Bool, true, false, ◌&&◌, ◌||◌, and-false}
use mathlib.Core.Option.{Option, none, some, map}
use native.Mathlib.Omega.{arith}
use lib.Dec.{eqb, ltb}
use borrow.Author.Tests.{eqb-true, eqb-false, eq-eqb, lt-ltb}
use Rattle.hypoplactic.specs.Words.{tick, occurs, before}
use Rattle.hypoplactic.specs.Ribbons.{down_after}
use Rattle.hypoplactic.specs.Insertion.{letters_of, marks_of}
use Rattle.quasi_crystal.specs.Moves.{Move, taken, inverted, from_to, below, moved, moved_word, moved_tableau, remaining}
use Rattle.hypoplactic.specs.Places.{marks_after, marks_by}
use Rattle.hypoplactic.proofs.Theory.Pairs.{Rising, le-or-lt, letters-rising}
use Rattle.hypoplactic.proofs.Theory.Occurrences.{occurs_count, before_absent}
use Rattle.hypoplactic.proofs.Theory.Letters.{count-letters, occurs_low}
use Rattle.hypoplactic.proofs.Theory.Marks.{marks_before}
use Rattle.quasi_crystal.proofs.Theory.Undo.{occurs_lacks, lacks_before, moved_turned}
use Rattle.quasi_crystal.proofs.Theory.MoveRecording.{turned_pair}
use Rattle.quasi_crystal.proofs.Theory.MoveCounts.{Counted, moved_counted}

-- ---- letters that never fall

-- Letters that never fall have no inversion.
pub rising_upright : (i k : ℕ) (xs : List ℕ) → Rising k xs → inverted i xs ≡ false
rising_upright i k [] r = refl
rising_upright i k (x ∷ xs) r = go (eqb x (suc i)) refl (rising_upright i x xs r.1)
  where
    go : (t : Bool) → eqb x (suc i) ≡ t → inverted i xs ≡ false → inverted i (x ∷ xs) ≡ false
    go true e rest = rw (e, occurs_low i x xs (omega (arith, eqb-true x (suc i) e)) r.1) rest
    go false e rest = rw e rest

-- ---- the inversion in the tableau

-- The mark of a step tells whether it goes down.
mark_told_lem : (d b : Bool) → (eqb (tick d 0) 1 || b && d) ≡ d
mark_told_lem true b = refl
mark_told_lem false b = and-false b

-- The cells of rising letters with the marks by D, after one that holds x.
below-after-marks : (D : ℕ → ℕ → Bool) (i x : ℕ) (xs : List ℕ) → Rising x xs
    → down_after (from_to i) x xs (marks_after D x xs) ≡ (occurs i (x ∷ xs) && occurs (suc i) xs && D i (suc i))
below-after-marks D i x [] r = rw and-false
below-after-marks D i x (y ∷ ys) r = rw (below-after-marks D i y ys r.1) (go (eqb x i) refl (eqb y (suc i)) refl)
  where
    go : (s : Bool) → eqb x i ≡ s → (t : Bool) → eqb y (suc i) ≡ t
        → (eqb x i && eqb y (suc i) && eqb (tick (ltb x y && D x y) 0) 1 || occurs i (y ∷ ys) && occurs (suc i) ys && D i (suc i))
        ≡ ((eqb x i || occurs i (y ∷ ys)) && occurs (suc i) (y ∷ ys) && D i (suc i))
    go true e true f =
        let p : x ≡ i = eqb-true x i e in
        let q : y ≡ suc i = eqb-true y (suc i) f in
        rw (e, f, p, q, lt-ltb i (suc i) (omega arith)) (mark_told_lem (D i (suc i)) (occurs i (suc i ∷ ys) && occurs (suc i) ys))
    go true e false f = rw (e, f) (beyond (le-or-lt y i))
      where
        beyond : (y ≤ i) ⊎ (i < y) → (occurs i (y ∷ ys) && occurs (suc i) ys && D i (suc i)) ≡ (occurs (suc i) ys && D i (suc i))
        beyond (inl h) = rw (eq-eqb y i (omega (arith, eqb-true x i e)))
        beyond (inr h) = rw (occurs_low (suc i) y ys (omega (arith, eqb-false y (suc i) f)) r.1, and-false)
    go false e true f = rw (e, f, occurs_low i y (y ∷ ys) (omega (arith, eqb-true y (suc i) f)) (omega arith, r.1))
    go false e false f = rw (e, f)

-- The same from the first cell on.
below-marks : (D : ℕ → ℕ → Bool) (i k : ℕ) (xs : List ℕ) → Rising k xs → below i xs (marks_by D xs) ≡ (occurs i xs && occurs (suc i) xs && D i (suc i))
below-marks D i k [] r = refl
below-marks D i k (x ∷ xs) r = below-after-marks D i x xs r.1 ∙ go (eqb x (suc i)) refl
  where
    go : (t : Bool) → eqb x (suc i) ≡ t → (occurs i (x ∷ xs) && occurs (suc i) xs && D i (suc i)) ≡ (occurs i (x ∷ xs) && occurs (suc i) (x ∷ xs) && D i (suc i))
    go true e = rw (occurs_low i x (x ∷ xs) (omega (arith, eqb-true x (suc i) e)) (omega arith, r.1))
    go false e = rw e

-- Letters in some order stand in the word.
before-both : (w : List ℕ) (p q : ℕ) → (occurs p w && occurs q w && before w p q) ≡ before w p q
before-both w p q = go (occurs p w) refl (occurs q w) refl
  where
    go : (s : Bool) → occurs p w ≡ s → (t : Bool) → occurs q w ≡ t → (occurs p w && occurs q w && before w p q) ≡ before w p q
    go true e true f = rw (e, f)
    go true e false f = rw (e, f, before_absent w p q f)
    go false e t f = rw (e, lacks_before p q w (occurs_lacks p w e))

-- The letters of the tableau are those of the word.
occurs-letters : (a : ℕ) (w : List ℕ) → occurs a (letters_of w) ≡ occurs a w
occurs-letters a w = rw (occurs_count a (letters_of w), occurs_count a w, count-letters a w)

-- An i-inversion of a word is i+1 directly below i in its tableau.
pub inversion_below : (i : ℕ) (w : List ℕ) → below i (letters_of w) (marks_of w) ≡ inverted i w
inversion_below i w = rw (marks_before w, below-marks (before w) i 0 (letters_of w) (letters-rising w), occurs-letters i w, occurs-letters (suc i) w) (before-both w i (suc i))

-- ---- the moved tableau

module _ (m : Move) (w : List ℕ) where
  -- The tableau's test for an inversion is the word's.
  tableau_test : moved_tableau m (letters_of w) (marks_of w) ≡ moved (inverted m.index w) m (letters_of w)
  tableau_test = ap (λ (b : Bool). moved b m (letters_of w)) (inversion_below m.index w)

  -- The tableau of a moved word is the moved tableau.
  pub tableau-moved : (v : List ℕ) → moved_word m w ≡ some v → moved_tableau m (letters_of w) (marks_of w) ≡ some (letters_of v)
  tableau-moved v e =
      let t = (moved_turned m (inverted m.index w) w v (λ f. f)).0 e in
      tableau_test ∙ (moved_turned m (inverted m.index w) (letters_of w) (letters_of v) (λ f. rising_upright m.index 0 (letters_of w) (letters-rising w))).1
      (t.0, (turned_pair m.side m.index w v t.1).0)

  -- Where a move is undefined on a word, it is undefined on its tableau.
  pub tableau_unmoved : moved_word m w ≡ none → moved_tableau m (letters_of w) (marks_of w) ≡ none
  tableau_unmoved e =
      let z : remaining m (inverted m.index w) w ≡ 0 = rw e at (moved_counted m (inverted m.index w) w (λ f. f)) in
      tableau_test ∙ go (moved (inverted m.index w) m (letters_of w)) (rw (count-letters (taken m.side m.index) w) z)
      (moved_counted m (inverted m.index w) (letters_of w) (λ f. rising_upright m.index 0 (letters_of w) (letters-rising w)))
    where
      go : (o : Option (List ℕ)) → remaining m (inverted m.index w) (letters_of w) ≡ 0 → Counted m (inverted m.index w) (letters_of w) o → o ≡ none
      go none z c = refl
      go (some v) z c = let n : ⊥ = omega arith in absurd n

  -- Both at once: the move is defined on both or on neither, and its answer on the tableau is the tableau of its answer on the word.
  pub tableau_answer : moved_tableau m (letters_of w) (marks_of w) ≡ map letters_of (moved_word m w)
  tableau_answer = go (moved_word m w) refl
    where
      go : (o : Option (List ℕ)) → moved_word m w ≡ o → moved_tableau m (letters_of w) (marks_of w) ≡ map letters_of o
      go none e = tableau_unmoved e
      go (some v) e = tableau-moved v e
