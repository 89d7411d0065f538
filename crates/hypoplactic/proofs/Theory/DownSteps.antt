-- The junctions of a word are the down steps of its tableau: the junction set has one bit for each letter that a down step goes out of.
--     junction_down     a has a junction exactly when a down step goes out of a cell with the letter a
--     down_above        there is no down step out of a letter below all cells
--     left_occurs       a letter that another stands left of occurs
-- Assumes nothing.
use Prim.Native.Nat.{ℕ, ◌≤◌, ◌<◌}
use mathlib.Core.Path.{◌≡◌, refl, sym, ap, ap₂, ◌∙◌}
use mathlib.Core.Logic.{◌⊎◌, inl, inr}
use mathlib.Core.List.{List, [], ◌∷◌}
use mathlib.Core.Bool.{Bool, true, false, ◌&&◌, ◌||◌, and-false, or-false}
use mathlib.Core.Option.{Option, none, some}
use borrow.Author.Tests.{eq-eqb, le-ltb, lt-ltb, ne_eqb}
use native.Mathlib.Nat.{eq-or-lt_of_le}
use native.Mathlib.Omega.{arith}
use lib.Dec.{eqb, ltb}
use Rattle.hypoplactic.specs.Words.{before, occurs, tick}
use Rattle.hypoplactic.specs.Ribbons.{down_after}
use Rattle.hypoplactic.specs.Insertion.{letters_of, marks_of}
use Rattle.hypoplactic.specs.Junctions.{out_of, down_out, junction, left_of, next_larger}
use Rattle.hypoplactic.specs.Places.{marks_after, marks_by}
use Rattle.hypoplactic.proofs.Theory.Letters.{count-letters, occurs_low}
use Rattle.hypoplactic.proofs.Theory.Marks.{marks_before}
use Rattle.hypoplactic.proofs.Theory.NextLarger.{next_rising, next_same}
use Rattle.hypoplactic.proofs.Theory.Occurrences.{occurs_count}
use Rattle.hypoplactic.proofs.Theory.Pairs.{Rising, letters-rising, le-or-lt}

-- ---- the down steps of marks that the word's order makes

-- Cells above a have no down step out of a.
pub down_above : (a x : ℕ) (xs ms : List ℕ) → a < x → Rising x xs → down_after (out_of a) x xs ms ≡ false
down_above a x [] ms l r = refl
down_above a x (y ∷ ys) [] l r = refl
down_above a x (y ∷ ys) (m ∷ ms) l r = rw (ne_eqb x a (λ e. omega arith)) (down_above a y ys ms (omega arith) r.1)

-- The mark that a test makes is 1 where the test passes.
mark_is : (b : Bool) → eqb (tick b 0) 1 ≡ b
mark_is true = refl
mark_is false = refl

-- Walking over the letters at most a, the step down out of a is the one into the next larger letter.
down_next : (w : List ℕ) (a x : ℕ) (xs : List ℕ) → x ≤ a → Rising x xs
    → down_after (out_of a) x xs (marks_after (before w) x xs) ≡ (occurs a (x ∷ xs) && left_of w a (next_larger a xs))
down_next w a x [] h r = sym (and-false (eqb x a || false))
down_next w a x (y ∷ ys) h r = go (λ l. down_next w a y ys l r.1) (eq-or-lt_of_le h) (le-or-lt y a)
  where
    go : (y ≤ a → down_after (out_of a) y ys (marks_after (before w) y ys) ≡ (occurs a (y ∷ ys) && left_of w a (next_larger a ys)))
        → (x ≡ a) ⊎ (x < a) → (y ≤ a) ⊎ (a < y)
        → down_after (out_of a) x (y ∷ ys) (marks_after (before w) x (y ∷ ys)) ≡ (occurs a (x ∷ y ∷ ys) && left_of w a (next_larger a (y ∷ ys)))
    go rest (inl e) (inl l) = rw (rest l, le-ltb x y (omega arith), le-ltb a y l, eq-eqb x a e, eq-eqb y a (omega arith))
    go rest (inr k) (inl l) = rw (rest l, le-ltb a y l, ne_eqb x a (λ e. omega arith))
    go rest (inl e) (inr l) =
        rw (next_rising a y ys l r.1, e, eq-eqb a a refl, lt-ltb a y l, mark_is (before w a y), down_above a y ys (marks_after (before w) y ys) l r.1)
        (or-false (before w a y))
    go rest (inr k) (inr l) =
        rw (ne_eqb x a (λ e. omega arith), down_above a y ys (marks_after (before w) y ys) l r.1, occurs_low a y (y ∷ ys) l (omega arith, r.1))

-- The same from the first cell on.
down_letters : (w : List ℕ) (a k : ℕ) (xs : List ℕ) → Rising k xs → down_out a xs (marks_by (before w) xs) ≡ (occurs a xs && left_of w a (next_larger a xs))
down_letters w a k [] r = refl
down_letters w a k (x ∷ xs) r = go (le-or-lt x a)
  where
    go : (x ≤ a) ⊎ (a < x) → down_out a (x ∷ xs) (marks_by (before w) (x ∷ xs)) ≡ (occurs a (x ∷ xs) && left_of w a (next_larger a (x ∷ xs)))
    go (inl h) = rw (le-ltb a x h) (down_next w a x xs h r.1)
    go (inr h) = rw (down_above a x xs (marks_after (before w) x xs) h r.1, occurs_low a x (x ∷ xs) h (omega arith, r.1))

-- ---- junctions

before-occurs : (w : List ℕ) (p q : ℕ) → (occurs p w && before w p q) ≡ before w p q
before-occurs [] p q = refl
before-occurs (x ∷ xs) p q = go (eqb x p) (occurs p xs) (eqb x q) (before xs p q) (before-occurs xs p q)
  where
    go : (s o t b : Bool) → (o && b) ≡ b → ((s || o) && (t && o || b)) ≡ (t && o || b)
    go true o t b e = refl
    go false true t b e = refl
    go false false t b e = rw (and-false t) e

-- A letter that another stands left of occurs.
pub left_occurs : (w : List ℕ) (a : ℕ) (o : Option ℕ) → (occurs a w && left_of w a o) ≡ left_of w a o
left_occurs w a none = and-false (occurs a w)
left_occurs w a (some q) = before-occurs w a q

-- A letter has a junction exactly when a down step goes out of a cell that holds it.
pub junction_down : (w : List ℕ) (a : ℕ) → junction w a ≡ down_out a (letters_of w) (marks_of w)
junction_down w a = sym
    (ap (down_out a (letters_of w)) (marks_before w)
    ∙ down_letters w a 0 (letters_of w) (letters-rising w)
    ∙ ap₂ (λ (b : Bool) (o : Option ℕ). b && left_of w a o) (occurs_count a (letters_of w) ∙ ap (ltb 0) (count-letters a w) ∙ sym (occurs_count a w))
    (next_same a (letters_of w) w (λ b. count-letters b w))
    ∙ left_occurs w a (next_larger a w))
