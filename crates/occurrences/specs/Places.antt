-- A letter's place as code tells it, and the inversion by two places.
--     found_place r             the place that an answer tells, if it tells one
--     stands_left p q           whether both places are there and p is left of q
--     before_found             some q stands left of some p exactly where the leftmost q stands left of the rightmost p
--     inversion_places         the same of an i-inversion
-- Assumes nothing.
use Rattle.std.specs.Prelude.{ℕ, suc, ◌≡◌, refl, List, [], ◌∷◌, Bool, true, false, ◌&&◌, ◌||◌, cond, eqb, ltb, Option, Some, None}
use Rattle.std.proofs.Common.{sym, arith, lt-ltb}
use Rattle.std.proofs.Math.Option.{Option as Place, none, some}
use Rattle.std.proofs.Math.Dec.{leb-suc-zero, leb-suc-suc}
use Rattle.hypoplactic.specs.Words.{occurs, before}
use Rattle.quasi_crystal.specs.Moves.{inverted, onward, leftmost, or_here, rightmost}

-- The place that an answer tells.
abbrev pub found_place : Option ℕ → Place ℕ
found_place (Some k) = some k
found_place None = none

-- There is a place.
abbrev is_place : Place ℕ → Bool
is_place none = false
is_place (some k) = true

-- Both places are there, and the first is left of the second.
abbrev pub stands_left : Place ℕ → Place ℕ → Bool
stands_left none q = false
stands_left (some p) none = false
stands_left (some p) (some q) = ltb p q

-- A letter occurs where it has a rightmost place.
occurs-rightmost : (a : ℕ) (w : List ℕ) → occurs a w ≡ is_place (rightmost a w)
occurs-rightmost a [] = refl
occurs-rightmost a (x ∷ w) = go (eqb x a) (rightmost a w) (occurs-rightmost a w)
  where
    go : (b : Bool) (o : Place ℕ) → occurs a w ≡ is_place o → (b || occurs a w) ≡ is_place (or_here b o)
    go true none e = refl
    go true (some k) e = refl
    go false none e = e
    go false (some k) e = e

-- One letter more in front, the tests telling whether it is the left or the right letter of the pair.
left_cons : (is_left is_right : Bool) (l r : Place ℕ)
    → (is_left && is_place r || stands_left l r) ≡ stands_left (cond is_left (some 0) (onward l)) (or_here is_right r)
left_cons true b l (some k) = sym (lt-ltb 0 (suc k) (omega arith))
left_cons true true none none = refl
left_cons true true (some p) none = refl
left_cons true false none none = refl
left_cons true false (some p) none = refl
left_cons false b none r = refl
left_cons false b (some p) (some q) = sym (leb-suc-suc (suc p) q)
left_cons false true (some p) none = sym (leb-suc-zero (suc p))
left_cons false false (some p) none = refl

-- Some q stands left of some p where the leftmost q stands left of the rightmost p.
pub before_found : (p q : ℕ) (w : List ℕ) → before w p q ≡ stands_left (leftmost q w) (rightmost p w)
before_found p q [] = refl
before_found p q (x ∷ w) = rw (occurs-rightmost p w, before_found p q w) (left_cons (eqb x q) (eqb x p) (leftmost q w) (rightmost p w))

-- An i-inversion: the leftmost i+1 stands left of the rightmost i.
pub inversion_places : (i : ℕ) (w : List ℕ) → inverted i w ≡ stands_left (leftmost (suc i) w) (rightmost i w)
inversion_places i w = before_found i (suc i) w
