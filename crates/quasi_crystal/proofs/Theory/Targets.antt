-- The place that a move's rule names is one of the word's, and a rank only takes places away (document 01, "Moves").
--     Below n o                          a place, if there is one, is below n
--     leftmost-below, rightmost-below    of the leftmost and the rightmost letter
--     target_below                       of the letter that the rule names
--     place-below                        of the place that a move changes at a rank
--     unguarded                          what is there at a rank is there without it
-- Assumes nothing.
use Prim.Native.Nat.{ℕ, suc, ◌<◌}
use native.Mathlib.Omega.{arith}
use mathlib.Core.Path.{◌≡◌, subst}
use mathlib.Core.Bool.{Bool, true, false, cond}
use mathlib.Core.Option.{Option, none, some, none-ne-some}
use mathlib.Core.List.{List, [], ◌∷◌}
use lib.Dec.{eqb}
use lib.ListN.{length}
use Rattle.quasi_crystal.specs.Moves.{Side, raising, lowering, Move, changed_place, guarded, index_of, leftmost, onward, or_here, rightmost, target}

abbrev pub Below : ℕ → Option ℕ → Type 0
Below n none = Unit {0}
Below n (some k) = k < n

leftmost-below : (a : ℕ) (w : List ℕ) → Below (length w) (leftmost a w)
leftmost-below a [] = tt
leftmost-below a (x ∷ w) = go (eqb x a) (leftmost a w) (leftmost-below a w)
  where
    go : (b : Bool) (o : Option ℕ) → Below (length w) o → Below (suc (length w)) (cond b (some 0) (onward o))
    go true o h = omega arith
    go false none h = tt
    go false (some k) h = omega arith

rightmost-below : (a : ℕ) (w : List ℕ) → Below (length w) (rightmost a w)
rightmost-below a [] = tt
rightmost-below a (x ∷ w) = go (eqb x a) (rightmost a w) (rightmost-below a w)
  where
    go : (b : Bool) (o : Option ℕ) → Below (length w) o → Below (suc (length w)) (or_here b o)
    go true none h = omega arith
    go false none h = tt
    go b (some k) h = omega arith

pub target_below : (s : Side) (i : ℕ) (w : List ℕ) → Below (length w) (target s i w)
target_below raising i w = leftmost-below (suc i) w
target_below lowering i w = rightmost-below i w

pub place-below : (n : ℕ) (m : Move) (b : Bool) (w : List ℕ) (p : ℕ) → guarded n m (changed_place b m w) ≡ some p → p < length w
place-below n m b w p e = subst (Below (length w)) e (go (index_of n m.index) b)
  where
    go : (t b : Bool) → Below (length w) (cond t (changed_place b m w) none)
    go true true = tt
    go true false = target_below m.side m.index w
    go false b = tt

-- What is there at a rank is there without it.
pub unguarded : {A : Type 0} {v : A} (n : ℕ) (m : Move) (o : Option A) → guarded n m o ≡ some v → o ≡ some v
unguarded {v = v} n m o e = go (index_of n m.index) e
  where
    go : (t : Bool) → cond t o none ≡ some v → o ≡ some v
    go true e = e
    go false e = absurd (none-ne-some v e)
