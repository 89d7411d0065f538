-- The place that a move changes in letters, or why there is none, b telling whether there is an inversion.
--     side_of s             the side of the written meaning; move_by s i the move
--     found_target o        a place, if there is one
--     target_by b o         the same unless there is an inversion
--     target_of b s i w     the place that the move changes in the letters w
--     target-within         the place is one of the letters'
--     target-lacking       there is no place to change where no letter is to be changed
-- Assumes nothing.
use Rattle.std.specs.Prelude.{ℕ, suc, ◌<◌, ◌≡◌, refl, List, [], ◌∷◌, Bool, true, false, cond, eqb, length, Result, Ok, Err}
use Rattle.std.proofs.Common.{arith, ne_eqb}
use Rattle.std.proofs.Math.Option.{Option as Place, none, some}
use Rattle.hypoplactic.specs.Words.{tick, count}
use Rattle.quasi_crystal.specs.Moves.{Side, raising, lowering, Move, taken, onward, leftmost, or_here, rightmost, target}
use Rattle.quasi_crystal.proofs.Theory.Targets.{Below, target_below}
use Rattle.operators.specs.declared.changes.Side.{Side as Chosen}
use Rattle.operators.specs.declared.changes.Side.TheVariants.{Raising, Lowering}
use Rattle.refusals.specs.declared.refusal.Refusal.{Refusal}
use Rattle.refusals.specs.declared.refusal.Refusal.TheVariants.{Inversion, NoLetter}

-- The side of the written meaning.
abbrev pub side_of : Chosen → Side
side_of Raising = raising
side_of Lowering = lowering

-- The move of the written meaning.
abbrev pub move_by : Chosen → ℕ → Move
move_by s i = record { side = side_of s; index = i }

-- A place, if there is one.
abbrev pub found_target : Place ℕ → Result ℕ Refusal
found_target none = Err NoLetter
found_target (some k) = Ok k

-- The place that a move changes, the first argument telling whether there is an inversion.
abbrev pub target_by : Bool → Place ℕ → Result ℕ Refusal
target_by inversion o = cond inversion (Err Inversion) (found_target o)

-- The same by the side and the index of the move.
unfoldable pub target_of : Bool → Side → ℕ → List ℕ → Result ℕ Refusal
target_of inversion s i w = target_by inversion (target s i w)

-- ---- where it lies

-- The place to change is one of the letters'.
pub target-within : {k : ℕ} (b : Bool) (s : Side) (i : ℕ) (w : List ℕ) → Ok k ≡ target_of b s i w → k < length w
unfolding target_of
target-within {k} b s i w e = go b (target s i w) (target_below s i w) e
  where
    go : (b : Bool) (o : Place ℕ) → Below (length w) o → Ok k ≡ target_by b o → k < length w
    go true o h e = absurd (cc)
    go false none h e = absurd (cc)
    go false (some j) h e = let same : k ≡ j = cc in rw same h

-- ---- whether it is there

-- There is no place.
abbrev pub no_place : Place ℕ → Bool
no_place none = true
no_place (some k) = false

some-counted : (n : ℕ) → eqb (suc n) 0 ≡ false
some-counted n = ne_eqb (suc n) 0 (λ e. omega arith)

leftmost-lacking : (a : ℕ) (w : List ℕ) → eqb (count a w) 0 ≡ no_place (leftmost a w)
leftmost-lacking a [] = refl
leftmost-lacking a (x ∷ w) = go (eqb x a) (leftmost a w) (leftmost-lacking a w)
  where
    go : (b : Bool) (o : Place ℕ) → eqb (count a w) 0 ≡ no_place o → eqb (tick b (count a w)) 0 ≡ no_place (cond b (some 0) (onward o))
    go true o e = some-counted (count a w)
    go false none e = e
    go false (some k) e = e

rightmost-lacking : (a : ℕ) (w : List ℕ) → eqb (count a w) 0 ≡ no_place (rightmost a w)
rightmost-lacking a [] = refl
rightmost-lacking a (x ∷ w) = go (eqb x a) (rightmost a w) (rightmost-lacking a w)
  where
    go : (b : Bool) (o : Place ℕ) → eqb (count a w) 0 ≡ no_place o → eqb (tick b (count a w)) 0 ≡ no_place (or_here b o)
    go true none e = some-counted (count a w)
    go true (some k) e = some-counted (count a w)
    go false none e = e
    go false (some k) e = e

-- There is no place to change where the count of the letter that the move takes is 0.
pub target-lacking : (s : Side) (i : ℕ) (w : List ℕ) → eqb (count (taken s i) w) 0 ≡ no_place (target s i w)
target-lacking raising i w = leftmost-lacking (suc i) w
target-lacking lowering i w = rightmost-lacking i w
