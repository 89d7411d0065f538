-- The quasi-Kashiwara operators (paper, section 5; document 01, "Moves"), on words and on tableaux. A move is data: a side and an index.
-- A move is either undefined or gives the new letters; the definition by way of the changed place says which letter changes.
--     inverted i w       w has an i-inversion: some i+1 stands left of some i
--     below i xs ms      the tableau has i+1 directly below i
--     changed_place       the place of the letter that a move changes, if the move is defined
--     moved              the new letters, with no bound on the index
--     move_word, move_tableau   the same at rank n, where an index outside 1 to n - 1 leaves the move undefined
--     place_in_word, place_in_tableau   the place that a move changes at rank n: of a letter in the word, of a cell in the tableau
--     remaining          how many letters a move could change
--     repeat_word, repeat_tableau   document 01's repeat count, which is that number
--     times_word, times_tableau     a move made a number of times, one after the other
-- Assumes nothing.
use Rattle.std.specs.Prelude.{ℕ, zero, suc, List, [], ◌∷◌, Bool, true, false, ◌&&◌, cond, eqb, ltb, set}
use Rattle.std.proofs.Math.Option.{Option, none, some}
use Rattle.hypoplactic.specs.Words.{before, count}
use Rattle.hypoplactic.specs.Ribbons.{down_step}

-- The raising operators are the paper's e, the lowering ones its f.
pub data Side : Type 0 where
  raising lowering : Side

pub record Move : Type 0 where
  pub side : Side
  pub index : ℕ

-- The letter that a move changes.
abbrev pub taken : Side → ℕ → ℕ
taken raising i = suc i
taken lowering i = i

-- The letter that it becomes.
abbrev pub given : Side → ℕ → ℕ
given raising i = i
given lowering i = suc i

-- An i-inversion: some i+1 stands left of some i, adjacent or not.
abbrev pub inverted : ℕ → List ℕ → Bool
inverted i w = before w i (suc i)

-- From i directly down to i+1.
abbrev pub from_to : ℕ → ℕ → ℕ → Bool
from_to i x y = eqb x i && eqb y (suc i)

-- The inversion of a tableau: i+1 stands directly below i.
abbrev pub below : ℕ → List ℕ → List ℕ → Bool
below i xs ms = down_step (from_to i) xs ms

-- One place further on.
abbrev pub onward : Option ℕ → Option ℕ
onward none = none
onward (some k) = some (suc k)

-- The place of the leftmost a.
abbrev pub leftmost : ℕ → List ℕ → Option ℕ
leftmost a [] = none
leftmost a (x ∷ xs) = cond (eqb x a) (some 0) (onward (leftmost a xs))

-- The first place if there is none further on and the test passes.
abbrev pub or_here : Bool → Option ℕ → Option ℕ
or_here b (some k) = some (suc k)
or_here true none = some 0
or_here false none = none

-- The place of the rightmost a.
abbrev pub rightmost : ℕ → List ℕ → Option ℕ
rightmost a [] = none
rightmost a (x ∷ xs) = or_here (eqb x a) (rightmost a xs)

-- The letter that the rule names: raising takes the leftmost i+1, lowering the rightmost i.
abbrev pub target : Side → ℕ → List ℕ → Option ℕ
target raising i w = leftmost (suc i) w
target lowering i w = rightmost i w

-- The place that a move changes, the first argument telling whether there is an inversion.
abbrev pub changed_place : Bool → Move → List ℕ → Option ℕ
changed_place inversion m w = cond inversion none (target m.side m.index w)

-- The letters with another one at a place, if there is a place.
abbrev pub replaced : ℕ → List ℕ → Option ℕ → Option (List ℕ)
replaced a w none = none
replaced a w (some k) = some (set w k a)

-- The letters after a move, if it is defined.
abbrev pub moved : Bool → Move → List ℕ → Option (List ℕ)
moved inversion m w = replaced (given m.side m.index) w (changed_place inversion m w)

-- A move on a word and on a tableau, with no bound on the index.
abbrev pub moved_word : Move → List ℕ → Option (List ℕ)
moved_word m w = moved (inverted m.index w) m w

abbrev pub moved_tableau : Move → List ℕ → List ℕ → Option (List ℕ)
moved_tableau m xs ms = moved (below m.index xs ms) m xs

-- The indices of rank n are 1 to n - 1.
abbrev pub index_of : ℕ → ℕ → Bool
index_of n i = ltb 0 i && ltb i n

-- Undefined at an index that the rank does not have.
abbrev pub guarded : {A : Type 0} → ℕ → Move → Option A → Option A
guarded n m r = cond (index_of n m.index) r none

-- The moves at rank n. A move on a tableau changes letters and no mark.
unfoldable pub move_word : ℕ → Move → List ℕ → Option (List ℕ)
move_word n m w = guarded n m (moved_word m w)

unfoldable pub move_tableau : ℕ → Move → List ℕ → List ℕ → Option (List ℕ)
move_tableau n m xs ms = guarded n m (moved_tableau m xs ms)

-- The place that a move at rank n changes, if the move is defined.
abbrev pub place_in_word : ℕ → Move → List ℕ → Option ℕ
place_in_word n m w = guarded n m (changed_place (inverted m.index w) m w)

abbrev pub place_in_tableau : ℕ → Move → List ℕ → List ℕ → Option ℕ
place_in_tableau n m xs ms = guarded n m (changed_place (below m.index xs ms) m xs)

-- How many letters a move could change, the second argument telling whether there is an inversion: then none.
abbrev pub remaining : Move → Bool → List ℕ → ℕ
remaining m inversion w = cond inversion 0 (count (taken m.side m.index) w)

-- The repeat count.
unfoldable pub repeat_word : Move → List ℕ → ℕ
repeat_word m w = remaining m (inverted m.index w) w

unfoldable pub repeat_tableau : Move → List ℕ → List ℕ → ℕ
repeat_tableau m xs ms = remaining m (below m.index xs ms) xs

-- Whether there is a result.
abbrev pub Defined : Option (List ℕ) → Type 0
Defined none = ⊥
Defined (some w) = Unit {0}

-- A second move after a first that is defined.
abbrev pub and_then : Option (List ℕ) → (List ℕ → Option (List ℕ)) → Option (List ℕ)
and_then none f = none
and_then (some w) f = f w

-- A move made k times, one after the other.
abbrev pub times_word : ℕ → Move → List ℕ → Option (List ℕ)
times_word zero m w = some w
times_word (suc k) m w = and_then (moved_word m w) (λ v. times_word k m v)

abbrev pub times_tableau : ℕ → Move → List ℕ → List ℕ → Option (List ℕ)
times_tableau zero m xs ms = some xs
times_tableau (suc k) m xs ms = and_then (moved_tableau m xs ms) (λ ys. times_tableau k m ys ms)
