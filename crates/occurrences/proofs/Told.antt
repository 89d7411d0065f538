-- The first and the last place of a letter, as std tells them, are its leftmost and its rightmost.
--     IsFirst a w o, IsLast a w o       o is the first place of a, or the last, if a stands in w
--     leftmost_told, rightmost_told     that place is its leftmost, or its rightmost
-- Assumes nothing.
use Rattle.std.specs.Prelude.{ℕ, zero, suc, ◌<◌, ◌≡◌, ◌≢◌, refl, List, [], ◌∷◌, length, get_or, Option, Some, None, MatchOption}
use Rattle.std.proofs.Common.{sym, arith, eq-eqb, ne_eqb}
use Rattle.std.proofs.Math.Option.{none, some}
use Rattle.quasi_crystal.specs.Moves.{leftmost, rightmost}
use Rattle.occurrences.specs.Places.{found_place}

-- The first place of a.
abbrev pub IsFirst : ℕ → List ℕ → Option ℕ → Type 0
IsFirst a w o = MatchOption o ((k : ℕ) → k < length w → get_or w k 0 ≢ a) (λ i. (i < length w) × (get_or w i 0 ≡ a) × ((k : ℕ) → k < i → get_or w k 0 ≢ a))

-- No place has it.
leftmost_none : (a : ℕ) (w : List ℕ) → ((k : ℕ) → k < length w → get_or w k 0 ≢ a) → leftmost a w ≡ none
leftmost_none a [] h = refl
leftmost_none a (x ∷ w) h = rw (ne_eqb x a (h 0 (omega arith)), leftmost_none a w (λ k l. h (suc k) (omega arith)))

leftmost_at : (a i : ℕ) (w : List ℕ) → i < length w → get_or w i 0 ≡ a → ((k : ℕ) → k < i → get_or w k 0 ≢ a) → leftmost a w ≡ some i
leftmost_at a i [] l e h = absurd (omega arith)
leftmost_at a zero (x ∷ w) l e h = rw (eq-eqb x a e)
leftmost_at a (suc i) (x ∷ w) l e h = rw (ne_eqb x a (h 0 (omega arith)), leftmost_at a i w (omega arith) e (λ k m. h (suc k) (omega arith)))

pub leftmost_told : (a : ℕ) (w : List ℕ) (o : Option ℕ) → IsFirst a w o → found_place o ≡ leftmost a w
leftmost_told a w None h = sym (leftmost_none a w h)
leftmost_told a w (Some i) h = sym (leftmost_at a i w h.0 h.1 h.2)

-- The last place of a.
abbrev pub IsLast : ℕ → List ℕ → Option ℕ → Type 0
IsLast a w o = MatchOption o ((k : ℕ) → k < length w → get_or w k 0 ≢ a)
    (λ i. (i < length w) × (get_or w i 0 ≡ a) × ((k : ℕ) → i < k → k < length w → get_or w k 0 ≢ a))

-- No place has it.
rightmost_none : (a : ℕ) (w : List ℕ) → ((k : ℕ) → k < length w → get_or w k 0 ≢ a) → rightmost a w ≡ none
rightmost_none a [] h = refl
rightmost_none a (x ∷ w) h =
    rw (rightmost_none a w (λ k l. h (suc k) (omega arith)), ne_eqb x a (h 0 (omega arith)))

rightmost_at : (a i : ℕ) (w : List ℕ) → i < length w → get_or w i 0 ≡ a → ((k : ℕ) → i < k → k < length w → get_or w k 0 ≢ a) → rightmost a w ≡ some i
rightmost_at a i [] l e h = absurd (omega arith)
rightmost_at a zero (x ∷ w) l e h = rw (rightmost_none a w (λ k m. h (suc k) (omega arith) (omega arith)), eq-eqb x a e)
rightmost_at a (suc i) (x ∷ w) l e h = rw (rightmost_at a i w (omega arith) e (λ k m n. h (suc k) (omega arith) (omega arith)))

pub rightmost_told : (a : ℕ) (w : List ℕ) (o : Option ℕ) → IsLast a w o → found_place o ≡ rightmost a w
rightmost_told a w None h = sym (rightmost_none a w h)
rightmost_told a w (Some i) h = sym (rightmost_at a i w h.0 h.1 h.2)
