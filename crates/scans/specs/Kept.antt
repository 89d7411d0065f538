-- Values kept in memory.
--     kept vs old              as many of the values as there is room for, and after them what was there
--     length-kept, kept_next   it is as long as before; one value more is stored after those that are kept
--     kept-take                values that have room are all there
--     kept_enough              of the values only as many count as have room
-- Assumes nothing.
use Rattle.std.specs.Prelude.{ℕ, zero, suc, min, ◌≤◌, ◌≡◌, refl, List, [], ◌∷◌, ◌++◌, map, length, set, take}
use Rattle.std.proofs.Common.{ap, arith}

-- The values at the beginning of a list, as far as it goes.
abbrev pub kept : List ℕ → List ℕ → List ℕ
kept [] old = old
kept (v ∷ vs) [] = []
kept (v ∷ vs) (x ∷ old) = v ∷ kept vs old

pub length-kept : (vs old : List ℕ) → length (kept vs old) ≡ length old
length-kept [] old = refl
length-kept (v ∷ vs) [] = refl
length-kept (v ∷ vs) (x ∷ old) = ap suc (length-kept vs old)

-- One value more, stored after those that are kept, or nowhere where there is no room.
pub kept_next : (vs old : List ℕ) (v : ℕ) → set (kept vs old) (length vs) v ≡ kept (vs ++ (v ∷ [])) old
kept_next [] [] v = refl
kept_next [] (x ∷ old) v = refl
kept_next (u ∷ vs) [] v = refl
kept_next (u ∷ vs) (x ∷ old) v = ap (λ (xs : List ℕ). u ∷ xs) (kept_next vs old v)

-- Values that have room are all there.
pub kept-take : (vs old : List ℕ) → length vs ≤ length old → take (length vs) (kept vs old) ≡ vs
kept-take [] old l = refl
kept-take (v ∷ vs) [] l = let z : ⊥ = omega arith in absurd z
kept-take (v ∷ vs) (x ∷ old) l = ap (λ (xs : List ℕ). v ∷ xs) (kept-take vs old (omega arith))

-- Of the values only as many count as there are, or as have room.
pub kept_enough : (f : ℕ → ℕ) (k : ℕ) (vs old : List ℕ) → min (length vs) (length old) ≤ k → kept (map f (take k vs)) old ≡ kept (map f vs) old
kept_enough f zero [] old l = refl
kept_enough f zero (v ∷ vs) [] l = refl
kept_enough f zero (v ∷ vs) (x ∷ old) l = let z : ⊥ = omega arith in absurd z
kept_enough f (suc k) [] old l = refl
kept_enough f (suc k) (v ∷ vs) [] l = refl
kept_enough f (suc k) (v ∷ vs) (x ∷ old) l = ap (λ (xs : List ℕ). f v ∷ xs) (kept_enough f k vs old (omega arith))
