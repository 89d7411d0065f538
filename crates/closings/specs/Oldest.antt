-- The oldest letter's cell: the place of the first entry 1.
--     oldest_place rs     that place, if there is one
--     oldest_there        it is there where 1 stands in the list
--     oldest_found        it is a place of the list, and has the entry 1
-- Assumes nothing.
use Rattle.std.specs.Prelude.{ℕ, suc, ◌+◌, ◌<◌, ◌≡◌, refl, Bool, true, false, cond, List, [], ◌∷◌, eqb, length, get_or, position, Option, Some, IsSome}
use Rattle.std.proofs.Common.{arith, eqb-true, lt-ltb}
use Rattle.std.specs.List.{position_or_len}
use Rattle.std.proofs.lemmas.List.Recursion.{is_position_or_len}
use Rattle.std.proofs.lemmas.List.Quantifiers.{position-Some}
use Rattle.hypoplactic.specs.Words.{count, tick}

abbrev pub oldest_place : List ℕ → Option ℕ
oldest_place rs = position (λ r. eqb r 1) rs

-- How many entries stand before the first 1.
before_oldest : List ℕ → ℕ
before_oldest [] = 0
before_oldest (r ∷ rs) = cond (eqb r 1) 0 (1 + before_oldest rs)

before_told : (rs : List ℕ) → before_oldest rs ≡ position_or_len (λ r. eqb r 1) rs
unfolding before_oldest
before_told rs = is_position_or_len before_oldest (λ r. eqb r 1) refl (λ r rs. refl) rs

before_length : (rs : List ℕ) → 0 < count 1 rs → before_oldest rs < length rs
unfolding before_oldest
before_length [] h = absurd (omega arith)
before_length (r ∷ rs) h = go (eqb r 1) h (before_length rs)
  where
    go : (b : Bool) → 0 < tick b (count 1 rs) → (0 < count 1 rs → before_oldest rs < length rs) → cond b 0 (1 + before_oldest rs) < suc (length rs)
    go true c ih = omega arith
    go false c ih = let l = ih c in omega (arith, l)

pub oldest_there : (rs : List ℕ) → 0 < count 1 rs → IsSome (oldest_place rs)
oldest_there rs h = rw (← before_told rs, lt-ltb (before_oldest rs) (length rs) (before_length rs h))

pub oldest_found : {k : ℕ} (rs : List ℕ) → oldest_place rs ≡ Some k → (k < length rs) × (get_or rs k 0 ≡ 1)
oldest_found {k} rs e = let found = position-Some (λ r. eqb r 1) rs k 0 e in (found.0, eqb-true (get_or rs k 0) 1 found.1)
