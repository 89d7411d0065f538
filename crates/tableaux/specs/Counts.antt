-- The letter counts that a move on a tableau is about.
--     Movable s i cs                what the change of two of the numbers cs needs: an index of some rank, a letter to take, room for one more
--     taken_there, given_there      the letters of a move are some of 1 to 64
--     more_fits                     where one is taken away there is room for one more
--     counting                      the ruleset of counts
-- Assumes nothing.
use Rattle.std.specs.Prelude.{ℕ, zero, suc, ◌+◌, ◌-◌, ◌≤◌, ◌<◌, ◌≡◌, List, [], ◌∷◌, get_or, set}
use Rattle.std.proofs.Common.{arith, Fits, rules}
use Rattle.std.specs.Int.{w16}
use Rattle.quasi_crystal.specs.Moves.{Side, raising, lowering, given, taken}

-- A letter i or i+1 that is counted can become the other one, and every count is that of a tableau.
pub record Movable (s : Side) (i : ℕ) (cs : List ℕ) : Type 0 where
  pub low : 0 < i
  pub high : i < 64
  pub some_taken : 1 ≤ get_or cs (taken s i - 1) 0
  pub few : (j : ℕ) → j < 64 → get_or cs j 0 ≤ 1024

-- ---- the change

-- A list whose elements are at most k, with another such element.
set_few : (cs : List ℕ) (p q v k : ℕ) → v ≤ k → get_or cs q 0 ≤ k → get_or (set cs p v) q 0 ≤ k
set_few [] p q v k l h = h
set_few (x ∷ xs) zero zero v k l h = l
set_few (x ∷ xs) zero (suc q) v k l h = h
set_few (x ∷ xs) (suc p) zero v k l h = h
set_few (x ∷ xs) (suc p) (suc q) v k l h = set_few xs p q v k l h

-- Both letters are some of 1 to 64.
pub taken_there : (s : Side) (i : ℕ) → 0 < i → i < 64 → (0 < taken s i) × (taken s i ≤ 64)
taken_there raising i l h = (omega arith, omega arith)
taken_there lowering i l h = (omega arith, omega arith)

pub given_there : (s : Side) (i : ℕ) → 0 < i → i < 64 → (0 < given s i) × (given s i ≤ 64)
given_there raising i l h = (omega arith, omega arith)
given_there lowering i l h = (omega arith, omega arith)

-- After one is taken away there is room for one more.
pub more_fits : {p q : ℕ} (s : Side) (i : ℕ) (cs : List ℕ) → Movable s i cs → p ≡ taken s i - 1 → q ≡ given s i - 1
    → Fits w16 (get_or (set cs p (get_or cs p 0 - 1)) q 0 + 1)
more_fits {p} {q} s i cs h from to =
    let t = taken_there s i h.low h.high in
    let g = given_there s i h.low h.high in
    let l : get_or cs p 0 - 1 ≤ 1024 = omega (arith, h.few p (omega (arith, t, from))) in
    record { fits = omega (arith, set_few cs p q (get_or cs p 0 - 1) 1024 l (h.few q (omega (arith, g, to)))) }

pub ruleset counting = (taken_there, given_there, more_fits, rules)
