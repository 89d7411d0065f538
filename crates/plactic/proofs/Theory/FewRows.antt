-- A Young tableau over the letters 1 to n has at most n rows: down its first column the letters rise.
--     few_rows     at most n rows
-- Assumes nothing.
use Prim.Native.Nat.{ℕ, suc, ◌+◌, ◌≤◌, ◌<◌}
use native.Mathlib.Omega.{arith}
use mathlib.Core.List.{List, [], ◌∷◌, ◌++◌}
use lib.ListN.{length}
use Rattle.hypoplactic.specs.Words.{Within}
use Rattle.plactic.specs.Young.{Row, Rows, Young, cell, row_letters, young_letters}

-- What lies past a row is within n where all is.
within-below : (n : ℕ) (r : Row) (w : List ℕ) → Within n (row_letters r ++ w) → Within n w
within-below n [] w h = h
within-below n (cell x s ∷ cs) w h = within-below n cs w h.2

-- From a row on whose first letter is larger than k, there are at most n - k rows.
rows_from_lem : (n k x s : ℕ) (cs : Row) (rs : Rows) → k < x → Young ((cell x s ∷ cs) ∷ rs) → Within n (young_letters ((cell x s ∷ cs) ∷ rs))
    → k + length {A = Row} ((cell x s ∷ cs) ∷ rs) ≤ n
rows_from_lem n k x s cs [] l h w = omega (arith, w.1)
rows_from_lem n k x s cs ([] ∷ rs) l h w = absurd h.3.0
rows_from_lem n k x s cs ((cell y u ∷ ds) ∷ rs) l h w =
    omega (arith, rows_from_lem n (suc k) y u ds rs (omega (arith, h.2.0)) h.3 (within-below n (cell x s ∷ cs) (young_letters ((cell y u ∷ ds) ∷ rs)) w))

-- The first letter of the first row is at least 1.
pub few_rows : (n : ℕ) (rows : Rows) → Young rows → Within n (young_letters rows) → length {A = Row} rows ≤ n
few_rows n [] h w = omega arith
few_rows n ([] ∷ rs) h w = absurd h.0
few_rows n ((cell x s ∷ cs) ∷ rs) h w = omega (arith, rows_from_lem n 0 x s cs rs (omega (arith, w.0)) h w)
