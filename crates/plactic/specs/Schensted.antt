-- Schensted insertion (paper, Algorithms 3.1 and 3.2).
--     replaced a r          the leftmost letter of a row that is larger than a, if there is one: step (2) of Algorithm 3.1 replaces it
--     row_with e a r         the row then: a in its place, in a cell that keeps its standard entry; where there is none, in a new cell at the row's end, with the entry e
--     insert e rows o       Algorithm 3.1: the letter o, if there is one, inserted as the e-th
--     young_of w             Algorithm 3.2: the tableau P(w) beside its standard tableau Q(w), in one list of rows
-- Assumes nothing.
use Rattle.std.specs.Prelude.{ℕ, suc, List, [], ◌∷◌, cond, ltb}
use Rattle.std.proofs.Math.Option.{Option, none, some}
use Rattle.plactic.specs.Young.{Row, Rows, cell}

-- ---- one row

abbrev pub replaced : ℕ → Row → Option ℕ
replaced a [] = none
replaced a (cell x s ∷ cs) = cond (ltb a x) (some x) (replaced a cs)

abbrev pub row_with : ℕ → ℕ → Row → Row
row_with e a [] = cell a e ∷ []
row_with e a (cell x s ∷ cs) = cond (ltb a x) (cell a s ∷ cs) (cell x s ∷ row_with e a cs)

-- ---- all rows

-- The top row takes the letter, and the letter that it replaces goes into the rows below; past the last row it begins a new one.
abbrev pub insert : ℕ → Rows → Option ℕ → Rows
insert e [] none = []
insert e [] (some a) = (cell a e ∷ []) ∷ []
insert e (r ∷ rs) none = r ∷ rs
insert e (r ∷ rs) (some a) = row_with e a r ∷ insert e rs (replaced a r)

-- The letters of a word inserted one after the other, the first as the t-th.
abbrev pub insert_all : ℕ → Rows → List ℕ → Rows
insert_all t rows [] = rows
insert_all t rows (a ∷ w) = insert_all (suc t) (insert t rows (some a)) w

unfoldable pub young_of : List ℕ → Rows
young_of w = insert_all 1 [] w
