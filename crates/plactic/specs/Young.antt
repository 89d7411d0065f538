-- Young tableaux, each beside its standard tableau (paper, section 3.1). Both have one shape, so one list of rows holds both: a cell has its letter and, from the
-- standard tableau, its standard entry. Rows go from the top down, cells from left to right.
--     Cell, cell x s      a cell with the letter x and the standard entry s
--     Row, Rows           cells from left to right; rows from the top down
--     Rises x s r         along the row r, after a cell with x and s, letters never fall and entries rise
--     Over r q            each cell of q has a cell of the row r above it, smaller in letter and in entry
--     Young rows          no row is empty, each rises and lies over the next: a Young tableau beside a filling of its shape that rises along rows and columns
--     row_letters, row_entries          the letters and the standard entries of a row
--     young_letters, young_entries      those of all rows, one row after the other
-- The filling is a standard tableau where its entries are moreover the numbers from 1 to that of the cells, each once (`Once`, hypoplactic's Theory/Placing).
-- Assumes nothing.
use Rattle.std.specs.Prelude.{ℕ, ◌≤◌, ◌<◌, List, [], ◌∷◌, ◌++◌}

pub data Cell : Type 0 where
  cell : ℕ → ℕ → Cell

abbrev pub Row : Type 0
Row = List Cell

abbrev pub Rows : Type 0
Rows = List Row

-- ---- shape and order

-- Letters that never fall and entries that rise, from x and s on.
abbrev pub Rises : ℕ → ℕ → Row → Type 0
Rises x s [] = Unit {0}
Rises x s (cell y u ∷ cs) = (x ≤ y) × (s < u) × Rises y u cs

-- Above each cell of the second row stands one of the first, smaller in letter and in entry.
abbrev pub Over : Row → Row → Type 0
Over r [] = Unit {0}
Over [] (d ∷ ds) = ⊥
Over (cell x s ∷ cs) (cell y u ∷ ds) = (x < y) × (s < u) × Over cs ds

-- The row is not empty.
abbrev pub Filled : Row → Type 0
Filled [] = ⊥
Filled (c ∷ cs) = Unit {0}

-- The row lies over the first of those below it, if there is one.
abbrev pub OverFirst : Row → Rows → Type 0
OverFirst r [] = Unit {0}
OverFirst r (q ∷ qs) = Over r q

abbrev pub Young : Rows → Type 0
Young [] = Unit {0}
Young (r ∷ rs) = Filled r × Rises 0 0 r × OverFirst r rs × Young rs

-- ---- letters and entries

abbrev pub row_letters : Row → List ℕ
row_letters [] = []
row_letters (cell x s ∷ cs) = x ∷ row_letters cs

abbrev pub row_entries : Row → List ℕ
row_entries [] = []
row_entries (cell x s ∷ cs) = s ∷ row_entries cs

abbrev pub young_letters : Rows → List ℕ
young_letters [] = []
young_letters (r ∷ rs) = row_letters r ++ young_letters rs

abbrev pub young_entries : Rows → List ℕ
young_entries [] = []
young_entries (r ∷ rs) = row_entries r ++ young_entries rs
