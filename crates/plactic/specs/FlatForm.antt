-- A Young tableau beside its standard tableau as memory holds them (document 02, N10): the letters row by row, the standard entries row by row, and 64 row
-- lengths, 0 for each row that there is not.
--     Flat                    the three lists; flat_with xs ss ls: three lists as one
--     total ns                the sum of numbers
--     flat_of rows             the three lists of a tableau
--     lengths_of n rows        its row lengths, n of them
--     cell_rows f              the rows that three lists tell, empty ones too: each row takes as many cells as its length says
--     rows_in f                the same without the empty rows at the end
-- That the three lists of a tableau tell its rows is `flat_back`, proofs/Theory/FlatForm. Assumes nothing.
use Rattle.std.specs.Prelude.{ℕ, zero, suc, ◌+◌, List, [], ◌∷◌, length, take, drop}
use Rattle.plactic.specs.Young.{Cell, Row, Rows, cell, young_entries, young_letters}

-- The letters, the standard entries and the row lengths.
pub record Flat : Type 0 where
  pub letters : List ℕ
  pub standard : List ℕ
  pub lengths : List ℕ

abbrev pub flat_with : List ℕ → List ℕ → List ℕ → Flat
flat_with xs ss ls = record { letters = xs; standard = ss; lengths = ls }

-- The sum of numbers.
abbrev pub total : List ℕ → ℕ
total [] = 0
total (x ∷ xs) = x + total xs

-- ---- from rows to lists

-- So many row lengths: 0 past the last row.
abbrev pub lengths_of : ℕ → Rows → List ℕ
lengths_of zero rows = []
lengths_of (suc n) [] = 0 ∷ lengths_of n []
lengths_of (suc n) (r ∷ rs) = length {A = Cell} r ∷ lengths_of n rs

abbrev pub flat_of : Rows → Flat
flat_of rows = record { letters = young_letters rows; standard = young_entries rows; lengths = lengths_of 64 rows }

-- ---- from lists to rows

-- Letters with their standard entries, as far as there are both.
abbrev pub cells : List ℕ → List ℕ → Row
cells [] ss = []
cells (x ∷ xs) [] = []
cells (x ∷ xs) (s ∷ ss) = cell x s ∷ cells xs ss

-- Rows of these lengths, one after the other.
abbrev pub cut : List ℕ → Row → Rows
cut [] cs = []
cut (l ∷ ls) cs = take {A = Cell} l cs ∷ cut ls (drop {A = Cell} l cs)

abbrev pub cell_rows : Flat → Rows
cell_rows f = cut f.lengths (cells f.letters f.standard)

-- A row above others, which is none where it is empty and nothing lies below.
abbrev pub above : Row → Rows → Rows
above [] [] = []
above [] (q ∷ qs) = [] ∷ q ∷ qs
above (c ∷ cs) rs = (c ∷ cs) ∷ rs

-- Without the empty rows at the end; an empty row above another stays.
abbrev pub trim : Rows → Rows
trim [] = []
trim (r ∷ rs) = above r (trim rs)

unfoldable pub rows_in : Flat → Rows
rows_in f = trim (cell_rows f)
