-- The column reading of a tableau (paper, section 4; document 01, "Column reading"): the columns from left to right, each from bottom to top.
-- Assumes nothing.
use Rattle.std.specs.Prelude.{ℕ, zero, suc, List, [], ◌∷◌, ◌++◌}

-- What is still to be read, with the column in hand from bottom to top: a right step ends that column, a down step puts a cell under it.
abbrev pub read_from : List ℕ → List ℕ → List ℕ → List ℕ
read_from column [] ms = column
read_from column (x ∷ xs) [] = column
read_from column (x ∷ xs) (zero ∷ ms) = column ++ read_from (x ∷ []) xs ms
read_from column (x ∷ xs) (suc m ∷ ms) = read_from (x ∷ column) xs ms

-- The column reading of the tableau with these letters and marks.
unfoldable pub column_reading : List ℕ → List ℕ → List ℕ
column_reading xs ms = read_from [] xs ms
