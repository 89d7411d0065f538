-- The flat form of a Young tableau: its three lists tell its rows.
--     letters_entries     there are as many letters as entries
--     flat_lengths        so many row lengths as are asked for
--     flat_total          which add up to the number of cells, where no row is left out
--     above-filled        a row that is not empty stays above what lies below
--     cut_back            the rows of a tableau, cut from its cells by its row lengths
--     flat_back           the three lists of a tableau with at most 64 rows tell it
-- Assumes nothing.
use Prim.Native.Nat.{ℕ, zero, suc, ◌≤◌}
use native.Mathlib.Omega.{arith}
use mathlib.Core.Path.{◌≡◌, refl, ap}
use mathlib.Core.List.{List, [], ◌∷◌, ◌++◌}
use lib.ListN.{length, length-append}
use lib.Seq.{take_at, drop_at}
use Rattle.plactic.specs.Young.{Cell, Filled, Row, Rows, Young, cell, row_entries, row_letters, young_entries, young_letters}
use Rattle.plactic.specs.FlatForm.{above, cells, cut, flat_of, lengths_of, rows_in, total, trim}

-- ---- how many

-- A row has a letter in each cell.
row-letters : (r : Row) → length (row_letters r) ≡ length {A = Cell} r
row-letters [] = refl
row-letters (cell x s ∷ cs) = ap suc (row-letters cs)

-- The entries likewise.
row_entries_lem : (r : Row) → length (row_entries r) ≡ length {A = Cell} r
row_entries_lem [] = refl
row_entries_lem (cell x s ∷ cs) = ap suc (row_entries_lem cs)

-- So all rows have as many letters as entries.
pub letters_entries : (rows : Rows) → length (young_entries rows) ≡ length (young_letters rows)
letters_entries [] = refl
letters_entries (r ∷ rs) = simp (length-append) (omega (arith, row-letters r, row_entries_lem r, letters_entries rs))

-- As many row lengths as are asked for,
pub flat_lengths : (n : ℕ) (rows : Rows) → length (lengths_of n rows) ≡ n
flat_lengths zero rows = refl
flat_lengths (suc n) [] = ap suc (flat_lengths n [])
flat_lengths (suc n) (r ∷ rs) = ap suc (flat_lengths n rs)

-- which are as many cells as there are, where none of the rows is left out.
pub flat_total : (n : ℕ) (rows : Rows) → length {A = Row} rows ≤ n → total (lengths_of n rows) ≡ length (young_letters rows)
flat_total zero [] l = refl
flat_total zero (r ∷ rs) l = let z : ⊥ = omega arith in absurd z
flat_total (suc n) [] l = omega (arith, flat_total n [] (omega arith))
flat_total (suc n) (r ∷ rs) l = simp (length-append) (omega (arith, row-letters r, flat_total n rs (omega arith)))

-- ---- back to the rows

-- The cells of a row, then those of the rest.
cells-row : (r : Row) (xs ss : List ℕ) → cells (row_letters r ++ xs) (row_entries r ++ ss) ≡ r ++ cells xs ss
cells-row [] xs ss = refl
cells-row (cell x s ∷ cs) xs ss = ap (λ (r : Row). cell x s ∷ r) (cells-row cs xs ss)

-- A row that is not empty stays.
pub above-filled : (r : Row) (rs : Rows) → Filled r → above r rs ≡ r ∷ rs
above-filled [] rs h = absurd h
above-filled (c ∷ cs) rs h = refl

-- The rows cut from the cells, without the empty ones at the end.
pub cut_back : (n : ℕ) (rows : Rows) → Young rows → length {A = Row} rows ≤ n → trim (cut (lengths_of n rows) (cells (young_letters rows) (young_entries rows))) ≡ rows
cut_back zero [] h l = refl
cut_back zero (r ∷ rs) h l = let z : ⊥ = omega arith in absurd z
cut_back (suc n) [] h l = ap (above []) (cut_back n [] tt (omega arith))
cut_back (suc n) (r ∷ rs) h l =
    let below : trim (cut (lengths_of n rs) (cells (young_letters rs) (young_entries rs))) ≡ rs = cut_back n rs h.3 (omega arith) in
    rw (cells-row r (young_letters rs) (young_entries rs), take_at, drop_at, below) (above-filled r rs h.0)

-- The same of 64 row lengths.
pub flat_back : (rows : Rows) → Young rows → length {A = Row} rows ≤ 64 → rows_in (flat_of rows) ≡ rows
unfolding rows_in
flat_back rows h l = cut_back 64 rows h l
