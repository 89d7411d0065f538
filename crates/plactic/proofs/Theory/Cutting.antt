-- Rows cut from cells: three lists that fit together are the flat form of the rows that they tell.
--     all_cells rows     the cells of all rows, one row after the other
--     entries_cut       the entries of the rows cut are the list of entries
--     flat_onto         the flat form of the rows that 64 row lengths tell, which add up to the number of cells, is the three lists
-- Assumes nothing.
use Prim.Native.Nat.{ℕ, zero, suc, ◌≤◌}
use native.Mathlib.Omega.{arith}
use mathlib.Core.Path.{◌≡◌, refl, sym, ap, ap₂, ◌∙◌}
use mathlib.Core.List.{List, [], ◌∷◌, ◌++◌}
use lib.ListN.{length, drop, length-drop, take-append-drop}
use lib.Seq.{length-take-le}
use Rattle.plactic.specs.Young.{Cell, Row, Rows, cell, row_entries, row_letters, young_entries, young_letters}
use Rattle.plactic.specs.FlatForm.{Flat, above, cell_rows, cells, cut, flat_of, flat_with, lengths_of, rows_in, total, trim}

-- ---- all cells in one row

-- The cells of all rows.
abbrev all_cells : Rows → Row
all_cells [] = []
all_cells (r ∷ rs) = r ++ all_cells rs

-- The letters of two rows, one after the other.
letters-append : (r q : Row) → row_letters (r ++ q) ≡ row_letters r ++ row_letters q
letters-append [] q = refl
letters-append (cell x s ∷ cs) q = ap (λ (xs : List ℕ). x ∷ xs) (letters-append cs q)

-- The same of entries.
entries_append : (r q : Row) → row_entries (r ++ q) ≡ row_entries r ++ row_entries q
entries_append [] q = refl
entries_append (cell x s ∷ cs) q = ap (λ (ss : List ℕ). s ∷ ss) (entries_append cs q)

-- The letters and entries of all cells are those of the rows.
letters-all : (rows : Rows) → young_letters rows ≡ row_letters (all_cells rows)
letters-all [] = refl
letters-all (r ∷ rs) = rw (letters-append r (all_cells rs), letters-all rs)

entries_all : (rows : Rows) → young_entries rows ≡ row_entries (all_cells rows)
entries_all [] = refl
entries_all (r ∷ rs) = rw (entries_append r (all_cells rs), entries_all rs)

-- Empty rows have no cell.
all_above : (r : Row) (rs : Rows) → all_cells (above r rs) ≡ r ++ all_cells rs
all_above [] [] = refl
all_above [] (q ∷ qs) = refl
all_above (c ∷ cs) rs = refl

-- Rows without the empty ones at the end have the same cells.
all-trim : (rows : Rows) → all_cells (trim rows) ≡ all_cells rows
all-trim [] = refl
all-trim (r ∷ rs) = all_above r (trim rs) ∙ ap (λ (q : Row). r ++ q) (all-trim rs)

-- Rows of lengths that add up to the cells have all of them.
all-cut : (ls : List ℕ) (cs : Row) → total ls ≡ length {A = Cell} cs → all_cells (cut ls cs) ≡ cs
all-cut [] [] h = refl
all-cut [] (c ∷ cs) h = let z : ⊥ = omega arith in absurd z
all-cut (l ∷ ls) cs h = rw (all-cut ls (drop l cs) (omega (arith, length-drop l cs))) (take-append-drop l cs)

-- ---- letters with entries

-- Cells of as many letters as entries have these letters,
letters-cells : (xs ss : List ℕ) → length ss ≡ length xs → row_letters (cells xs ss) ≡ xs
letters-cells [] ss h = refl
letters-cells (x ∷ xs) [] h = let z : ⊥ = omega arith in absurd z
letters-cells (x ∷ xs) (s ∷ ss) h = ap (λ (ys : List ℕ). x ∷ ys) (letters-cells xs ss (omega arith))

-- these entries,
entries_cells : (xs ss : List ℕ) → length ss ≡ length xs → row_entries (cells xs ss) ≡ ss
entries_cells [] [] h = refl
entries_cells [] (s ∷ ss) h = let z : ⊥ = omega arith in absurd z
entries_cells (x ∷ xs) [] h = let z : ⊥ = omega arith in absurd z
entries_cells (x ∷ xs) (s ∷ ss) h = ap (λ (us : List ℕ). s ∷ us) (entries_cells xs ss (omega arith))

-- and as many of both.
length-cells : (xs ss : List ℕ) → length ss ≡ length xs → length {A = Cell} (cells xs ss) ≡ length xs
length-cells [] ss h = refl
length-cells (x ∷ xs) [] h = let z : ⊥ = omega arith in absurd z
length-cells (x ∷ xs) (s ∷ ss) h = ap suc (length-cells xs ss (omega arith))

-- ---- row lengths

-- A row above others gives its length first, also where it is empty and none.
lengths_above : (n : ℕ) (r : Row) (rs : Rows) → lengths_of (suc n) (above r rs) ≡ length {A = Cell} r ∷ lengths_of n rs
lengths_above n [] [] = refl
lengths_above n [] (q ∷ qs) = refl
lengths_above n (c ∷ cs) rs = refl

-- Empty rows at the end have the row length 0, as rows that there are not.
lengths_trim : (n : ℕ) (rows : Rows) → lengths_of n (trim rows) ≡ lengths_of n rows
lengths_trim zero rows = refl
lengths_trim (suc n) [] = refl
lengths_trim (suc n) (r ∷ rs) = lengths_above n r (trim rs) ∙ ap (λ (ls : List ℕ). length {A = Cell} r ∷ ls) (lengths_trim n rs)

-- Rows cut have the lengths by which they were cut,
lengths_cut : (ls : List ℕ) (cs : Row) → total ls ≤ length {A = Cell} cs → lengths_of (length ls) (cut ls cs) ≡ ls
lengths_cut [] cs h = refl
lengths_cut (l ∷ ls) cs h = ap₂ ◌∷◌ (length-take-le l cs (omega arith)) (lengths_cut ls (drop l cs) (omega (arith, length-drop l cs)))

-- also without the empty ones at the end.
lengths_told : (n : ℕ) (ls : List ℕ) (cs : Row) → length ls ≡ n → total ls ≤ length {A = Cell} cs → lengths_of n (trim (cut ls cs)) ≡ ls
lengths_told n ls cs e h = lengths_trim n (cut ls cs) ∙ rw e at (lengths_cut ls cs h)

-- ---- the three lists

module _ (f : Flat) (alike : length f.standard ≡ length f.letters) (sum : total f.lengths ≡ length f.letters) where
  -- All cells are cut,
  cells_cut : all_cells (cell_rows f) ≡ cells f.letters f.standard
  cells_cut = all-cut f.lengths _ (sum ∙ sym (length-cells f.letters f.standard alike))

  -- so the entries are all there,
  pub entries_cut : young_entries (cell_rows f) ≡ f.standard
  entries_cut = entries_all (cell_rows f) ∙ ap row_entries cells_cut ∙ entries_cells f.letters f.standard alike

  -- and the three lists are the flat form.
  pub flat_onto : length f.lengths ≡ 64 → flat_of (rows_in f) ≡ f
  unfolding rows_in
  flat_onto many =
      let all : all_cells (trim (cell_rows f)) ≡ cells f.letters f.standard = all-trim (cell_rows f) ∙ cells_cut in
      same {ls = lengths_of 64 (trim (cell_rows f))}
      (letters-all (trim (cell_rows f)) ∙ ap row_letters all ∙ letters-cells f.letters f.standard alike)
      (entries_all (trim (cell_rows f)) ∙ ap row_entries all ∙ entries_cells f.letters f.standard alike)
      (lengths_told 64 f.lengths (cells f.letters f.standard) many (omega (arith, length-cells f.letters f.standard alike)))
    where
      same : {xs ss ls : List ℕ} → xs ≡ f.letters → ss ≡ f.standard → ls ≡ f.lengths → flat_with xs ss ls ≡ f
      same a b c = rw (a, b, c)
