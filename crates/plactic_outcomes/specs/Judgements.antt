-- Check 21 (document 02, N10) as a judgement, and the lists of judgements of the operations on Young tableaux.
--     above_wrong y u up         a cell with the letter y and the standard entry u, outside the top row, has no cell above it, or is not larger than it in both
--     cell_wrong                 21 of one cell: this, or a letter smaller than the left one, an entry not larger than the left one, or an entry that is 0, over L or
--                               met before
--     young_judged L rows        21: the first cell, row by row, with any of these faults
--     young_judgements n f       1, 2, 3, 4 and 21 of a tableau with its standard tableau: 3 where the parts differ in length, there are not 64 row lengths, or they
--                               do not add to the cells
--     young_rooms need f         13 of lent letters, standard entries and row lengths, of which 64 are needed
-- Places are those of the cells from 0, row by row. Assumes nothing.
use Rattle.std.specs.Prelude.{ℕ, suc, ◌+◌, List, [], ◌∷◌, ◌++◌, Bool, true, false, ◌||◌, ltb, leb, length}
use Rattle.std.proofs.Math.Option.{Option, none, some}
use Rattle.hypoplactic.specs.Words.{occurs}
use Rattle.outcomes.specs.Replies.{Said, passed, refuse_if}
use Rattle.outcomes.specs.Judgements.{alike_judged, length_judged, letters_judged, outside, rank_judged, room_judged}
use Rattle.plactic.specs.Young.{Cell, Row, Rows, cell}
use Rattle.plactic.specs.FlatForm.{Flat, cell_rows, total}

-- ---- 21

-- What is left of the row above, from the cell above on: none for the top row.
abbrev pub above_wrong : ℕ → ℕ → Option Row → Bool
above_wrong y u none = false
above_wrong y u (some []) = true
above_wrong y u (some (cell v w ∷ cs)) = leb y v || leb u w

-- The cell breaks the order with the cell to its left, which has the letter x and the entry s, or with the one above.
abbrev pub order_wrong : Option Row → ℕ → ℕ → ℕ → ℕ → Bool
order_wrong up x s y u = (ltb y x || leb u s) || above_wrong y u up

-- The same, or its entry is 0, over L or met before.
abbrev pub cell_wrong : ℕ → List ℕ → Option Row → ℕ → ℕ → ℕ → ℕ → Bool
cell_wrong L met up x s y u = (outside L u || occurs u met) || order_wrong up x s y u

-- The row above from the next cell on.
abbrev pub next_above : Option Row → Option Row
next_above none = none
next_above (some []) = some []
next_above (some (c ∷ cs)) = some cs

-- The cells of one row from place i on, after a cell with x and s, the entries met so far, and what is said of the rows below from the entries then met on.
abbrev pub row_from : ℕ → List ℕ → ℕ → Option Row → ℕ → ℕ → Row → (List ℕ → Said) → Said
row_from L met i up x s [] below = below met
row_from L met i up x s (cell y u ∷ cs) below =
    refuse_if (cell_wrong L met up x s y u) 21 i (row_from L (u ∷ met) (suc i) (next_above up) y u cs below)

-- The rows from place i on. At the beginning of a row 0 and 0 stand for what is to the left: no letter is smaller, and only the entry 0 is not larger.
abbrev pub rows_from : ℕ → List ℕ → ℕ → Option Row → Rows → Said
rows_from L met i up [] = passed
rows_from L met i up (r ∷ rs) = row_from L met i up 0 0 r (λ seen. rows_from L seen (i + length {A = Cell} r) (some r) rs)

unfoldable pub young_judged : ℕ → Rows → Said
young_judged L rows = rows_from L [] 0 none rows

-- ---- lists of judgements

-- 3 of row lengths: 64 of them, which add to so many cells.
abbrev pub lengths_judgements : ℕ → List ℕ → List Said
lengths_judgements k ls = alike_judged 64 (length ls ∷ []) ∷ alike_judged k (total ls ∷ []) ∷ []

abbrev pub young_judgements : ℕ → Flat → List Said
young_judgements n f =
    let L : ℕ = length f.letters in
    rank_judged n ∷ length_judged L ∷ alike_judged L (length f.standard ∷ [])
    ∷ (lengths_judgements L f.lengths ++ (letters_judged n f.letters ∷ young_judged L (cell_rows f) ∷ []))

-- 13 of letters, standard entries and row lengths, in this order.
abbrev pub young_rooms : ℕ → ℕ → ℕ → ℕ → List Said
young_rooms need letters standard lengths = room_judged need letters ∷ room_judged need standard ∷ room_judged 64 lengths ∷ []
