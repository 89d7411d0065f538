-- A tableau as one list of cells, each with the step into it: the form that the proofs about insertion and column reading use.
--     Cell                 a letter reached by a right step, or by a down step
--     cells_of xs ms        the cells of letters and marks
--     Follows x cs         the cells cs may follow a cell with the letter x
--     Cells cs             cs is a quasi-ribbon tableau
--     insert_cell a cs      insertion, walking over the letters at most a
--     read_cells col cs     column reading, with the column in hand from bottom to top
-- Assumes nothing.
use Prim.Native.Nat.{ℕ, zero, suc, ◌≤◌, ◌<◌}
use mathlib.Core.List.{List, [], ◌∷◌, ◌++◌}
use mathlib.Core.Bool.{cond}
use lib.Dec.{leb}

pub data Cell : Type 0 where
  right : ℕ → Cell
  down : ℕ → Cell

abbrev pub letter : Cell → ℕ
letter (right x) = x
letter (down x) = x

-- A cell from a letter and the mark of the step into it.
abbrev pub cell : ℕ → ℕ → Cell
cell x zero = right x
cell x (suc m) = down x

abbrev pub cells_of : List ℕ → List ℕ → List Cell
cells_of [] ms = []
cells_of (x ∷ xs) [] = []
cells_of (x ∷ xs) (m ∷ ms) = cell x m ∷ cells_of xs ms

abbrev pub Follows : ℕ → List Cell → Type 0
Follows x [] = Unit {0}
Follows x (right y ∷ cs) = (x ≤ y) × Follows y cs
Follows x (down y ∷ cs) = (x < y) × Follows y cs

abbrev pub Cells : List Cell → Type 0
Cells [] = Unit {0}
Cells (right x ∷ cs) = Follows x cs
Cells (down x ∷ cs) = ⊥

abbrev pub insert_cell : ℕ → List Cell → List Cell
insert_cell a [] = right a ∷ []
insert_cell a (c ∷ cs) = cond (leb (letter c) a) (c ∷ insert_cell a cs) (right a ∷ down (letter c) ∷ cs)

abbrev pub read_cells : List ℕ → List Cell → List ℕ
read_cells col [] = col
read_cells col (right x ∷ cs) = col ++ read_cells (x ∷ []) cs
read_cells col (down x ∷ cs) = read_cells (x ∷ col) cs
