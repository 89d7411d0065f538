-- The tableau of a valid tableau's column reading is that tableau.
-- On cells: a column inserted from bottom to top after cells that are at most its letters stands there as a column, and so column by column.
--     insert_cells cs w      the cells with each letter of w inserted in its turn
--     cells_of_word         the cells of a word's tableau
--     insert_read_cells     inserting the column reading of a tableau of cells gives these cells
--     read-back             the same on letters and marks; reading_length: so a column reading is as long as its tableau
-- Assumes nothing.
use Prim.Native.Nat.{ℕ, ◌≤◌, ◌<◌}
use native.Mathlib.Omega.{arith}
use mathlib.Core.Path.{◌≡◌, refl, ap, sym, ◌∙◌}
use mathlib.Core.List.{List, [], ◌∷◌, ◌++◌, append_assoc, append-nil}
use lib.ListN.{length}
use borrow.Author.Tests.{le-leb, lt-leb}
use Rattle.hypoplactic.specs.Ribbons.{Tableau}
use Rattle.hypoplactic.specs.Insertion.{Pair, empty_pair, insert, insert_all, letters_of, marks_of, pair_of}
use Rattle.hypoplactic.specs.Reading.{column_reading}
use Rattle.hypoplactic.proofs.Theory.Cells.{Cell, right, down, letter, cells_of, Follows, Cells, insert_cell, read_cells}
use Rattle.hypoplactic.proofs.Theory.Pairs.{length-letters}
use Rattle.hypoplactic.proofs.Theory.Boundary.{cells_decide, cells_of_insert, cells_of_tableau, read_of_cells, tableau_of_insert, tableau_of_word}

-- The cells with each letter of a word inserted in its turn.
abbrev pub insert_cells : List Cell → List ℕ → List Cell
insert_cells cs [] = cs
insert_cells cs (a ∷ w) = insert_cells (insert_cell a cs) w

insert_cells_append : (cs : List Cell) (u v : List ℕ) → insert_cells cs (u ++ v) ≡ insert_cells (insert_cells cs u) v
insert_cells_append cs [] v = refl
insert_cells_append cs (a ∷ u) v = insert_cells_append (insert_cell a cs) u v

cells_of_insert_all : (p : Pair) (w : List ℕ) → Tableau p.letters p.marks
    → cells_of (insert_all p w).letters (insert_all p w).marks ≡ insert_cells (cells_of p.letters p.marks) w
cells_of_insert_all p [] h = refl
cells_of_insert_all p (a ∷ w) h =
    cells_of_insert_all (insert a p) w (tableau_of_insert a p h) ∙ ap (λ (cs : List Cell). insert_cells cs w) (cells_of_insert a p h)

-- The cells of a word's tableau.
pub cells_of_word : (w : List ℕ) → cells_of (letters_of w) (marks_of w) ≡ insert_cells [] w
unfolding pair_of
cells_of_word w = cells_of_insert_all empty_pair w tt

-- Every letter is at most a.
abbrev AtMost : ℕ → List Cell → Type 0
AtMost a [] = Unit {0}
AtMost a (c ∷ cs) = (letter c ≤ a) × AtMost a cs

at_most_larger : (a b : ℕ) (cs : List Cell) → a ≤ b → AtMost a cs → AtMost b cs
at_most_larger a b [] l h = tt
at_most_larger a b (c ∷ cs) l h = let k : letter c ≤ a = h.0 in (omega arith, at_most_larger a b cs l h.1)

at_most-append : (a : ℕ) (cs ds : List Cell) → AtMost a cs → AtMost a ds → AtMost a (cs ++ ds)
at_most-append a [] ds h k = k
at_most-append a (c ∷ cs) ds h k = (h.0, at_most-append a cs ds h.1 k)

-- Insertion walks over them.
insert_after : (a : ℕ) (cs ds : List Cell) → AtMost a cs → insert_cell a (cs ++ ds) ≡ cs ++ insert_cell a ds
insert_after a [] ds h = refl
insert_after a (c ∷ cs) ds h = rw (le-leb (letter c) a h.0) (ap (λ (es : List Cell). c ∷ es) (insert_after a cs ds h.1))

-- A column from bottom to top, first its lowest letter c, that may be inserted after the cells cs: it falls, and its top letter is at least theirs.
abbrev Column : List Cell → ℕ → List ℕ → Type 0
Column cs c [] = AtMost c cs
Column cs c (b ∷ col) = (b < c) × Column cs b col

column_after : (cs : List Cell) (c : ℕ) (col : List ℕ) → Column cs c col → AtMost c cs
column_after cs c [] h = h
column_after cs c (b ∷ col) h = let k : b < c = h.0 in at_most_larger b c cs (omega arith) (column_after cs b col h.1)

-- The column's cells, before the cells ds.
abbrev lay : ℕ → List ℕ → List Cell → List Cell
lay c [] ds = right c ∷ ds
lay c (b ∷ col) ds = lay b col (down c ∷ ds)

lay_append : (c : ℕ) (col : List ℕ) (ds es : List Cell) → lay c col ds ++ es ≡ lay c col (ds ++ es)
lay_append c [] ds es = refl
lay_append c (b ∷ col) ds es = lay_append b col (down c ∷ ds) es

at_most_lay : (a : ℕ) (cs : List Cell) (c : ℕ) (col : List ℕ) (ds : List Cell) → Column cs c col → c ≤ a → AtMost a ds → AtMost a (lay c col ds)
at_most_lay a cs c [] ds h l k = (l, k)
at_most_lay a cs c (b ∷ col) ds h l k = at_most_lay a cs b col (down c ∷ ds) h.1 (omega arith) (l, k)

insert_column : (cs : List Cell) (c : ℕ) (col : List ℕ) (ds : List Cell) → Column cs c col
    → insert_cells (cs ++ right c ∷ ds) col ≡ cs ++ lay c col ds
insert_column cs c [] ds h = refl
insert_column cs c (b ∷ col) ds h =
    let e : insert_cell b (cs ++ right c ∷ ds) ≡ cs ++ right b ∷ down c ∷ ds
    = insert_after b cs (right c ∷ ds) (column_after cs b col h.1) ∙ rw (lt-leb c b h.0) in
    rw e (insert_column cs b col (down c ∷ ds) h.1)

-- A whole column inserted after cells that are at most its letters stands there as a column.
insert_whole_column : (cs : List Cell) (c : ℕ) (col : List ℕ) → Column cs c col → insert_cells cs (c ∷ col) ≡ cs ++ lay c col []
insert_whole_column cs c col h =
    let e : insert_cell c cs ≡ cs ++ right c ∷ []
    = ap (insert_cell c) (sym (append-nil cs)) ∙ insert_after c cs [] (column_after cs c col h) in
    rw e (insert_column cs c col [] h)

insert_reading : (cs : List Cell) (c : ℕ) (col : List ℕ) (ds : List Cell) → Column cs c col → Follows c ds
    → insert_cells cs (read_cells (c ∷ col) ds) ≡ cs ++ lay c col ds
insert_reading cs c col [] h f = insert_whole_column cs c col h
insert_reading cs c col (right x ∷ ds) h f =
    let front : List Cell = cs ++ lay c col [] in
    let k : c ≤ x = f.0 in
    let low : AtMost x front
    = at_most-append x cs (lay c col []) (at_most_larger c x cs k (column_after cs c col h)) (at_most_lay x cs c col [] h k tt) in
    insert_cells_append cs (c ∷ col) (read_cells (x ∷ []) ds)
    ∙ ap (λ (es : List Cell). insert_cells es (read_cells (x ∷ []) ds)) (insert_whole_column cs c col h)
    ∙ insert_reading front x [] ds low f.1
    ∙ append_assoc cs (lay c col []) (right x ∷ ds)
    ∙ ap (λ (es : List Cell). cs ++ es) (lay_append c col [] (right x ∷ ds))
insert_reading cs c col (down x ∷ ds) h f = insert_reading cs x (c ∷ col) ds (f.0, h) f.1

-- Inserting the column reading of a tableau of cells gives these cells.
pub insert_read_cells : (cs : List Cell) → Cells cs → insert_cells [] (read_cells [] cs) ≡ cs
insert_read_cells [] h = refl
insert_read_cells (right x ∷ cs) h = insert_reading [] x [] cs tt h
insert_read_cells (down x ∷ cs) h = absurd h

-- The tableau of a valid tableau's column reading is that tableau.
pub read_back : (xs ms : List ℕ) → Tableau xs ms → (letters_of (column_reading xs ms) ≡ xs) × (marks_of (column_reading xs ms) ≡ ms)
read_back xs ms h =
    let w : List ℕ = column_reading xs ms in
    cells_decide (letters_of w) (marks_of w) xs ms (tableau_of_word w) h
    (cells_of_word w ∙ ap (insert_cells []) (read_of_cells xs ms) ∙ insert_read_cells (cells_of xs ms) (cells_of_tableau xs ms h))

-- So a column reading is as long as its tableau.
pub reading_length : (xs ms : List ℕ) → Tableau xs ms → length (column_reading xs ms) ≡ length xs
reading_length xs ms h = sym (length-letters (column_reading xs ms)) ∙ ap length (read_back xs ms h).0
