-- Between a tableau as two lists, letters and marks, and as one list of cells.
--     cells_of_tableau      the cells of a valid tableau are a tableau of cells
--     cells_of_insert       insertion on lists is insertion on cells
--     tableau_of_insert     insertion keeps a tableau valid
--     read_of_cells         column reading on lists is column reading on cells
--     letters_of-cells, marks_of-cells, cells_decide   the cells of a tableau give its letters and marks back
--     tableau_of_word       the tableau of a word is valid
-- Assumes nothing.
use Prim.Native.Nat.{ℕ, zero, suc, ◌≤◌, ◌<◌}
use native.Mathlib.Decide.{dec_le}
use native.Mathlib.Omega.{arith}
use mathlib.Core.Path.{◌≡◌, refl, ap, ap₂, sym, ◌∙◌}
use mathlib.Core.Logic.{dite}
use mathlib.Core.List.{List, [], ◌∷◌, ◌++◌, map}
use borrow.Author.Tests.{le-leb, lt-leb}
use Rattle.hypoplactic.specs.Ribbons.{Along, LetterStep, Tableau}
use Rattle.hypoplactic.specs.Insertion.{Pair, empty_pair, insert, insert_all, letters_of, marks_of, pair_of, put_at, put_mark, seat}
use Rattle.hypoplactic.specs.Reading.{column_reading, read_from}
use Rattle.hypoplactic.proofs.Theory.Cells.{Cell, right, down, letter, cell, cells_of, Follows, Cells, insert_cell, read_cells}
use Rattle.hypoplactic.proofs.Theory.Pairs.{seat_high, seat_low}
use Rattle.hypoplactic.proofs.Theory.Seating.{rising_of_along, seated_letter, ribbon_put}

-- A tableau's cells may follow a cell with the letter 0.
pub along_of_tableau : (xs ms : List ℕ) → Tableau xs ms → Along LetterStep 0 xs ms
along_of_tableau [] [] h = tt
along_of_tableau [] (m ∷ ms) h = h
along_of_tableau (x ∷ xs) [] h = h
along_of_tableau (x ∷ xs) (zero ∷ ms) h = (omega arith, h.1)
along_of_tableau (x ∷ xs) (suc m ∷ ms) h = let z : ⊥ = omega (arith, h.0) in absurd z

follows_of_along : (x : ℕ) (xs ms : List ℕ) → Along LetterStep x xs ms → Follows x (cells_of xs ms)
follows_of_along x [] ms h = tt
follows_of_along x (y ∷ ys) [] h = tt
follows_of_along x (y ∷ ys) (zero ∷ ms) h = (h.0, follows_of_along y ys ms h.1)
follows_of_along x (y ∷ ys) (suc zero ∷ ms) h = (h.0, follows_of_along y ys ms h.1)
follows_of_along x (y ∷ ys) (suc (suc m) ∷ ms) h = absurd h.0

-- The cells of a valid tableau are a tableau of cells.
pub cells_of_tableau : (xs ms : List ℕ) → Tableau xs ms → Cells (cells_of xs ms)
cells_of_tableau [] ms h = tt
cells_of_tableau (x ∷ xs) [] h = tt
cells_of_tableau (x ∷ xs) (zero ∷ ms) h = follows_of_along x xs ms h.1
cells_of_tableau (x ∷ xs) (suc m ∷ ms) h = let z : ⊥ = omega (arith, h.0) in z

letter_of_cell : (x m : ℕ) → letter (cell x m) ≡ x
letter_of_cell x zero = refl
letter_of_cell x (suc m) = refl

cells_of_put : (a x : ℕ) (xs ms : List ℕ) → Along LetterStep x xs ms
    → cells_of (put_at (seat a xs) a xs) (put_mark (seat a xs) ms) ≡ insert_cell a (cells_of xs ms)
cells_of_put a x [] [] h = refl
cells_of_put a x [] (m ∷ ms) h = absurd h
cells_of_put a x (y ∷ ys) [] h = absurd h
cells_of_put a x (y ∷ ys) (m ∷ ms) h = dite (dec_le y a)
    (λ (low : y ≤ a). rw (seat_low a y ys low, letter_of_cell y m, le-leb y a low) (ap (λ (cs : List Cell). cell y m ∷ cs) (cells_of_put a y ys ms h.1)))
    (λ (high : ¬ (y ≤ a)).
    let l : a < y = omega arith in
    rw (letter_of_cell y m, seat_high a y (y ∷ ys) l (omega arith, rising_of_along y ys ms h.1), lt-leb y a l))

-- Insertion into a valid tableau is insertion into its cells.
pub cells_of_insert : (a : ℕ) (p : Pair) → Tableau p.letters p.marks
    → cells_of (insert a p).letters (insert a p).marks ≡ insert_cell a (cells_of p.letters p.marks)
unfolding insert
cells_of_insert a p h = cells_of_put a 0 p.letters p.marks (along_of_tableau p.letters p.marks h)

-- Insertion keeps a tableau valid.
pub tableau_of_insert : (a : ℕ) (p : Pair) → Tableau p.letters p.marks → Tableau (insert a p).letters (insert a p).marks
unfolding insert
tableau_of_insert a p h =
    let xs : List ℕ = p.letters in
    ribbon_put LetterStep a (seat a xs) xs p.marks h (seated_letter a 0 xs (rising_of_along 0 xs p.marks (along_of_tableau xs p.marks h)))

read_from-cells : (column xs ms : List ℕ) → read_from column xs ms ≡ read_cells column (cells_of xs ms)
read_from-cells column [] ms = refl
read_from-cells column (x ∷ xs) [] = refl
read_from-cells column (x ∷ xs) (zero ∷ ms) = ap (λ (w : List ℕ). column ++ w) (read_from-cells (x ∷ []) xs ms)
read_from-cells column (x ∷ xs) (suc m ∷ ms) = read_from-cells (x ∷ column) xs ms

-- Column reading on lists is column reading on cells.
pub read_of_cells : (xs ms : List ℕ) → column_reading xs ms ≡ read_cells [] (cells_of xs ms)
unfolding column_reading
read_of_cells xs ms = read_from-cells [] xs ms

-- The mark of the step into a cell.
abbrev pub mark : Cell → ℕ
mark (right x) = 0
mark (down x) = 1

mark_of-cell : (m x y : ℕ) → LetterStep m x y → mark (cell y m) ≡ m
mark_of-cell zero x y h = refl
mark_of-cell (suc zero) x y h = refl
mark_of-cell (suc (suc m)) x y h = absurd h

lists_of_cells : (x : ℕ) (xs ms : List ℕ) → Along LetterStep x xs ms → (map letter (cells_of xs ms) ≡ xs) × (map mark (cells_of xs ms) ≡ ms)
lists_of_cells x [] [] h = (refl, refl)
lists_of_cells x [] (m ∷ ms) h = absurd h
lists_of_cells x (y ∷ ys) [] h = absurd h
lists_of_cells x (y ∷ ys) (m ∷ ms) h =
    let r : (map letter (cells_of ys ms) ≡ ys) × (map mark (cells_of ys ms) ≡ ms) = lists_of_cells y ys ms h.1 in
    (ap₂ ◌∷◌ (letter_of_cell y m) r.0, ap₂ ◌∷◌ (mark_of-cell m x y h.0) r.1)

-- A valid tableau's cells give its letters back,
pub letters_of-cells : (xs ms : List ℕ) → Tableau xs ms → map letter (cells_of xs ms) ≡ xs
letters_of-cells xs ms h = (lists_of_cells 0 xs ms (along_of_tableau xs ms h)).0

-- and its marks,
pub marks_of-cells : (xs ms : List ℕ) → Tableau xs ms → map mark (cells_of xs ms) ≡ ms
marks_of-cells xs ms h = (lists_of_cells 0 xs ms (along_of_tableau xs ms h)).1

-- so that valid tableaux with the same cells are the same.
pub cells_decide : (xs ms ys ns : List ℕ) → Tableau xs ms → Tableau ys ns → cells_of xs ms ≡ cells_of ys ns → (xs ≡ ys) × (ms ≡ ns)
cells_decide xs ms ys ns h k e = (
  sym (letters_of-cells xs ms h) ∙ ap (map letter) e ∙ letters_of-cells ys ns k,
  sym (marks_of-cells xs ms h) ∙ ap (map mark) e ∙ marks_of-cells ys ns k,
)

tableau_of_insert_all : (p : Pair) (w : List ℕ) → Tableau p.letters p.marks → Tableau (insert_all p w).letters (insert_all p w).marks
tableau_of_insert_all p [] h = h
tableau_of_insert_all p (a ∷ w) h = tableau_of_insert_all (insert a p) w (tableau_of_insert a p h)

-- The tableau of a word is valid.
pub tableau_of_word : (w : List ℕ) → Tableau (letters_of w) (marks_of w)
unfolding pair_of
tableau_of_word w = tableau_of_insert_all empty_pair w tt
