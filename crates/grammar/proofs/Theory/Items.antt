-- Items of a line.
--     items_open              what is written of items begins with no digit
--     Cell, First             what a line asks of a cell (letter and mark), and of the first
--     marked-length           as many marks as letters
--     cells-length, cells-letters, cells-marks, ribbon_good
--                             the cells of letters and marks have those letters and marks, and are good where those are
-- Assumes nothing.
use Prim.Native.Nat.{ℕ, suc, ◌≤◌}
use mathlib.Core.Path.{◌≡◌, refl, ap}
use mathlib.Core.List.{List, [], ◌∷◌, ◌++◌, append_assoc}
use native.Mathlib.Omega.{arith}
use lib.ListN.{length}
use Rattle.grammar.specs.Lines.{items, cells}
use Rattle.grammar.specs.Values.{Items, Stepped, Marked}
use Rattle.grammar.specs.Reading.{letters, marks}
use Rattle.grammar.proofs.Theory.Numbers.{Ends}

pub items_open : {A : Type 0} (p q : A → List ℕ) → ((a : A) (t : List ℕ) → Ends (p a ++ t)) → (l : List A) (t : List ℕ) → Ends t → Ends (items p q l ++ t)
items_open p q o [] t e = e
items_open p q o (a ∷ l) t e = rw append_assoc (o a (items q q l ++ t))

-- A cell whose letter is as a predicate says and whose mark is 0 or 1.
abbrev pub Cell : (ℕ → Type 0) → ℕ × ℕ → Type 0
Cell P c = P c.0 × (c.1 ≤ 1)

-- And a first cell: its mark is 0.
abbrev pub First : (ℕ → Type 0) → ℕ × ℕ → Type 0
First P c = P c.0 × (c.1 ≡ 0)

pub stepped : (xs ms : List ℕ) → Marked xs ms → Stepped xs ms
stepped [] [] h = tt
stepped (x ∷ xs) (m ∷ ms) h = (omega arith, h.1)
stepped [] (m ∷ ms) h = elim h [ ]
stepped (x ∷ xs) [] h = elim h [ ]

stepped-length : (xs ms : List ℕ) → Stepped xs ms → length ms ≡ length xs
stepped-length [] [] h = refl
stepped-length (x ∷ xs) (m ∷ ms) h = ap suc (stepped-length xs ms h.1)
stepped-length [] (m ∷ ms) h = elim h [ ]
stepped-length (x ∷ xs) [] h = elim h [ ]

-- As many marks as letters.
pub marked-length : (xs ms : List ℕ) → Marked xs ms → length ms ≡ length xs
marked-length xs ms h = stepped-length xs ms (stepped xs ms h)

pub cells-length : (xs ms : List ℕ) → Stepped xs ms → length (cells xs ms) ≡ length xs
cells-length [] [] h = refl
cells-length (x ∷ xs) (m ∷ ms) h = ap suc (cells-length xs ms h.1)
cells-length [] (m ∷ ms) h = elim h [ ]
cells-length (x ∷ xs) [] h = elim h [ ]

pub cells-letters : (xs ms : List ℕ) → Stepped xs ms → letters (cells xs ms) ≡ xs
cells-letters [] [] h = refl
cells-letters (x ∷ xs) (m ∷ ms) h = rw (cells-letters xs ms h.1)
cells-letters [] (m ∷ ms) h = elim h [ ]
cells-letters (x ∷ xs) [] h = elim h [ ]

pub cells-marks : (xs ms : List ℕ) → Stepped xs ms → marks (cells xs ms) ≡ ms
cells-marks [] [] h = refl
cells-marks (x ∷ xs) (m ∷ ms) h = rw (cells-marks xs ms h.1)
cells-marks [] (m ∷ ms) h = elim h [ ]
cells-marks (x ∷ xs) [] h = elim h [ ]

cells_good : (P : ℕ → Type 0) (xs ms : List ℕ) → Items P P xs → Stepped xs ms → Items (Cell P) (Cell P) (cells xs ms)
cells_good P [] [] g h = tt
cells_good P (x ∷ xs) (m ∷ ms) g h = ((g.0, h.0), cells_good P xs ms g.1 h.1)
cells_good P [] (m ∷ ms) g h = elim h [ ]
cells_good P (x ∷ xs) [] g h = elim h [ ]

pub ribbon_good : (P : ℕ → Type 0) (xs ms : List ℕ) → Items P P xs → Marked xs ms → Items (First P) (Cell P) (cells xs ms)
ribbon_good P [] [] g h = tt
ribbon_good P (x ∷ xs) (m ∷ ms) g h = ((g.0, h.0), cells_good P xs ms g.1 h.1)
ribbon_good P [] (m ∷ ms) g h = elim h [ ]
ribbon_good P (x ∷ xs) [] g h = elim h [ ]

-- Cells are those of their letters and marks.
pub cells_of : (cs : List (ℕ × ℕ)) → cells (letters cs) (marks cs) ≡ cs
cells_of [] = refl
cells_of (c ∷ cs) = rw (cells_of cs)

-- Good cells have good letters and marks.
letters_good : (P : ℕ → Type 0) (cs : List (ℕ × ℕ)) → Items (Cell P) (Cell P) cs → Items P P (letters cs) × Stepped (letters cs) (marks cs)
letters_good P [] h = (tt, tt)
letters_good P (c ∷ cs) h =
    let r : Items P P (letters cs) × Stepped (letters cs) (marks cs) = letters_good P cs h.1 in
    ((h.0.0, r.0), (h.0.1, r.1))

pub ribbon_of : (P : ℕ → Type 0) (cs : List (ℕ × ℕ)) → Items (First P) (Cell P) cs → Items P P (letters cs) × Marked (letters cs) (marks cs)
ribbon_of P [] h = (tt, tt)
ribbon_of P (c ∷ cs) h =
    let r : Items P P (letters cs) × Stepped (letters cs) (marks cs) = letters_good P cs h.1 in
    ((h.0.0, r.0), (h.0.1, r.1))
