-- A P line beside the T line and the N line of former files.
--     halves     a P line is the T line's fields and items, then the N line's items, byte for byte
--     p_size     so it is as long as the T line and the N line's items together
-- Assumes nothing.
use Prim.Native.Nat.{ℕ, ◌+◌}
use mathlib.Core.Path.{◌≡◌, refl}
use mathlib.Core.List.{List, [], ◌∷◌, ◌++◌, append_assoc}
use native.Mathlib.Omega.{arith}
use lib.ListN.{length, length-append}
use Rattle.grammar.specs.Lines.{line, field, items, first_cell, cell, cells, t_line, p_line, n_line}

-- What stands in a T line between its kind and its line feed: rank, number of cells, the cells.
abbrev pub tableau_part : ℕ → List ℕ → List ℕ → List ℕ
tableau_part n xs ms = field n ++ (field (length xs) ++ items first_cell cell (cells xs ms))

-- The items of an N line.
abbrev pub entries_part : List ℕ → List ℕ
entries_part rs = items field field rs

-- Of as many entries as letters: the T line is its part and a line feed, the N line the number of cells, its items and a line feed,
-- and the P line both parts, one after the other.
pub halves : (n : ℕ) (xs ms rs : List ℕ) → length rs ≡ length xs
    → (t_line n xs ms ≡ 84 ∷ (tableau_part n xs ms ++ (10 ∷ [])))
    × (n_line rs ≡ 78 ∷ (field (length xs) ++ entries_part rs ++ (10 ∷ [])))
    × (p_line n xs ms rs ≡ 80 ∷ (tableau_part n xs ms ++ entries_part rs ++ (10 ∷ [])))
unfolding t_line n_line p_line
halves n xs ms rs e = (refl, rw e, simp (append_assoc))

-- A line of four parts is as long as one of three, and the fourth.
four_parts : (k j : ℕ) (a b c d : List ℕ) → length (line k (a ++ (b ++ (c ++ d)))) ≡ length (line j (a ++ (b ++ c))) + length d
four_parts k j a b c d = simp (length-append) (omega arith)

-- The P line has the T line's bytes and those of the entries.
pub p_size : (n : ℕ) (xs ms rs : List ℕ) → length (p_line n xs ms rs) ≡ length (t_line n xs ms) + length (entries_part rs)
unfolding t_line p_line
p_size n xs ms rs = four_parts 80 84 (field n) (field (length xs)) (items first_cell cell (cells xs ms)) (entries_part rs)
