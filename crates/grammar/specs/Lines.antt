-- The seven kinds of lines as bytes, over ranks, letters, marks, entries, runs and numbers.
--     w_line, t_line, c_line, p_line, n_line, j_line, e_line
--     Run                                         what one item of a C line tells
-- N lines are written no more: they stand in old files, each beside its T line (document 02, N7).
-- Fields are parted by commas (44), and a line ends in a line feed (10). Nothing here asks whether the values are a word or a tableau. Assumes nothing.
use Rattle.std.specs.Prelude.{ℕ, zero, suc, List, [], ◌∷◌, ◌++◌, length}
use Rattle.grammar.specs.Numbers.{decimal}

-- A comma and a number.
abbrev pub field : ℕ → List ℕ
field n = 44 ∷ decimal n

-- Items one after another, the first by one writer, the others by another.
abbrev pub items : {A : Type 0} → (A → List ℕ) → (A → List ℕ) → List A → List ℕ
items first later [] = []
items first later (a ∷ l) = first a ++ items later later l

-- How a cell is stepped into: the letter r for mark 0, d for any other.
abbrev pub step : ℕ → ℕ
step zero = 114
step (suc m) = 100

-- The first cell, a letter and a mark: its letter alone is written.
abbrev pub first_cell : ℕ × ℕ → List ℕ
first_cell c = field c.0

-- Another cell: its step, then its letter.
abbrev pub cell : ℕ × ℕ → List ℕ
cell c = 44 ∷ step c.1 ∷ field c.0

-- Letters and marks as cells, as many as there are of both.
abbrev pub cells : List ℕ → List ℕ → List (ℕ × ℕ)
cells [] ms = []
cells (x ∷ xs) [] = []
cells (x ∷ xs) (m ∷ ms) = (x, m) ∷ cells xs ms

-- A line: the letter of its kind, its fields, the line feed.
abbrev pub line : ℕ → List ℕ → List ℕ
line kind body = kind ∷ (body ++ (10 ∷ []))

-- W, rank, how many letters, the letters.
unfoldable pub w_line : ℕ → List ℕ → List ℕ
w_line rank letters = line 87 (field rank ++ (field (length letters) ++ items field field letters))

-- T, rank, how many letters, the letters in ribbon order with r or d between neighbours.
unfoldable pub t_line : ℕ → List ℕ → List ℕ → List ℕ
t_line rank letters marks = line 84 (field rank ++ (field (length letters) ++ items first_cell cell (cells letters marks)))

-- A run: a letter, how often it stands, and the mark of the first of its cells.
pub record Run : Type 0 where
  pub letter : ℕ
  pub times : ℕ
  pub mark : ℕ

-- The first run: its first cell, then how often its letter stands.
abbrev pub first_run : Run → List ℕ
first_run r = first_cell (r.letter, r.mark) ++ field r.times

-- Another run, likewise, and so with the step before it.
abbrev pub later_run : Run → List ℕ
later_run r = cell (r.letter, r.mark) ++ field r.times

-- C, rank, a number of cells, runs. The number is written as it is: the runs need not have so many cells, nor be so many.
unfoldable pub c_line : ℕ → ℕ → List Run → List ℕ
c_line rank size runs = line 67 (field rank ++ (field size ++ items first_run later_run runs))

-- P, rank, how many cells, the items of the T line, the recording entries in ribbon order.
unfoldable pub p_line : ℕ → List ℕ → List ℕ → List ℕ → List ℕ
p_line rank letters marks entries =
    line 80 (field rank ++ (field (length letters) ++ (items first_cell cell (cells letters marks) ++ items field field entries)))

-- N, how many entries, the recording entries in ribbon order.
unfoldable pub n_line : List ℕ → List ℕ
n_line entries = line 78 (field (length entries) ++ items field field entries)

-- J, junction set, rows.
unfoldable pub j_line : ℕ → ℕ → List ℕ
j_line set rows = line 74 (field set ++ field rows)

-- E, number, place.
unfoldable pub e_line : ℕ → ℕ → List ℕ
e_line number place = line 69 (field number ++ field place)
