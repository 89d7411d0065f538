-- The tableau of a word row by row. At each time a row is brought a letter or nothing, and hands a letter or nothing down to the row below; so each row can be
-- made for all times before the next one is begun. That the rows made so are those of insertion is proved in the theory's ByRows. A list of letters has an element for
-- each time, 0 where nothing is brought.
--     comes a               the letter brought, if there is one
--     Takes e a r z r'      the row r takes the letter a as the e-th: it hands z down, if that is a letter, and is r' then; `replaced` and `row_with` by cases
--     settled t r w         the row r after the times from t on that bring w
--     handed t r w          what it hands down at each of them
--     insert_times t rows w  insertion of what each time brings
--     pending i w           what each time brings to row i, from 0, of a tableau that is empty at first
-- Assumes nothing.
use Rattle.std.specs.Prelude.{ℕ, zero, suc, ◌≤◌, ◌<◌, List, [], ◌∷◌}
use Rattle.std.proofs.Math.Option.{Option, none, some}
use Rattle.plactic.specs.Young.{Row, Rows, cell}
use Rattle.plactic.specs.Schensted.{insert, replaced, row_with}
use Rattle.plactic.specs.WayBack.{letter_out}

-- A letter, or nothing where it is 0.
abbrev pub comes : ℕ → Option ℕ
comes zero = none
comes (suc a) = some (suc a)

-- ---- one row

pub data Takes (e a : ℕ) : Row → Option ℕ → Row → Type 0 where
  ends : Takes e a [] none (cell a e ∷ [])
  replaces : {x s : ℕ} {cs : Row} → a < x → Takes e a (cell x s ∷ cs) (some x) (cell a s ∷ cs)
  passes : {x s : ℕ} {cs ds : Row} {z : Option ℕ} → x ≤ a → Takes e a cs z ds → Takes e a (cell x s ∷ cs) z (cell x s ∷ ds)

-- The row after one time, and what it hands down.
abbrev pub row_after : ℕ → Row → Option ℕ → Row
row_after t r none = r
row_after t r (some a) = row_with t a r

abbrev pub hands_down : Row → Option ℕ → Option ℕ
hands_down r none = none
hands_down r (some a) = replaced a r

-- The row after all times.
abbrev pub settled : ℕ → Row → List ℕ → Row
settled t r [] = r
settled t r (a ∷ w) = settled (suc t) (row_after t r (comes a)) w

-- What it hands down, 0 where that is nothing.
abbrev pub handed : ℕ → Row → List ℕ → List ℕ
handed t r [] = []
handed t r (a ∷ w) = letter_out (hands_down r (comes a)) ∷ handed (suc t) (row_after t r (comes a)) w

-- ---- all rows

abbrev pub insert_times : ℕ → Rows → List ℕ → Rows
insert_times t rows [] = rows
insert_times t rows (a ∷ w) = insert_times (suc t) (insert t rows (comes a)) w

abbrev pub pending : ℕ → List ℕ → List ℕ
pending zero w = w
pending (suc i) w = handed 1 [] (pending i w)
