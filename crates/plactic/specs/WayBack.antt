-- The way back from a Young tableau and its standard tableau to the word (document 02, N10): Algorithm 3.1 undone, the last letter first.
--     leaving t r           the cell of a row with the entry t taken out: its letter, if there is one, and the row then
--     returning z r         z put in the place of the rightmost letter that is smaller than z: that letter, if there is one, and the row then
--     withdrawn t rows      the insertion of the t-th letter undone: that letter, and the rows before it came
--     word_of_young rows      the word: the insertions undone from the last one on
-- That this is the one word with this pair is `young_back` and `back_young`, proofs/Theory/Correspondence. Assumes nothing.
use Rattle.std.specs.Prelude.{ℕ, zero, suc, List, [], ◌∷◌, ◌++◌, cond, eqb, ltb, length}
use Rattle.std.proofs.Math.Option.{Option, none, some}
use Rattle.plactic.specs.Young.{Cell, Row, Rows, cell, young_letters}
use Rattle.plactic.specs.FlatForm.{above}

-- ---- one row

-- A cell before a row that has given up a letter.
abbrev pub after : Cell → Option ℕ × Row → Option ℕ × Row
after c p = (p.0, c ∷ p.1)

abbrev pub leaving : ℕ → Row → Option ℕ × Row
leaving t [] = (none, [])
leaving t (cell x s ∷ cs) = cond (eqb s t) (some x, cs) (after (cell x s) (leaving t cs))

-- A cell before others of which a letter was asked: where none of them gave it, the cell does, if its letter is smaller than z.
abbrev pub or_here : ℕ → ℕ → ℕ → Option ℕ × Row → Option ℕ × Row
or_here z x s (some y, cs) = (some y, cell x s ∷ cs)
or_here z x s (none, cs) = cond (ltb x z) (some x, cell z s ∷ cs) (none, cell x s ∷ cs)

abbrev pub returning : ℕ → Row → Option ℕ × Row
returning z [] = (none, [])
returning z (cell x s ∷ cs) = or_here z x s (returning z cs)

-- ---- all rows

-- What one row does, when the rows below have given up a letter, or none: the t-th letter then began or ended in this row, or has not come so far.
abbrev pub up_to : ℕ → Row → Option ℕ → Option ℕ × Row
up_to t r none = leaving t r
up_to t r (some z) = returning z r

-- A row that has given up a letter above rows that have; a last row left empty is none.
abbrev pub up_into : ℕ → Row → Option ℕ × Rows → Option ℕ × Rows
up_into t r p = ((up_to t r p.0).0, above (up_to t r p.0).1 p.1)

-- From the lowest row up.
abbrev pub withdrawn : ℕ → Rows → Option ℕ × Rows
withdrawn t [] = (none, [])
withdrawn t (r ∷ rs) = up_into t r (withdrawn t rs)

-- The letter given up: 0 where there is none.
abbrev pub letter_out : Option ℕ → ℕ
letter_out none = 0
letter_out (some a) = a

-- The letters of the insertions 1 to t.
abbrev pub undone : ℕ → Rows → List ℕ
undone zero rows = []
undone (suc t) rows = undone t (withdrawn (suc t) rows).1 ++ (letter_out (withdrawn (suc t) rows).0 ∷ [])

unfoldable pub word_of_young : Rows → List ℕ
word_of_young rows = undone (length (young_letters rows)) rows
