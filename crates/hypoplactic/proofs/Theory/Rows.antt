-- The rows of a word are those of its tableau (document 01, "Rows are 0 for the empty word, else one more than the bits set").
--     downs_counted     a tableau has as many down steps as letters that one goes out of
--     rows_empty, rows_downs   the rows are 0 for the empty word, else one more than the down steps of its tableau
--     rows_last         and one more than the row of the tableau's last cell
--     row_column        the row and the column of a cell add up to its place
-- Assumes nothing.
use Prim.Native.Nat.{ℕ, zero, suc, ◌+◌, ◌-◌, ◌≤◌, ◌<◌}
use mathlib.Core.Path.{◌≡◌, refl, sym, ap, ◌∙◌}
use mathlib.Core.List.{List, [], ◌∷◌}
use mathlib.Core.Bool.{◌||◌, and-false}
use borrow.Author.Tests.{eq-eqb, ne_eqb}
use native.Mathlib.Omega.{arith}
use lib.Count.{ones}
use lib.Dec.{eqb}
use lib.ListN.{length, take}
use lib.Seq.{take_all}
use Rattle.hypoplactic.specs.Words.{Within, count}
use Rattle.hypoplactic.specs.Insertion.{letters_of, marks_of}
use Rattle.hypoplactic.specs.Ribbons.{Along, LetterStep, Tableau, down_after, row_at, column_at}
use Rattle.hypoplactic.specs.Junctions.{out_of, down_out, junction, junction_set, number, rows_of}
use Rattle.hypoplactic.proofs.Theory.Bits.{how_many, how_many_none, how_many_same, how_many_more, ones_number}
use Rattle.hypoplactic.proofs.Theory.Boundary.{tableau_of_word}
use Rattle.hypoplactic.proofs.Theory.DownSteps.{down_above, junction_down}
use Rattle.hypoplactic.proofs.Theory.Limits.{letters-within}
use Rattle.hypoplactic.proofs.Theory.Pairs.{length-marks}
use Rattle.hypoplactic.proofs.Theory.Seating.{rising_of_along}

-- ---- down steps and the letters that they go out of

-- In the cells after one that holds x, the letters with a down step out of them are as many as the marks 1: a down step goes out of x and of no later cell with that letter.
downs_after : (n x : ℕ) (xs ms : List ℕ) → Along LetterStep x xs ms → 1 ≤ x → x ≤ n → Within n xs → how_many (λ a. down_after (out_of a) x xs ms) n 1 ≡ count 1 ms
downs_after n x [] [] h low high w = how_many_none n 1
downs_after n x [] (m ∷ ms) h low high w = absurd h
downs_after n x (y ∷ ys) [] h low high w = absurd h
downs_after n x (y ∷ ys) (zero ∷ ms) h low high w =
    how_many_same _ _ n 1 (λ a l. ap (λ b. b || down_after (out_of a) y ys ms) (and-false (eqb x a))) ∙ downs_after n y ys ms h.1 w.0 w.1 w.2
downs_after n x (y ∷ ys) (suc zero ∷ ms) h low high w =
    let l : x < y = h.0 in
    how_many_more _ (λ a. down_after (out_of a) y ys ms) n 1 x low (omega arith)
    (rw (eq-eqb x x refl)) (down_above x y ys ms l (rising_of_along y ys ms h.1)) (λ a o. rw (ne_eqb x a (λ e. o (sym e))))
    ∙ ap suc (downs_after n y ys ms h.1 w.0 w.1 w.2)
downs_after n x (y ∷ ys) (suc (suc m) ∷ ms) h low high w = absurd h.0

-- A tableau has one down step for each letter that one goes out of.
pub downs_counted : (n : ℕ) (xs ms : List ℕ) → Tableau xs ms → Within n xs → how_many (λ a. down_out a xs ms) n 1 ≡ count 1 ms
downs_counted n [] [] h w = how_many_none n 1
downs_counted n [] (m ∷ ms) h w = absurd h
downs_counted n (x ∷ xs) [] h w = absurd h
downs_counted n (x ∷ xs) (m ∷ ms) h w = rw h.0 (downs_after n x xs ms h.1 w.0 w.1 w.2)

-- The ones of the junction set are the down steps of the tableau.
ones_downs : (n : ℕ) (w : List ℕ) → Within n w → ones (number (junction w) n 1) ≡ count 1 (marks_of w)
ones_downs n w h =
    ones_number (junction w) n 1
    ∙ how_many_same (junction w) (λ a. down_out a (letters_of w) (marks_of w)) n 1 (λ a l. junction_down w a)
    ∙ downs_counted n (letters_of w) (marks_of w) (tableau_of_word w) (letters-within n w h)

-- ---- the rows of a word

-- The empty word has none.
pub rows_empty : rows_of [] ≡ 0
unfolding rows_of
rows_empty = refl

-- One more than the down steps of its tableau.
pub rows_downs : (w : List ℕ) → Within 64 w → 1 ≤ length w → rows_of w ≡ suc (count 1 (marks_of w))
unfolding rows_of junction_set
rows_downs [] h l = let z : ⊥ = omega arith in absurd z
rows_downs (x ∷ xs) h l = ap suc (ones_downs 64 (x ∷ xs) h)

-- The row of a tableau's last cell is the number of its down steps: the first mark is none.
last_row : (xs ms : List ℕ) (k : ℕ) → Tableau xs ms → length ms ≡ suc k → count 1 ms ≡ row_at ms k
last_row [] [] k h e = let z : ⊥ = omega arith in absurd z
last_row [] (m ∷ ms) k h e = absurd h
last_row (x ∷ xs) [] k h e = absurd h
last_row (x ∷ xs) (m ∷ ms) k h e = let all : length ms ≤ k = omega arith in rw (h.0, take_all k ms all)

-- One more than the row of its tableau's last cell.
pub rows_last : (w : List ℕ) → Within 64 w → 1 ≤ length w → rows_of w ≡ suc (row_at (marks_of w) (length w - 1))
rows_last w h l =
    rows_downs w h l ∙ ap suc (last_row (letters_of w) (marks_of w) (length w - 1) (tableau_of_word w) (omega (arith, length-marks w)))

-- ---- the row and the column of a cell

-- Of the first k steps, those down and those right are k.
marks-add : (x : ℕ) (xs ms : List ℕ) (k : ℕ) → Along LetterStep x xs ms → k ≤ length xs → count 1 (take k ms) + count 0 (take k ms) ≡ k
marks-add x xs ms zero h l = refl
marks-add x [] ms (suc k) h l = let z : ⊥ = omega arith in absurd z
marks-add x (y ∷ ys) [] (suc k) h l = absurd h
marks-add x (y ∷ ys) (zero ∷ ms) (suc k) h l = omega (arith, marks-add y ys ms k h.1 (omega arith))
marks-add x (y ∷ ys) (suc zero ∷ ms) (suc k) h l = omega (arith, marks-add y ys ms k h.1 (omega arith))
marks-add x (y ∷ ys) (suc (suc m) ∷ ms) (suc k) h l = absurd h.0

-- The row and the column of a cell add up to its place.
pub row_column : (xs ms : List ℕ) (k : ℕ) → Tableau xs ms → k < length xs → row_at ms k + column_at ms k ≡ k
row_column [] ms k h l = let z : ⊥ = omega arith in absurd z
row_column (x ∷ xs) [] k h l = absurd h
row_column (x ∷ xs) (m ∷ ms) k h l = marks-add x xs ms k h.1 (omega arith)
