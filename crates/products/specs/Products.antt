-- The product of two quasi-ribbon tableaux (document 02, N1): the tableau of the first's column reading followed by the second's. What the operation
-- replies to every input, and what lent memory then holds (the checks in order; each over the first factor, then over the second).
--     product_word xs ms ys ns           the column reading of the first factor, then that of the second
--     product_letters, product_marks      the letters and the marks of that word's tableau
--     factors_judgements                 1 to 6 and 17 of two factors of one rank: 2 on the cells together, places in the second counting on from the first's
--                                       length, those of 17 from 64
--     product_says, product_run           1 to 6, 17, 13           gives the cells written; the letter counts are given too
--     tableau_left                       the tableau that the pair's operation leaves, to hold a product against
--     left_letters, left_marks            the first elements of both outputs, as a call has left them; left_counts: the letter counts
-- Nothing is judged across the factors: the first may end in a larger letter than the second begins with. Assumes nothing.
use Rattle.std.specs.Prelude.{ℕ, ◌+◌, List, [], ◌∷◌, ◌++◌, length, take}
use Rattle.outcomes.specs.Counts.{counts_judged, counts_of}
use Rattle.hypoplactic.specs.Insertion.{Pair, letters_of, marks_of}
use Rattle.hypoplactic.specs.Reading.{column_reading}
use Rattle.outcomes.specs.Replies.{Said, gives, count_on, first, ran_to, written}
use Rattle.outcomes.specs.Judgements.{rank_judged, length_judged, alike_judged, letters_judged, rising_judged, marks_judged, tableau_rooms}

-- The two column readings, one after the other.
unfoldable pub product_word : List ℕ → List ℕ → List ℕ → List ℕ → List ℕ
product_word xs ms ys ns = column_reading xs ms ++ column_reading ys ns

-- The letters of the product,
abbrev pub product_letters : List ℕ → List ℕ → List ℕ → List ℕ → List ℕ
product_letters xs ms ys ns = letters_of (product_word xs ms ys ns)

-- and its marks.
abbrev pub product_marks : List ℕ → List ℕ → List ℕ → List ℕ → List ℕ
product_marks xs ms ys ns = marks_of (product_word xs ms ys ns)

-- 1 to 6 of two factors, and 17 of the letter counts that each brings.
abbrev pub factors_judgements : ℕ → List ℕ → List ℕ → List ℕ → List ℕ → List ℕ → List ℕ → List Said
factors_judgements n xs ms cs ys ns ds =
    rank_judged n ∷ length_judged (length xs + length ys)
    ∷ alike_judged (length xs) (length ms ∷ []) ∷ alike_judged (length ys) (length ns ∷ [])
    ∷ letters_judged n xs ∷ count_on (length xs) (letters_judged n ys)
    ∷ rising_judged xs ∷ count_on (length xs) (rising_judged ys)
    ∷ marks_judged xs ms ∷ count_on (length xs) (marks_judged ys ns)
    ∷ counts_judged cs xs ∷ count_on 64 (counts_judged ds ys) ∷ []

-- The product, into lent letters, marks and counts.
unfoldable pub product_says : ℕ → List ℕ → List ℕ → List ℕ → List ℕ → List ℕ → List ℕ → ℕ → ℕ → Said
product_says n xs ms cs ys ns ds letters marks =
    first
    (factors_judgements n xs ms cs ys ns ds ++ tableau_rooms (length xs + length ys) letters marks)
    (gives ((length xs + length ys) ∷ []))

unfoldable pub product_run : ℕ → List ℕ → List ℕ → List ℕ → List ℕ → List ℕ → List ℕ → List ℕ → List ℕ → List ℕ → Said × (List ℕ × (List ℕ × List ℕ))
product_run n xs ms cs ys ns ds letters marks counts =
    ran_to (product_says n xs ms cs ys ns ds (length letters) (length marks))
    (written (product_letters xs ms ys ns) letters, (written (product_marks xs ms ys ns) marks, counts_of (product_word xs ms ys ns)))
    (letters, (marks, counts))

-- What a call that fills a pair has replied and left of the tableau: letters, marks and letter counts.
abbrev pub tableau_left : Said × (Pair × List ℕ) → Said × (List ℕ × (List ℕ × List ℕ))
tableau_left run = (run.0, (run.1.0.letters, (run.1.0.marks, run.1.1)))

-- The first k letters of lent memory after a call,
abbrev pub left_letters : ℕ → Said × (List ℕ × (List ℕ × List ℕ)) → List ℕ
left_letters k run = take k run.1.0

-- the first k marks,
abbrev pub left_marks : ℕ → Said × (List ℕ × (List ℕ × List ℕ)) → List ℕ
left_marks k run = take k run.1.1.0

-- and the letter counts.
abbrev pub left_counts : Said × (List ℕ × (List ℕ × List ℕ)) → List ℕ
left_counts run = run.1.1.1
