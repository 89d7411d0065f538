-- Cases that pin what the starred, worked and refusal cases leave open, in the same form: the order of the checks of each operation, each number, place
-- and value that it replies, and each limit on both sides. So none of them can be changed in definitions and code together.
--     on_words, on_two, on_tableaux, on_pairs              what an operation says of inputs that each break one check and the one after it
--     word_order, two_order, tableau_order, pair_order     what it must say: the first of the two
--     order_cases, value_cases, line_cases                the cases
-- Letter counts have cases of their own, in Counted. That the two sides of every case are equal is proved in proofs/Theory/Pinned.antt. Assumes nothing.
use Rattle.std.specs.Prelude.{ℕ, true, List, [], ◌∷◌, ◌++◌, length, replicate}
use Rattle.grammar.specs.Lines.{e_line}
use Rattle.hypoplactic.specs.Insertion.{pair_with}
use Rattle.hypoplactic.specs.Words.{tick}
use Rattle.quasi_crystal.specs.Moves.{below}
use Rattle.hypoplactic.specs.Junctions.{junction_set}
use Rattle.outcomes.specs.Replies.{Said, first, gives, passed, refused}
use Rattle.outcomes.specs.WrittenClasses.{elements}
use Rattle.outcomes.specs.Counts.{counts_of}
use Rattle.outcomes.specs.Judgements.{full_judged, recording_judged, room_judged}
use Rattle.outcomes.specs.WordOperations.{junction_says, move_judgements, move_word_run, move_word_says, repeat_word_says, same_class_says, weights_says}
use Rattle.outcomes.specs.TableauOperations.{cell_at, insert_run, insert_says, look_says, move_tableau_says, pair_run, pair_says, reading_run, reading_says, repeat_tableau_says, through_says, viewer_says, word_run, word_says}
use Rattle.outcomes.specs.LineOperations.{e_line_run, j_line_run, p_line_run, program, room_run, t_line_run, tableau_line_run, w_line_run}
use Rattle.outcomes.specs.LineReadings.{answer_run, output, pair_read, read_p_run, read_t_run, read_w_run, tableau_read, word_read}
use Rattle.outcomes.specs.Starred.{Case, case, counts, lent, lent_pair, lower, numbers, outcome, pair_outcome, raise, tableau_outcome, text, w4323, w433}

-- ---- inputs that break two checks

-- Words that break 1 and 2, 2 and 4, 4 and whatever an operation checks next.
abbrev pub on_words : (ℕ → List ℕ → Said) → List ℕ
on_words says = numbers (says 65 (replicate 1025 1)) ++ numbers (says 4 (replicate 1025 5)) ++ numbers (says 4 (2 ∷ 5 ∷ 0 ∷ []))

-- Each by the first check that it breaks.
abbrev pub word_order : List ℕ
word_order = 1 ∷ 0 ∷ 2 ∷ 0 ∷ 4 ∷ 1 ∷ []

-- Two words: 1 of one and 2 of the other, 2 of one and 4 of the other, 4 of both, 4 of the second alone, by its own rank.
abbrev pub on_two : (ℕ → List ℕ → ℕ → List ℕ → Said) → List ℕ
on_two says =
    numbers (says 65 [] 4 (replicate 1025 1))
    ++ numbers (says 4 (replicate 1025 1) 65 [])
    ++ numbers (says 4 (replicate 1025 1) 4 (5 ∷ []))
    ++ numbers (says 4 (5 ∷ []) 4 (replicate 1025 1))
    ++ numbers (says 4 (1 ∷ 5 ∷ []) 4 (5 ∷ []))
    ++ numbers (says 4 (4 ∷ []) 3 (3 ∷ 4 ∷ []))

abbrev pub two_order : List ℕ
two_order = 1 ∷ 0 ∷ 1 ∷ 0 ∷ 2 ∷ 0 ∷ 2 ∷ 0 ∷ 4 ∷ 1 ∷ 4 ∷ 2 ∷ []

-- Tableaux that break 1 and 2, 2 and 3, 3 and 4, 4 and 5, 5 and 6, 6 and whatever an operation checks next.
abbrev pub on_tableaux : (ℕ → List ℕ → List ℕ → Said) → List ℕ
on_tableaux says =
    numbers (says 65 (replicate 1025 1) [])
    ++ numbers (says 4 (replicate 1025 1) [])
    ++ numbers (says 4 (5 ∷ []) [])
    ++ numbers (says 4 (3 ∷ 2 ∷ 5 ∷ []) (0 ∷ 0 ∷ 0 ∷ []))
    ++ numbers (says 4 (2 ∷ 1 ∷ []) (1 ∷ 1 ∷ []))
    ++ numbers (says 4 (1 ∷ 1 ∷ []) (0 ∷ 1 ∷ []))

abbrev pub tableau_order : List ℕ
tableau_order = 1 ∷ 0 ∷ 2 ∷ 0 ∷ 3 ∷ 0 ∷ 4 ∷ 2 ∷ 5 ∷ 1 ∷ 6 ∷ 1 ∷ []

-- Pairs that break 1 and 2, 2 and 3, 3 by both parts or by one and 4, 4 and 5, 5 and 6, 6 and 7, 7 and 8, 8 and whatever comes next.
abbrev pub on_pairs : (ℕ → List ℕ → List ℕ → List ℕ → Said) → List ℕ
on_pairs says =
    numbers (says 65 (replicate 1025 1) [] [])
    ++ numbers (says 4 (replicate 1025 1) [] [])
    ++ numbers (says 4 (5 ∷ []) [] [])
    ++ numbers (says 4 (5 ∷ []) [] (1 ∷ []))
    ++ numbers (says 4 (5 ∷ []) (0 ∷ []) [])
    ++ numbers (says 4 (3 ∷ 2 ∷ 5 ∷ []) (0 ∷ 0 ∷ 0 ∷ []) (1 ∷ 2 ∷ 3 ∷ []))
    ++ numbers (says 4 (2 ∷ 1 ∷ []) (1 ∷ 1 ∷ []) (1 ∷ 2 ∷ []))
    ++ numbers (says 4 (1 ∷ 1 ∷ []) (0 ∷ 1 ∷ []) (0 ∷ 1 ∷ []))
    ++ numbers (says 4 (1 ∷ 2 ∷ 2 ∷ []) (0 ∷ 0 ∷ 0 ∷ []) (2 ∷ 1 ∷ 1 ∷ []))
    ++ numbers (says 4 (1 ∷ 2 ∷ []) (0 ∷ 0 ∷ []) (2 ∷ 1 ∷ []))

abbrev pub pair_order : List ℕ
pair_order = 1 ∷ 0 ∷ 2 ∷ 0 ∷ 3 ∷ 0 ∷ 3 ∷ 0 ∷ 3 ∷ 0 ∷ 4 ∷ 2 ∷ 5 ∷ 1 ∷ 6 ∷ 1 ∷ 7 ∷ 2 ∷ 8 ∷ 1 ∷ []

-- ---- the order of checks

-- What comes after the inputs' own checks is broken too: an index 0, or no room. A tableau's counts are all 0, so that 6 stands before 17; a pair's are true.
unfoldable pub order_cases : List Case
order_cases =
    -- of a word
    case (on_words junction_says) word_order
    ∷ case (on_words (λ n w. move_word_says n (raise 0) w)) word_order
    ∷ case (on_words (λ n w. repeat_word_says n (raise 0) w)) word_order
    ∷ case (on_words (λ n w. pair_says n w 0 0 0)) word_order
    ∷ case (on_words (λ n w. (w_line_run n w []).0)) word_order
    ∷ case (on_words (λ n w. (tableau_line_run n w []).0)) word_order
    ∷ case (on_words (λ n w. (j_line_run n w []).0)) word_order
    ∷ case (on_words (λ n w. (word_read [] n w).0)) word_order
    -- of a move, once its inversion is known: 9 before 10 before 11
    ∷ case (numbers (first (move_judgements 4 (raise 0) true []) passed)) (9 ∷ 0 ∷ [])
    ∷ case (numbers (first (move_judgements 4 (raise 1) true []) passed)) (10 ∷ 0 ∷ [])
    -- of two words
    ∷ case (on_two same_class_says) two_order
    ∷ case (on_two weights_says) two_order
    -- of a tableau
    ∷ case (on_tableaux viewer_says) tableau_order
    ∷ case (on_tableaux (λ n xs ms. look_says n xs ms 9)) tableau_order
    ∷ case (on_tableaux (λ n xs ms. reading_says n xs ms [] 0)) tableau_order
    ∷ case (on_tableaux (λ n xs ms. move_tableau_says n (raise 0) xs ms [])) tableau_order
    ∷ case (on_tableaux (λ n xs ms. repeat_tableau_says n (raise 0) xs ms [])) tableau_order
    ∷ case (on_tableaux (λ n xs ms. (t_line_run n xs ms []).0)) tableau_order
    ∷ case (on_tableaux (λ n xs ms. (tableau_read [] [] [] n xs ms).0)) tableau_order
    -- of a pair
    ∷ case (on_pairs (λ n xs ms rs. word_says n xs ms rs (counts_of xs) 0)) pair_order
    ∷ case (on_pairs (λ n xs ms rs. insert_says n (length xs) 1 (pair_with xs ms rs) (counts_of xs))) pair_order
    ∷ case (on_pairs (λ n xs ms rs. (p_line_run n xs ms rs []).0)) pair_order
    ∷ case (on_pairs (λ n xs ms rs. (pair_read (pair_with [] [] []) [] n xs ms rs).0)) pair_order
    ∷ []

-- ---- values, places and limits

unfoldable pub value_cases : List Case
value_cases =
    -- the junction set: 64 bits, whatever the letters
    case (junction_set (65 ∷ 64 ∷ []) ∷ junction_set (66 ∷ 65 ∷ []) ∷ []) (9223372036854775808 ∷ 0 ∷ [])
    -- classes: the letters 1 to 64 count
    ∷ case (numbers (same_class_says 64 [] 64 (1 ∷ []))) (0 ∷ 0 ∷ [])
    ∷ case (numbers (same_class_says 64 (64 ∷ []) 64 [])) (0 ∷ 0 ∷ [])
    -- weights: 0 equal, 1 lower, 2 higher, 3 neither; sums up to 64
    ∷ case (numbers (weights_says 4 (1 ∷ 2 ∷ []) 4 (2 ∷ 1 ∷ []))) (0 ∷ 0 ∷ [])
    ∷ case (numbers (weights_says 64 [] 64 (64 ∷ []))) (0 ∷ 1 ∷ [])
    ∷ case (numbers (weights_says 64 (64 ∷ []) 64 [])) (0 ∷ 2 ∷ [])
    ∷ case (numbers (weights_says 4 (4 ∷ []) 5 (5 ∷ []))) (0 ∷ 2 ∷ [])
    ∷ case (numbers (weights_says 3 (1 ∷ 3 ∷ []) 3 (2 ∷ 2 ∷ []))) (0 ∷ 3 ∷ [])
    -- repeat counts: 9 for a word too; of a tableau on both sides, 0 under an inversion
    ∷ case (numbers (repeat_word_says 3 (raise 3) (1 ∷ []))) (9 ∷ 0 ∷ [])
    ∷ case (numbers (repeat_tableau_says 3 (raise 1) (1 ∷ 2 ∷ 2 ∷ []) (0 ∷ 0 ∷ 0 ∷ []) (counts (1 ∷ 2 ∷ [])))) (0 ∷ 2 ∷ [])
    ∷ case (numbers (repeat_tableau_says 3 (lower 1) (1 ∷ 2 ∷ 2 ∷ []) (0 ∷ 0 ∷ 0 ∷ []) (counts (1 ∷ 2 ∷ [])))) (0 ∷ 1 ∷ [])
    ∷ case (numbers (repeat_tableau_says 3 (raise 1) (1 ∷ 2 ∷ 2 ∷ []) (0 ∷ 1 ∷ 0 ∷ []) (counts (1 ∷ 2 ∷ [])))) (0 ∷ 0 ∷ [])
    -- a move takes i itself, no smaller letter
    ∷ case (outcome (move_word_run 3 (lower 2) (2 ∷ 1 ∷ []))) (0 ∷ 0 ∷ 3 ∷ 1 ∷ [])
    -- i+1 directly below i, in any two lists: no other letters, no step without a mark, none in an empty tableau
    ∷ case (tick (below 1 (1 ∷ 3 ∷ []) (0 ∷ 1 ∷ [])) 0 ∷ tick (below 2 (1 ∷ 3 ∷ []) (0 ∷ 1 ∷ [])) 0 ∷ tick (below 2 (2 ∷ 1 ∷ []) (0 ∷ 1 ∷ [])) 0 ∷ [])
    (0 ∷ 0 ∷ 0 ∷ [])
    ∷ case (tick (below 1 (1 ∷ 2 ∷ []) (0 ∷ [])) 0 ∷ tick (below 1 (1 ∷ []) []) 0 ∷ tick (below 1 [] (0 ∷ [])) 0 ∷ []) (0 ∷ 0 ∷ 0 ∷ [])
    -- a viewer gives no value, a look the letter, the row and the column, or no value; a refusal of the making stays one
    ∷ case (numbers (viewer_says 4 (1 ∷ []) (0 ∷ []))) (0 ∷ [])
    ∷ case (numbers (look_says 4 (2 ∷ 3 ∷ 3 ∷ 4 ∷ []) (0 ∷ 1 ∷ 0 ∷ 1 ∷ []) 3)) (0 ∷ 4 ∷ 2 ∷ 1 ∷ [])
    ∷ case (numbers (through_says passed (1 ∷ 4 ∷ []) (0 ∷ 0 ∷ []) 1)) (0 ∷ 4 ∷ 0 ∷ 1 ∷ [])
    ∷ case (numbers (through_says passed (1 ∷ 4 ∷ []) (0 ∷ 0 ∷ []) 2)) (0 ∷ [])
    ∷ case (numbers (through_says (refused 6 1) (1 ∷ []) (0 ∷ []) 0)) (6 ∷ 1 ∷ [])
    -- cells of any two lists: as many as there are letters; the first mark is no step
    ∷ case (cell_at (1 ∷ 4 ∷ []) (1 ∷ []) 1 ++ cell_at (1 ∷ []) (0 ∷ 1 ∷ []) 1) (4 ∷ 0 ∷ 0 ∷ [])
    -- 4, 5, 6, 7, 8 at a fourth place
    ∷ case
    (numbers (junction_says 9 (5 ∷ 7 ∷ 8 ∷ 0 ∷ []))
    ++ numbers (viewer_says 9 (2 ∷ 5 ∷ 7 ∷ 6 ∷ []) (0 ∷ 0 ∷ 0 ∷ 0 ∷ []))
    ++ numbers (viewer_says 9 (2 ∷ 5 ∷ 7 ∷ 7 ∷ []) (0 ∷ 1 ∷ 0 ∷ 1 ∷ []))
    ++ numbers (word_says 9 (2 ∷ 5 ∷ 7 ∷ 8 ∷ []) (0 ∷ 0 ∷ 0 ∷ 0 ∷ []) (1 ∷ 2 ∷ 4 ∷ 9 ∷ []) (counts (0 ∷ 1 ∷ 0 ∷ 0 ∷ 1 ∷ 0 ∷ 1 ∷ 1 ∷ [])) 4)
    ++ numbers (word_says 9 (2 ∷ 5 ∷ 7 ∷ 8 ∷ []) (0 ∷ 0 ∷ 0 ∷ 0 ∷ []) (2 ∷ 3 ∷ 4 ∷ 1 ∷ []) (counts (0 ∷ 1 ∷ 0 ∷ 0 ∷ 1 ∷ 0 ∷ 1 ∷ 1 ∷ [])) 4))
    (4 ∷ 3 ∷ 5 ∷ 3 ∷ 6 ∷ 3 ∷ 7 ∷ 3 ∷ 8 ∷ 3 ∷ [])
    -- 8: entries that neither rise nor fall break no step
    ∷ case (numbers (recording_judged (1 ∷ 1 ∷ 1 ∷ []) (0 ∷ 0 ∷ 1 ∷ []))) (0 ∷ [])
    -- 12: one cell is left of 1,024
    ∷ case (numbers (full_judged 1023)) (0 ∷ [])
    -- 13: each output in turn, with the elements that are needed; as many as needed are enough
    ∷ case (pair_outcome (pair_run 4 w433 (pair_with (9 ∷ 9 ∷ []) (lent 3) (lent 3)) (6 ∷ 7 ∷ []))) (13 ∷ 3 ∷ 9 ∷ 9 ∷ (lent 3 ++ lent 3 ++ 6 ∷ 7 ∷ []))
    ∷ case (pair_outcome (pair_run 4 w433 (pair_with (lent 3) (8 ∷ 8 ∷ []) (lent 3)) (6 ∷ 7 ∷ []))) (13 ∷ 3 ∷ (lent 3 ++ 8 ∷ 8 ∷ (lent 3 ++ 6 ∷ 7 ∷ [])))
    ∷ case (pair_outcome (pair_run 4 w433 (pair_with (lent 3) (lent 3) (7 ∷ 7 ∷ [])) (6 ∷ 7 ∷ []))) (13 ∷ 3 ∷ (lent 3 ++ lent 3 ++ 7 ∷ 7 ∷ 6 ∷ 7 ∷ []))
    ∷ case (numbers (insert_says 4 1 3 (pair_with (1 ∷ 0 ∷ []) (0 ∷ []) (1 ∷ 0 ∷ [])) (counts (1 ∷ [])))) (13 ∷ 2 ∷ [])
    ∷ case (numbers (insert_says 4 1 3 (pair_with (1 ∷ 0 ∷ []) (0 ∷ 0 ∷ []) (1 ∷ [])) (counts (1 ∷ [])))) (13 ∷ 2 ∷ [])
    ∷ case (outcome (word_run 4 (1 ∷ 2 ∷ []) (0 ∷ 1 ∷ []) (2 ∷ 1 ∷ []) (counts (1 ∷ 1 ∷ [])) (9 ∷ []))) (13 ∷ 2 ∷ 9 ∷ [])
    ∷ case (outcome (reading_run 4 (1 ∷ 2 ∷ []) (0 ∷ 1 ∷ []) (counts (1 ∷ 1 ∷ [])) (9 ∷ []))) (13 ∷ 2 ∷ 9 ∷ [])
    ∷ case (numbers (room_judged 2 2)) (0 ∷ [])
    -- results: the elements written, and lent lists longer than needed
    ∷ case (pair_outcome (pair_run 4 w433 (pair_with (9 ∷ 9 ∷ 9 ∷ 9 ∷ []) (8 ∷ 8 ∷ 8 ∷ []) (7 ∷ 7 ∷ 7 ∷ 7 ∷ 7 ∷ [])) (6 ∷ [])))
    (0 ∷ 3 ∷ 3 ∷ 3 ∷ 4 ∷ 9 ∷ 0 ∷ 0 ∷ 1 ∷ 2 ∷ 3 ∷ 1 ∷ 7 ∷ 7 ∷ counts (0 ∷ 0 ∷ 2 ∷ 1 ∷ []))
    ∷ case (outcome (word_run 4 (1 ∷ 2 ∷ []) (0 ∷ 1 ∷ []) (2 ∷ 1 ∷ []) (counts (1 ∷ 1 ∷ [])) (9 ∷ 9 ∷ 9 ∷ []))) (0 ∷ 2 ∷ 2 ∷ 1 ∷ 9 ∷ [])
    ∷ case (outcome (reading_run 4 (1 ∷ 2 ∷ 3 ∷ []) (0 ∷ 1 ∷ 0 ∷ []) (counts (1 ∷ 1 ∷ 1 ∷ [])) (9 ∷ 9 ∷ 9 ∷ 9 ∷ []))) (0 ∷ 3 ∷ 2 ∷ 1 ∷ 3 ∷ 9 ∷ [])
    -- what was written, by a reply: as many elements as its first number tells, none where it has no number or refuses
    ∷ case (elements (gives (2 ∷ 1 ∷ [])) (7 ∷ 8 ∷ 9 ∷ []) ++ elements (gives []) (7 ∷ []) ++ elements (refused 4 1) (7 ∷ [])) (7 ∷ 8 ∷ [])
    -- insertion gives the new used count; a refusal leaves all three lists and the counts
    ∷ case (pair_outcome (insert_run 4 2 3 (pair_with (2 ∷ 4 ∷ 9 ∷ 9 ∷ []) (0 ∷ 1 ∷ 8 ∷ 8 ∷ []) (2 ∷ 1 ∷ 7 ∷ 7 ∷ [])) (counts (0 ∷ 1 ∷ 0 ∷ 1 ∷ []))))
    (0 ∷ 3 ∷ 2 ∷ 3 ∷ 4 ∷ 9 ∷ 0 ∷ 0 ∷ 1 ∷ 8 ∷ 2 ∷ 3 ∷ 1 ∷ 7 ∷ counts (0 ∷ 1 ∷ 1 ∷ 1 ∷ []))
    ∷ case (pair_outcome (insert_run 4 1 5 (pair_with (1 ∷ 9 ∷ []) (0 ∷ 8 ∷ []) (1 ∷ 7 ∷ [])) (1 ∷ 6 ∷ []))) (4 ∷ 1 ∷ 1 ∷ 9 ∷ 0 ∷ 8 ∷ 1 ∷ 7 ∷ 1 ∷ 6 ∷ [])
    -- 3 by the letters; 6 by every used mark; lists longer than 1,024 and cells that are not used are not judged; 7 takes the used count
    ∷ case (numbers (insert_says 4 2 1 (pair_with (1 ∷ []) (0 ∷ 0 ∷ []) (1 ∷ 2 ∷ [])) [])) (3 ∷ 0 ∷ [])
    ∷ case (numbers (insert_says 1 2 1 (pair_with (1 ∷ 1 ∷ 0 ∷ []) (0 ∷ 1 ∷ 0 ∷ []) (1 ∷ 2 ∷ 0 ∷ [])) [])) (6 ∷ 1 ∷ [])
    ∷ case (numbers (insert_says 4 0 1 (pair_with (replicate 1025 0) (replicate 1025 2) (replicate 1025 0)) (counts []))) (0 ∷ 1 ∷ [])
    ∷ case (numbers (insert_says 4 2 1 (pair_with (1 ∷ 2 ∷ 0 ∷ []) (0 ∷ 0 ∷ 0 ∷ []) (1 ∷ 3 ∷ 0 ∷ [])) (counts (1 ∷ 1 ∷ [])))) (7 ∷ 1 ∷ [])
    ∷ []

-- ---- lines

unfoldable pub line_cases : List Case
line_cases =
    -- the program: more than 4,096 bytes are refused at that place, exactly 4,096 are judged as any text
    case (output (replicate 4097 65)) (text "E,14,4096\n")
    ∷ case (output (replicate 4096 65)) (text "E,14,0\n")
    -- of the values of a line: 1 before 2 before 4
    ∷ case (program 65 (replicate 1025 1) ++ program 4 (replicate 1025 5) ++ program 4 (2 ∷ 5 ∷ 0 ∷ [])) (text "E,1,0\nE,2,0\nE,4,1\n")
    -- 14 before 1 and 2; numbers of up to four digits; nothing after the line feed
    ∷ case (outcome (read_w_run (text "W,0,1025,1\n") (9 ∷ []))) (14 ∷ 10 ∷ 9 ∷ [])
    ∷ case (tableau_outcome (read_t_run (text "T,0,1025,1\n") (9 ∷ []) (8 ∷ []) (6 ∷ 7 ∷ []))) (14 ∷ 10 ∷ 9 ∷ 8 ∷ 6 ∷ 7 ∷ [])
    ∷ case (pair_outcome (read_p_run (text "P,0,1025,1\n") (pair_with (9 ∷ []) (8 ∷ []) (7 ∷ [])) (6 ∷ []))) (14 ∷ 10 ∷ 9 ∷ 8 ∷ 7 ∷ 6 ∷ [])
    -- a P line has as many entries as cells, and no more
    ∷ case (numbers (read_p_run (text "P,4,0,1\n") (lent_pair 0) []).0 ++ numbers (read_p_run (text "P,4,2,1,r,2,1\n") (lent_pair 2) []).0) (14 ∷ 5 ∷ 14 ∷ 13 ∷ [])
    ∷ case (numbers (read_p_run (text "P,4,1,3,1,1\n") (lent_pair 1) []).0 ++ numbers (read_p_run (text "T,4,1,3\n") (lent_pair 1) []).0) (14 ∷ 9 ∷ 14 ∷ 0 ∷ [])
    -- 5, 6, 7 and 8 of its values, the first that they break
    ∷ case (numbers (read_p_run (text "P,4,2,2,r,1,9,9\n") (lent_pair 2) []).0 ++ numbers (read_p_run (text "P,4,2,1,d,1,9,9\n") (lent_pair 2) []).0) (5 ∷ 1 ∷ 6 ∷ 1 ∷ [])
    ∷ case (numbers (read_p_run (text "P,4,2,1,d,2,2,2\n") (lent_pair 2) []).0 ++ numbers (read_p_run (text "P,4,2,1,d,2,1,2\n") (lent_pair 2) []).0) (7 ∷ 1 ∷ 8 ∷ 1 ∷ [])
    ∷ case (numbers (read_p_run (text "P,4,2,1,r,2,2,1\n") (lent_pair 2) []).0) (8 ∷ 1 ∷ [])
    ∷ case (numbers (read_w_run (text "W,9999,0\n") []).0) (1 ∷ 0 ∷ [])
    ∷ case (numbers (read_w_run (text "W,10000,0\n") []).0) (14 ∷ 6 ∷ [])
    ∷ case (numbers (read_w_run (text "W,4,0\n\n") []).0) (14 ∷ 6 ∷ [])
    -- readers give rank and length; 13 for each output
    ∷ case (outcome (read_w_run (text "W,64,2,13,1\n") (9 ∷ 9 ∷ 9 ∷ []))) (0 ∷ 64 ∷ 2 ∷ 13 ∷ 1 ∷ 9 ∷ [])
    ∷ case (outcome (read_w_run (text "W,4,2,3,1\n") (9 ∷ []))) (13 ∷ 2 ∷ 9 ∷ [])
    ∷ case (tableau_outcome (read_t_run (text "T,4,2,1,d,3\n") (9 ∷ 9 ∷ 9 ∷ []) (8 ∷ 8 ∷ 8 ∷ []) (6 ∷ 7 ∷ [])))
    (0 ∷ 4 ∷ 2 ∷ 1 ∷ 3 ∷ 9 ∷ 0 ∷ 1 ∷ 8 ∷ counts (1 ∷ 0 ∷ 1 ∷ []))
    ∷ case (tableau_outcome (read_t_run (text "T,4,2,1,d,3\n") (9 ∷ []) (8 ∷ 8 ∷ 8 ∷ []) (6 ∷ 7 ∷ []))) (13 ∷ 2 ∷ 9 ∷ 8 ∷ 8 ∷ 8 ∷ 6 ∷ 7 ∷ [])
    ∷ case (tableau_outcome (read_t_run (text "T,4,2,1,d,3\n") (9 ∷ 9 ∷ 9 ∷ []) (8 ∷ []) (6 ∷ 7 ∷ []))) (13 ∷ 2 ∷ 9 ∷ 9 ∷ 9 ∷ 8 ∷ 6 ∷ 7 ∷ [])
    ∷ case (pair_outcome (read_p_run (text "P,4,2,1,d,3,2,1\n") (pair_with (9 ∷ 9 ∷ 9 ∷ []) (8 ∷ 8 ∷ 8 ∷ []) (7 ∷ 7 ∷ 7 ∷ [])) (6 ∷ 7 ∷ [])))
    (0 ∷ 4 ∷ 2 ∷ 1 ∷ 3 ∷ 9 ∷ 0 ∷ 1 ∷ 8 ∷ 2 ∷ 1 ∷ 7 ∷ counts (1 ∷ 0 ∷ 1 ∷ []))
    ∷ case (pair_outcome (read_p_run (text "P,4,2,1,d,3,2,1\n") (pair_with (9 ∷ []) (lent 2) (lent 2)) (6 ∷ []))) (13 ∷ 2 ∷ 9 ∷ (lent 2 ++ lent 2 ++ 6 ∷ []))
    ∷ case (pair_outcome (read_p_run (text "P,4,2,1,d,3,2,1\n") (pair_with (lent 2) (8 ∷ []) (lent 2)) (6 ∷ []))) (13 ∷ 2 ∷ (lent 2 ++ 8 ∷ (lent 2 ++ 6 ∷ [])))
    ∷ case (pair_outcome (read_p_run (text "P,4,2,1,d,3,2,1\n") (pair_with (lent 2) (lent 2) (7 ∷ [])) (6 ∷ []))) (13 ∷ 2 ∷ (lent 2 ++ lent 2 ++ 7 ∷ 6 ∷ []))
    -- writers give the bytes written; 13 has the bytes needed
    ∷ case (outcome (w_line_run 4 (3 ∷ []) (replicate 9 7))) (0 ∷ 8 ∷ (text "W,4,1,3\n" ++ 7 ∷ []))
    ∷ case (outcome (w_line_run 4 (3 ∷ []) (7 ∷ []))) (13 ∷ 8 ∷ 7 ∷ [])
    ∷ case (outcome (t_line_run 4 (1 ∷ 3 ∷ []) (0 ∷ 0 ∷ []) (replicate 13 7))) (0 ∷ 12 ∷ (text "T,4,2,1,r,3\n" ++ 7 ∷ []))
    ∷ case (outcome (t_line_run 4 (1 ∷ 3 ∷ []) (0 ∷ 1 ∷ []) (7 ∷ []))) (13 ∷ 12 ∷ 7 ∷ [])
    ∷ case (outcome (p_line_run 4 (1 ∷ 3 ∷ []) (0 ∷ 1 ∷ []) (2 ∷ 1 ∷ []) (replicate 17 7))) (0 ∷ 16 ∷ (text "P,4,2,1,d,3,2,1\n" ++ 7 ∷ []))
    ∷ case (outcome (p_line_run 4 (1 ∷ 3 ∷ []) (0 ∷ 1 ∷ []) (2 ∷ 1 ∷ []) (7 ∷ []))) (13 ∷ 16 ∷ 7 ∷ [])
    ∷ case (outcome (tableau_line_run 4 (3 ∷ 1 ∷ []) (replicate 13 7))) (0 ∷ 12 ∷ (text "T,4,2,1,d,3\n" ++ 7 ∷ []))
    ∷ case (outcome (tableau_line_run 4 (3 ∷ 1 ∷ []) (7 ∷ []))) (13 ∷ 12 ∷ 7 ∷ [])
    ∷ case (outcome (j_line_run 4 w4323 (replicate 7 7))) (0 ∷ 6 ∷ (text "J,6,3\n" ++ 7 ∷ []))
    ∷ case (outcome (j_line_run 4 w4323 (7 ∷ []))) (13 ∷ 6 ∷ 7 ∷ [])
    ∷ case (outcome (e_line_run 4 0 (replicate 7 7))) (0 ∷ 6 ∷ (text "E,4,0\n" ++ 7 ∷ []))
    ∷ case (outcome (e_line_run 4 0 (7 ∷ []))) (13 ∷ 6 ∷ 7 ∷ [])
    ∷ case (outcome (room_run (1 ∷ 2 ∷ []) (7 ∷ 7 ∷ 7 ∷ []))) (0 ∷ 2 ∷ 1 ∷ 2 ∷ 7 ∷ [])
    ∷ case (outcome (room_run (1 ∷ 2 ∷ []) (7 ∷ []))) (13 ∷ 2 ∷ 7 ∷ [])
    -- numbers of one and of two digits
    ∷ case (e_line 9 10) (text "E,9,10\n")
    -- the whole output into lent memory: its bytes, or 13 with the bytes needed
    ∷ case (outcome (answer_run (text "W,4,1,5\n") (replicate 7 7))) (0 ∷ 6 ∷ (text "E,4,0\n" ++ 7 ∷ []))
    ∷ case (outcome (answer_run (text "W,4,1,5\n") (7 ∷ []))) (13 ∷ 6 ∷ 7 ∷ [])
    ∷ []
