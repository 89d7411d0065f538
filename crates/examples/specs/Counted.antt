-- Cases that pin letter counts (document 02, N6), in the form of the starred ones: where 17 stands among the checks, each place that it names, and what the
-- operations make of the counts.
--     on_counts              what an operation says of the tableau of 4323 with wrong counts, and of one that breaks 6 too
--     count_order            what it must say
--     zeros, rises          as many entries as letters: each 0, which breaks 7; 1, 2, 3, 4, which breaks 8 at a step down
--     count_cases            the cases
-- That the two sides of every case are equal is proved in proofs/Theory/Counted.antt. Assumes nothing.
use Rattle.std.specs.Prelude.{ℕ, List, [], ◌∷◌, ◌++◌, length, replicate, set, take}
use Rattle.hypoplactic.specs.Insertion.{pair_with}
use Rattle.outcomes.specs.Replies.{Said, first, passed}
use Rattle.outcomes.specs.Counts.{counts_judged}
use Rattle.outcomes.specs.Judgements.{counted_judgements, counted_pair_judgements}
use Rattle.outcomes.specs.TableauOperations.{insert_run, insert_says, move_tableau_run, move_tableau_says, pair_run, reading_says, repeat_tableau_says, word_says}
use Rattle.outcomes.specs.LineReadings.{read_p_run, read_t_run}
use Rattle.outcomes.specs.Starred.{Case, c4323, case, counts, lent, lent_pair, lower, numbers, outcomes, pair_outcome, raise, tableau_outcome, text}
use Rattle.letter_counts.specs.Cases.{m4323, x4323}

-- ---- wrong counts

-- The entries of the recording ribbon of 4323.
abbrev pub r4323 : List ℕ
r4323 = 3 ∷ 2 ∷ 4 ∷ 1 ∷ []

-- 6 before 17. Then 17 alone: a letter that is not there is counted, one of two is not, one above the rank is counted, and the last letter of all.
abbrev pub on_counts : (ℕ → List ℕ → List ℕ → List ℕ → Said) → List ℕ
on_counts says =
    numbers (says 4 (1 ∷ 1 ∷ []) (0 ∷ 1 ∷ []) [])
    ++ numbers (says 4 x4323 m4323 (counts (1 ∷ 0 ∷ 2 ∷ 1 ∷ [])))
    ++ numbers (says 4 x4323 m4323 (counts (0 ∷ 1 ∷ 1 ∷ 2 ∷ [])))
    ++ numbers (says 4 x4323 m4323 (counts (0 ∷ 1 ∷ 2 ∷ 1 ∷ 1 ∷ [])))
    ++ numbers (says 4 x4323 m4323 (set c4323 63 1))

abbrev pub count_order : List ℕ
count_order = 6 ∷ 1 ∷ 17 ∷ 0 ∷ 17 ∷ 2 ∷ 17 ∷ 4 ∷ 17 ∷ 63 ∷ []

-- Entries that break 7, and entries that break 8.
abbrev pub zeros : List ℕ → List ℕ
zeros xs = replicate (length xs) 0

abbrev pub rises : List ℕ → List ℕ
rises xs = take (length xs) (1 ∷ 2 ∷ 3 ∷ 4 ∷ [])

-- ---- the cases

unfoldable pub count_cases : List Case
count_cases =
    -- the checks alone, 17 directly before 7 and 8
    case (on_counts (λ n xs ms cs. first (counted_judgements n xs ms cs) passed)) count_order
    ∷ case (on_counts (λ n xs ms cs. first (counted_pair_judgements n xs ms (zeros xs) cs) passed)) count_order
    ∷ case (on_counts (λ n xs ms cs. first (counted_pair_judgements n xs ms (rises xs) cs) passed)) count_order
    -- 17 before 13
    ∷ case (on_counts (λ n xs ms cs. reading_says n xs ms cs 0)) count_order
    ∷ case (on_counts (λ n xs ms cs. word_says n xs ms (take (length xs) r4323) cs 0)) count_order
    ∷ case (on_counts (λ n xs ms cs. insert_says n (length xs) 1 (pair_with xs ms r4323) cs)) count_order
    -- before 7, and before 8
    ∷ case (on_counts (λ n xs ms cs. word_says n xs ms (zeros xs) cs 0)) count_order
    ∷ case (on_counts (λ n xs ms cs. word_says n xs ms (rises xs) cs 0)) count_order
    ∷ case (on_counts (λ n xs ms cs. insert_says n (length xs) 1 (pair_with xs ms (zeros xs)) cs)) count_order
    ∷ case (on_counts (λ n xs ms cs. insert_says n (length xs) 1 (pair_with xs ms (rises xs)) cs)) count_order
    -- before 9, 10 and 11: no index, 3 directly below 2, no 1
    ∷ case (on_counts (λ n xs ms cs. repeat_tableau_says n (raise 0) xs ms cs)) count_order
    ∷ case (on_counts (λ n xs ms cs. move_tableau_says n (raise 0) xs ms cs)) count_order
    ∷ case (on_counts (λ n xs ms cs. move_tableau_says n (raise 2) xs ms cs)) count_order
    ∷ case (on_counts (λ n xs ms cs. move_tableau_says n (lower 1) xs ms cs)) count_order
    -- in insertion a bad new letter before 17, at the used count
    ∷ case (numbers (insert_says 4 4 5 (pair_with x4323 m4323 r4323) (counts []))) (4 ∷ 4 ∷ [])
    -- 17 looks at 64 places: the letters 1 and 64 are counted there, and nothing beyond is looked at
    ∷ case (numbers (reading_says 64 (1 ∷ 64 ∷ []) (0 ∷ 0 ∷ []) (set (counts (1 ∷ [])) 63 1) 2)) (0 ∷ 2 ∷ [])
    ∷ case (numbers (reading_says 64 (1 ∷ 64 ∷ []) (0 ∷ 0 ∷ []) (counts (1 ∷ [])) 2)) (17 ∷ 63 ∷ [])
    ∷ case (numbers (counts_judged (counts [] ++ (9 ∷ [])) [])) (0 ∷ [])
    -- counts given: by the pair of a word and by the readers, whatever was there, at both ends too
    ∷ case (pair_outcome (pair_run 64 (64 ∷ 1 ∷ []) (lent_pair 2) (lent 64))) (0 ∷ 2 ∷ 1 ∷ 64 ∷ 0 ∷ 1 ∷ 2 ∷ 1 ∷ set (counts (1 ∷ [])) 63 1)
    ∷ case (pair_outcome (read_p_run (text "P,64,2,1,d,64,2,1\n") (lent_pair 2) (lent 64))) (0 ∷ 64 ∷ 2 ∷ 1 ∷ 64 ∷ 0 ∷ 1 ∷ 2 ∷ 1 ∷ set (counts (1 ∷ [])) 63 1)
    ∷ case (tableau_outcome (read_t_run (text "T,64,2,1,d,64\n") (9 ∷ 9 ∷ []) (9 ∷ 9 ∷ []) (lent 64)))
    (0 ∷ 64 ∷ 2 ∷ 1 ∷ 64 ∷ 0 ∷ 1 ∷ set (counts (1 ∷ [])) 63 1)
    -- and left as they were by 4 and by 13
    ∷ case (pair_outcome (pair_run 4 (5 ∷ []) (pair_with (9 ∷ []) (8 ∷ []) (7 ∷ [])) (6 ∷ 7 ∷ []))) (4 ∷ 0 ∷ 9 ∷ 8 ∷ 7 ∷ 6 ∷ 7 ∷ [])
    ∷ case (pair_outcome (pair_run 4 (1 ∷ []) (pair_with (9 ∷ []) (8 ∷ []) []) (6 ∷ 7 ∷ []))) (13 ∷ 1 ∷ 9 ∷ 8 ∷ 6 ∷ 7 ∷ [])
    ∷ case (pair_outcome (read_p_run (text "P,4,1,5,1\n") (pair_with (9 ∷ []) (8 ∷ []) (7 ∷ [])) (6 ∷ 7 ∷ []))) (4 ∷ 0 ∷ 9 ∷ 8 ∷ 7 ∷ 6 ∷ 7 ∷ [])
    ∷ case (pair_outcome (read_p_run (text "P,4,1,3,1\n") (pair_with (9 ∷ []) (8 ∷ []) []) (6 ∷ 7 ∷ []))) (13 ∷ 1 ∷ 9 ∷ 8 ∷ 6 ∷ 7 ∷ [])
    ∷ case (tableau_outcome (read_t_run (text "T,4,1,5\n") (9 ∷ []) (8 ∷ []) (6 ∷ 7 ∷ []))) (4 ∷ 0 ∷ 9 ∷ 8 ∷ 6 ∷ 7 ∷ [])
    ∷ case (tableau_outcome (read_t_run (text "T,4,1,3\n") (9 ∷ []) [] (6 ∷ 7 ∷ []))) (13 ∷ 1 ∷ 9 ∷ 6 ∷ 7 ∷ [])
    -- insertion of 1 into the pair of 4323, four cells of six used; of the first and of the last letter; a refusal leaves the counts
    ∷ case (pair_outcome (insert_run 4 4 1 (pair_with (x4323 ++ 9 ∷ 9 ∷ []) (m4323 ++ 8 ∷ 8 ∷ []) (r4323 ++ 7 ∷ 7 ∷ [])) c4323))
    (0 ∷ 5 ∷ 1 ∷ 2 ∷ 3 ∷ 3 ∷ 4 ∷ 9 ∷ 0 ∷ 1 ∷ 1 ∷ 0 ∷ 1 ∷ 8 ∷ 5 ∷ 3 ∷ 2 ∷ 4 ∷ 1 ∷ 7 ∷ counts (1 ∷ 1 ∷ 2 ∷ 1 ∷ []))
    ∷ case (pair_outcome (insert_run 64 0 1 (pair_with (9 ∷ []) (8 ∷ []) (7 ∷ [])) (counts []))) (0 ∷ 1 ∷ 1 ∷ 0 ∷ 1 ∷ counts (1 ∷ []))
    ∷ case (pair_outcome (insert_run 64 0 64 (pair_with (9 ∷ []) (8 ∷ []) (7 ∷ [])) (counts []))) (0 ∷ 1 ∷ 64 ∷ 0 ∷ 1 ∷ set (counts []) 63 1)
    ∷ case (pair_outcome (insert_run 4 0 1 (pair_with (9 ∷ []) (8 ∷ []) (7 ∷ [])) (6 ∷ 7 ∷ []))) (17 ∷ 0 ∷ 9 ∷ 8 ∷ 7 ∷ 6 ∷ 7 ∷ [])
    -- a move on either side: one count less, its neighbour one more; at both ends too
    ∷ case (outcomes (move_tableau_run 3 (raise 1) (1 ∷ 2 ∷ 2 ∷ []) (0 ∷ 0 ∷ 0 ∷ []) (counts (1 ∷ 2 ∷ [])))) (0 ∷ 1 ∷ 1 ∷ 1 ∷ 2 ∷ counts (2 ∷ 1 ∷ []))
    ∷ case (outcomes (move_tableau_run 3 (lower 2) (1 ∷ 2 ∷ 2 ∷ []) (0 ∷ 0 ∷ 0 ∷ []) (counts (1 ∷ 2 ∷ [])))) (0 ∷ 2 ∷ 1 ∷ 2 ∷ 3 ∷ counts (1 ∷ 1 ∷ 1 ∷ []))
    ∷ case (outcomes (move_tableau_run 64 (lower 63) (63 ∷ []) (0 ∷ []) (set (counts []) 62 1))) (0 ∷ 0 ∷ 64 ∷ set (counts []) 63 1)
    ∷ case (outcomes (move_tableau_run 64 (raise 63) (64 ∷ []) (0 ∷ []) (set (counts []) 63 1))) (0 ∷ 0 ∷ 63 ∷ set (counts []) 62 1)
    -- a refused one leaves letters and counts: 17, and 11
    ∷ case (outcomes (move_tableau_run 3 (lower 1) (1 ∷ []) (0 ∷ []) (6 ∷ 7 ∷ []))) (17 ∷ 0 ∷ 1 ∷ 6 ∷ 7 ∷ [])
    ∷ case (outcomes (move_tableau_run 3 (raise 1) (1 ∷ []) (0 ∷ []) (1 ∷ []))) (11 ∷ 0 ∷ 1 ∷ 1 ∷ [])
    -- the repeat count is that of the letters, which 17 has found to be counted
    ∷ case (numbers (repeat_tableau_says 64 (raise 63) (64 ∷ 64 ∷ []) (0 ∷ 0 ∷ []) (set (counts []) 63 2))) (0 ∷ 2 ∷ [])
    ∷ case (numbers (repeat_tableau_says 64 (raise 63) (64 ∷ 64 ∷ []) (0 ∷ 0 ∷ []) (set (counts []) 63 3))) (17 ∷ 63 ∷ [])
    ∷ []
