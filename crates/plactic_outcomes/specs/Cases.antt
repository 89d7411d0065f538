-- Cases of Young tableaux: what the written meaning gives beside what is expected, in the form of outcomes' specs/Starred. A reply stands as its numbers: 0 and
-- the values, or the refusal's number and place; what lent letters, standard entries and row lengths then hold follows.
--     young_outcome           a reply and three lent lists after it
--     lent_flat k l           k lent letters, k standard entries and l row lengths, none of them written
--     young_cases             tableaux of words, with one element of each lent list beyond those needed
--     way_back_cases           the same words found again
--     insert_young_cases       one letter inserted into the tableau of a word's beginning
--     young_refusals          every refusal number of the three operations, at its places and in its order
-- That the checker computes the one from the other stands in examples' proofs/Theory/YoungCases. Assumes nothing.
use Rattle.std.specs.Prelude.{ℕ, List, [], ◌∷◌, ◌++◌, replicate}
use Rattle.outcomes.specs.Replies.{Said}
use Rattle.outcomes.specs.Starred.{Case, case, counts, lent, numbers, outcome}
use Rattle.plactic.specs.FlatForm.{Flat, flat_with}
use Rattle.plactic_outcomes.specs.Operations.{insert_young_run, insert_young_says, word_young_run, word_young_says, young_run, young_says}

abbrev pub young_outcome : Said × Flat → List ℕ
young_outcome r = numbers r.0 ++ (r.1.letters ++ (r.1.standard ++ r.1.lengths))

abbrev pub lent_flat : ℕ → ℕ → Flat
lent_flat k l = flat_with (lent k) (lent k) (lent l)

-- ---- tableaux

abbrev pub young_cases : List Case
young_cases =
    -- the paper's example, 2213; 4323, under whose name the paper prints it
    case (young_outcome (young_run 4 (2 ∷ 2 ∷ 1 ∷ 3 ∷ []) (lent_flat 5 65))) (0 ∷ 4 ∷ 1 ∷ 2 ∷ 3 ∷ 2 ∷ 99 ∷ 1 ∷ 2 ∷ 4 ∷ 3 ∷ 99 ∷ (counts (3 ∷ 1 ∷ []) ++ (99 ∷ [])))
    ∷ case (young_outcome (young_run 4 (4 ∷ 3 ∷ 2 ∷ 3 ∷ []) (lent_flat 5 65)))
    (0 ∷ 4 ∷ 2 ∷ 3 ∷ 3 ∷ 4 ∷ 99 ∷ 1 ∷ 4 ∷ 2 ∷ 3 ∷ 99 ∷ (counts (2 ∷ 1 ∷ 1 ∷ []) ++ (99 ∷ [])))
    -- one row, one column, equal letters in a row, and no letter
    ∷ case (young_outcome (young_run 3 (1 ∷ 2 ∷ 3 ∷ []) (lent_flat 4 65))) (0 ∷ 3 ∷ 1 ∷ 2 ∷ 3 ∷ 99 ∷ 1 ∷ 2 ∷ 3 ∷ 99 ∷ (counts (3 ∷ []) ++ (99 ∷ [])))
    ∷ case (young_outcome (young_run 3 (3 ∷ 2 ∷ 1 ∷ []) (lent_flat 4 65))) (0 ∷ 3 ∷ 1 ∷ 2 ∷ 3 ∷ 99 ∷ 1 ∷ 2 ∷ 3 ∷ 99 ∷ (counts (1 ∷ 1 ∷ 1 ∷ []) ++ (99 ∷ [])))
    ∷ case (young_outcome (young_run 2 (2 ∷ 1 ∷ 2 ∷ 1 ∷ 1 ∷ []) (lent_flat 6 65)))
    (0 ∷ 5 ∷ 1 ∷ 1 ∷ 1 ∷ 2 ∷ 2 ∷ 99 ∷ 1 ∷ 3 ∷ 5 ∷ 2 ∷ 4 ∷ 99 ∷ (counts (3 ∷ 2 ∷ []) ++ (99 ∷ [])))
    ∷ case (young_outcome (young_run 4 [] (lent_flat 1 65))) (0 ∷ 0 ∷ 99 ∷ 99 ∷ (counts [] ++ (99 ∷ [])))
    -- 421323, 3113
    ∷ case (young_outcome (young_run 4 (4 ∷ 2 ∷ 1 ∷ 3 ∷ 2 ∷ 3 ∷ []) (lent_flat 7 65)))
    (0 ∷ 6 ∷ 1 ∷ 2 ∷ 3 ∷ 2 ∷ 3 ∷ 4 ∷ 99 ∷ 1 ∷ 4 ∷ 6 ∷ 2 ∷ 5 ∷ 3 ∷ 99 ∷ (counts (3 ∷ 2 ∷ 1 ∷ []) ++ (99 ∷ [])))
    ∷ case (young_outcome (young_run 3 (3 ∷ 1 ∷ 1 ∷ 3 ∷ []) (lent_flat 5 65))) (0 ∷ 4 ∷ 1 ∷ 1 ∷ 3 ∷ 3 ∷ 99 ∷ 1 ∷ 3 ∷ 4 ∷ 2 ∷ 99 ∷ (counts (3 ∷ 1 ∷ []) ++ (99 ∷ [])))
    -- five rows, and a letter handed down through all of them; long rows
    ∷ case (young_outcome (young_run 6 (5 ∷ 2 ∷ 5 ∷ 4 ∷ 3 ∷ 6 ∷ 2 ∷ 4 ∷ 4 ∷ 5 ∷ 1 ∷ []) (lent_flat 12 65)))
    (0 ∷ 11 ∷ 1 ∷ 2 ∷ 4 ∷ 4 ∷ 5 ∷ 2 ∷ 5 ∷ 6 ∷ 3 ∷ 4 ∷ 5 ∷ 99 ∷ 1 ∷ 3 ∷ 6 ∷ 9 ∷ 10 ∷ 2 ∷ 4 ∷ 8 ∷ 5 ∷ 7 ∷ 11 ∷ 99 ∷ (counts (5 ∷ 3 ∷ 1 ∷ 1 ∷ 1 ∷ []) ++ (99 ∷ [])))
    ∷ case (young_outcome (young_run 7 (1 ∷ 2 ∷ 4 ∷ 3 ∷ 2 ∷ 4 ∷ 5 ∷ 5 ∷ 6 ∷ 5 ∷ 7 ∷ []) (lent_flat 12 65)))
    (0 ∷ 11 ∷ 1 ∷ 2 ∷ 2 ∷ 4 ∷ 5 ∷ 5 ∷ 5 ∷ 7 ∷ 3 ∷ 6 ∷ 4 ∷ 99 ∷ 1 ∷ 2 ∷ 3 ∷ 6 ∷ 7 ∷ 8 ∷ 9 ∷ 11 ∷ 4 ∷ 10 ∷ 5 ∷ 99 ∷ (counts (8 ∷ 2 ∷ 1 ∷ []) ++ (99 ∷ [])))
    -- 4321 four times: four rows of one letter each
    ∷ case (young_outcome (young_run 4 (4 ∷ 3 ∷ 2 ∷ 1 ∷ 4 ∷ 3 ∷ 2 ∷ 1 ∷ 4 ∷ 3 ∷ 2 ∷ 1 ∷ 4 ∷ 3 ∷ 2 ∷ 1 ∷ []) (lent_flat 17 65)))
    (0 ∷ 16 ∷ 1 ∷ 1 ∷ 1 ∷ 1 ∷ 2 ∷ 2 ∷ 2 ∷ 2 ∷ 3 ∷ 3 ∷ 3 ∷ 3 ∷ 4 ∷ 4 ∷ 4 ∷ 4 ∷ 99 ∷ 1 ∷ 5 ∷ 9 ∷ 13 ∷ 2 ∷ 6 ∷ 10 ∷ 14 ∷ 3 ∷ 7 ∷ 11 ∷ 15 ∷ 4 ∷ 8 ∷ 12 ∷ 16 ∷ 99 ∷ (counts (4 ∷ 4 ∷ 4 ∷ 4 ∷ []) ++ (99 ∷ [])))
    ∷ []

abbrev pub way_back_cases : List Case
way_back_cases =
    -- the same words found again
    case (outcome (word_young_run 4 (flat_with (1 ∷ 2 ∷ 3 ∷ 2 ∷ []) (1 ∷ 2 ∷ 4 ∷ 3 ∷ []) (counts (3 ∷ 1 ∷ []))) (lent 5))) (0 ∷ 4 ∷ 2 ∷ 2 ∷ 1 ∷ 3 ∷ 99 ∷ [])
    ∷ case (outcome (word_young_run 4 (flat_with (2 ∷ 3 ∷ 3 ∷ 4 ∷ []) (1 ∷ 4 ∷ 2 ∷ 3 ∷ []) (counts (2 ∷ 1 ∷ 1 ∷ []))) (lent 5))) (0 ∷ 4 ∷ 4 ∷ 3 ∷ 2 ∷ 3 ∷ 99 ∷ [])
    ∷ case (outcome (word_young_run 3 (flat_with (1 ∷ 2 ∷ 3 ∷ []) (1 ∷ 2 ∷ 3 ∷ []) (counts (3 ∷ []))) (lent 4))) (0 ∷ 3 ∷ 1 ∷ 2 ∷ 3 ∷ 99 ∷ [])
    ∷ case (outcome (word_young_run 3 (flat_with (1 ∷ 2 ∷ 3 ∷ []) (1 ∷ 2 ∷ 3 ∷ []) (counts (1 ∷ 1 ∷ 1 ∷ []))) (lent 4))) (0 ∷ 3 ∷ 3 ∷ 2 ∷ 1 ∷ 99 ∷ [])
    ∷ case (outcome (word_young_run 2 (flat_with (1 ∷ 1 ∷ 1 ∷ 2 ∷ 2 ∷ []) (1 ∷ 3 ∷ 5 ∷ 2 ∷ 4 ∷ []) (counts (3 ∷ 2 ∷ []))) (lent 6)))
    (0 ∷ 5 ∷ 2 ∷ 1 ∷ 2 ∷ 1 ∷ 1 ∷ 99 ∷ [])
    ∷ case (outcome (word_young_run 4 (flat_with [] [] (counts [])) (lent 1))) (0 ∷ 0 ∷ 99 ∷ [])
    ∷ case (outcome (word_young_run 4 (flat_with (1 ∷ 2 ∷ 3 ∷ 2 ∷ 3 ∷ 4 ∷ []) (1 ∷ 4 ∷ 6 ∷ 2 ∷ 5 ∷ 3 ∷ []) (counts (3 ∷ 2 ∷ 1 ∷ []))) (lent 7)))
    (0 ∷ 6 ∷ 4 ∷ 2 ∷ 1 ∷ 3 ∷ 2 ∷ 3 ∷ 99 ∷ [])
    ∷ case (outcome (word_young_run 3 (flat_with (1 ∷ 1 ∷ 3 ∷ 3 ∷ []) (1 ∷ 3 ∷ 4 ∷ 2 ∷ []) (counts (3 ∷ 1 ∷ []))) (lent 5))) (0 ∷ 4 ∷ 3 ∷ 1 ∷ 1 ∷ 3 ∷ 99 ∷ [])
    ∷ case (outcome (word_young_run 6 (flat_with (1 ∷ 2 ∷ 4 ∷ 4 ∷ 5 ∷ 2 ∷ 5 ∷ 6 ∷ 3 ∷ 4 ∷ 5 ∷ []) (1 ∷ 3 ∷ 6 ∷ 9 ∷ 10 ∷ 2 ∷ 4 ∷ 8 ∷ 5 ∷ 7 ∷ 11 ∷ []) (counts (5 ∷ 3 ∷ 1 ∷ 1 ∷ 1 ∷ []))) (lent 12)))
    (0 ∷ 11 ∷ 5 ∷ 2 ∷ 5 ∷ 4 ∷ 3 ∷ 6 ∷ 2 ∷ 4 ∷ 4 ∷ 5 ∷ 1 ∷ 99 ∷ [])
    ∷ case (outcome (word_young_run 7 (flat_with (1 ∷ 2 ∷ 2 ∷ 4 ∷ 5 ∷ 5 ∷ 5 ∷ 7 ∷ 3 ∷ 6 ∷ 4 ∷ []) (1 ∷ 2 ∷ 3 ∷ 6 ∷ 7 ∷ 8 ∷ 9 ∷ 11 ∷ 4 ∷ 10 ∷ 5 ∷ []) (counts (8 ∷ 2 ∷ 1 ∷ []))) (lent 12)))
    (0 ∷ 11 ∷ 1 ∷ 2 ∷ 4 ∷ 3 ∷ 2 ∷ 4 ∷ 5 ∷ 5 ∷ 6 ∷ 5 ∷ 7 ∷ 99 ∷ [])
    ∷ case (outcome (word_young_run 4 (flat_with (1 ∷ 1 ∷ 1 ∷ 1 ∷ 2 ∷ 2 ∷ 2 ∷ 2 ∷ 3 ∷ 3 ∷ 3 ∷ 3 ∷ 4 ∷ 4 ∷ 4 ∷ 4 ∷ []) (1 ∷ 5 ∷ 9 ∷ 13 ∷ 2 ∷ 6 ∷ 10 ∷ 14 ∷ 3 ∷ 7 ∷ 11 ∷ 15 ∷ 4 ∷ 8 ∷ 12 ∷ 16 ∷ []) (counts (4 ∷ 4 ∷ 4 ∷ 4 ∷ []))) (lent 17)))
    (0 ∷ 16 ∷ 4 ∷ 3 ∷ 2 ∷ 1 ∷ 4 ∷ 3 ∷ 2 ∷ 1 ∷ 4 ∷ 3 ∷ 2 ∷ 1 ∷ 4 ∷ 3 ∷ 2 ∷ 1 ∷ 99 ∷ [])
    ∷ []

abbrev pub insert_young_cases : List Case
insert_young_cases =
    -- into the empty tableau; at the end of the top row, of a middle one, and in a new row
    case (young_outcome (insert_young_run 4 0 3 (flat_with (99 ∷ 99 ∷ []) (99 ∷ 99 ∷ []) (counts [])))) (0 ∷ 1 ∷ 3 ∷ 99 ∷ 1 ∷ 99 ∷ counts (1 ∷ []))
    ∷ case (young_outcome (insert_young_run 4 3 3 (flat_with (1 ∷ 2 ∷ 2 ∷ 99 ∷ 99 ∷ []) (1 ∷ 2 ∷ 3 ∷ 99 ∷ 99 ∷ []) (counts (2 ∷ 1 ∷ [])))))
    (0 ∷ 4 ∷ 1 ∷ 2 ∷ 3 ∷ 2 ∷ 99 ∷ 1 ∷ 2 ∷ 4 ∷ 3 ∷ 99 ∷ counts (3 ∷ 1 ∷ []))
    ∷ case (young_outcome (insert_young_run 4 4 2 (flat_with (1 ∷ 3 ∷ 2 ∷ 4 ∷ 99 ∷ 99 ∷ []) (1 ∷ 4 ∷ 2 ∷ 3 ∷ 99 ∷ 99 ∷ []) (counts (2 ∷ 1 ∷ 1 ∷ [])))))
    (0 ∷ 5 ∷ 1 ∷ 2 ∷ 2 ∷ 3 ∷ 4 ∷ 99 ∷ 1 ∷ 4 ∷ 2 ∷ 5 ∷ 3 ∷ 99 ∷ counts (2 ∷ 2 ∷ 1 ∷ []))
    ∷ case (young_outcome (insert_young_run 4 2 1 (flat_with (2 ∷ 2 ∷ 99 ∷ 99 ∷ []) (1 ∷ 2 ∷ 99 ∷ 99 ∷ []) (counts (2 ∷ [])))))
    (0 ∷ 3 ∷ 1 ∷ 2 ∷ 2 ∷ 99 ∷ 1 ∷ 2 ∷ 3 ∷ 99 ∷ counts (2 ∷ 1 ∷ []))
    ∷ case (young_outcome (insert_young_run 4 3 1 (flat_with (2 ∷ 3 ∷ 4 ∷ 99 ∷ 99 ∷ []) (1 ∷ 2 ∷ 3 ∷ 99 ∷ 99 ∷ []) (counts (1 ∷ 1 ∷ 1 ∷ [])))))
    (0 ∷ 4 ∷ 1 ∷ 2 ∷ 3 ∷ 4 ∷ 99 ∷ 1 ∷ 2 ∷ 3 ∷ 4 ∷ 99 ∷ counts (1 ∷ 1 ∷ 1 ∷ 1 ∷ []))
    -- an equal letter goes behind its equals; through five rows
    ∷ case (young_outcome (insert_young_run 2 2 2 (flat_with (1 ∷ 2 ∷ 99 ∷ 99 ∷ []) (1 ∷ 2 ∷ 99 ∷ 99 ∷ []) (counts (2 ∷ [])))))
    (0 ∷ 3 ∷ 1 ∷ 2 ∷ 2 ∷ 99 ∷ 1 ∷ 2 ∷ 3 ∷ 99 ∷ counts (3 ∷ []))
    ∷ case (young_outcome (insert_young_run 2 3 1 (flat_with (1 ∷ 2 ∷ 2 ∷ 99 ∷ 99 ∷ []) (1 ∷ 2 ∷ 3 ∷ 99 ∷ 99 ∷ []) (counts (3 ∷ [])))))
    (0 ∷ 4 ∷ 1 ∷ 1 ∷ 2 ∷ 2 ∷ 99 ∷ 1 ∷ 2 ∷ 3 ∷ 4 ∷ 99 ∷ counts (3 ∷ 1 ∷ []))
    ∷ case (young_outcome (insert_young_run 6 10 1 (flat_with (2 ∷ 2 ∷ 4 ∷ 4 ∷ 5 ∷ 3 ∷ 5 ∷ 6 ∷ 4 ∷ 5 ∷ 99 ∷ 99 ∷ []) (1 ∷ 3 ∷ 6 ∷ 9 ∷ 10 ∷ 2 ∷ 4 ∷ 8 ∷ 5 ∷ 7 ∷ 99 ∷ 99 ∷ []) (counts (5 ∷ 3 ∷ 1 ∷ 1 ∷ [])))))
    (0 ∷ 11 ∷ 1 ∷ 2 ∷ 4 ∷ 4 ∷ 5 ∷ 2 ∷ 5 ∷ 6 ∷ 3 ∷ 4 ∷ 5 ∷ 99 ∷ 1 ∷ 3 ∷ 6 ∷ 9 ∷ 10 ∷ 2 ∷ 4 ∷ 8 ∷ 5 ∷ 7 ∷ 11 ∷ 99 ∷ counts (5 ∷ 3 ∷ 1 ∷ 1 ∷ 1 ∷ []))
    ∷ []

-- ---- refusals

abbrev pub young_refusals : List Case
young_refusals =
    -- of a word: 1; 2 before 4; 4 before 13; 13 of letters, of standard entries, of row lengths, each one short, and exact
    case (numbers (young_says 0 (9 ∷ []) 0 0 0)) (1 ∷ 0 ∷ [])
    ∷ case (numbers (young_says 65 (9 ∷ []) 0 0 0)) (1 ∷ 0 ∷ [])
    ∷ case (numbers (young_says 4 (replicate 1025 9) 0 0 0)) (2 ∷ 0 ∷ [])
    ∷ case (numbers (young_says 4 (1 ∷ 5 ∷ []) 0 0 0)) (4 ∷ 1 ∷ [])
    ∷ case (numbers (young_says 4 (4 ∷ 3 ∷ 2 ∷ 3 ∷ []) 3 4 64)) (13 ∷ 4 ∷ [])
    ∷ case (numbers (young_says 4 (4 ∷ 3 ∷ 2 ∷ 3 ∷ []) 4 3 63)) (13 ∷ 4 ∷ [])
    ∷ case (numbers (young_says 4 (4 ∷ 3 ∷ 2 ∷ 3 ∷ []) 4 4 63)) (13 ∷ 64 ∷ [])
    ∷ case (numbers (young_says 4 (4 ∷ 3 ∷ 2 ∷ 3 ∷ []) 4 4 64)) (0 ∷ 4 ∷ [])
    ∷ case (numbers (young_says 4 [] 0 0 63)) (13 ∷ 64 ∷ [])
    -- nothing is written then
    ∷ case (young_outcome (young_run 4 (4 ∷ 3 ∷ 2 ∷ 3 ∷ []) (lent_flat 4 63))) (13 ∷ 64 ∷ lent 71)
    -- of the way back: 1; 2 before 3
    ∷ case (numbers (word_young_says 0 (flat_with (1 ∷ 2 ∷ []) (1 ∷ []) (counts (1 ∷ []))) 0)) (1 ∷ 0 ∷ [])
    ∷ case (numbers (word_young_says 65 (flat_with (1 ∷ 2 ∷ []) (1 ∷ []) (counts (1 ∷ []))) 0)) (1 ∷ 0 ∷ [])
    ∷ case (numbers (word_young_says 1 (flat_with (replicate 1025 1) [] (counts (1 ∷ []))) 0)) (2 ∷ 0 ∷ [])
    -- 3: standard entries one short or one over, 63 and 65 row lengths, a sum one short and one over, and before 4
    ∷ case (numbers (word_young_says 4 (flat_with (1 ∷ 2 ∷ []) (1 ∷ []) (counts (2 ∷ []))) 2)) (3 ∷ 0 ∷ [])
    ∷ case (numbers (word_young_says 4 (flat_with (1 ∷ 2 ∷ []) (1 ∷ 2 ∷ 3 ∷ []) (counts (2 ∷ []))) 2)) (3 ∷ 0 ∷ [])
    ∷ case (numbers (word_young_says 4 (flat_with (1 ∷ 2 ∷ []) (1 ∷ 2 ∷ []) (2 ∷ replicate 62 0)) 2)) (3 ∷ 0 ∷ [])
    ∷ case (numbers (word_young_says 4 (flat_with (1 ∷ 2 ∷ []) (1 ∷ 2 ∷ []) (2 ∷ replicate 64 0)) 2)) (3 ∷ 0 ∷ [])
    ∷ case (numbers (word_young_says 4 (flat_with (1 ∷ 2 ∷ []) (1 ∷ 2 ∷ []) (counts (1 ∷ []))) 2)) (3 ∷ 0 ∷ [])
    ∷ case (numbers (word_young_says 4 (flat_with (1 ∷ 9 ∷ []) (1 ∷ 2 ∷ []) (counts (3 ∷ []))) 2)) (3 ∷ 0 ∷ [])
    -- 4 over all cells before 21
    ∷ case (numbers (word_young_says 4 (flat_with (1 ∷ 2 ∷ 9 ∷ []) (0 ∷ 2 ∷ 3 ∷ []) (counts (3 ∷ []))) 3)) (4 ∷ 2 ∷ [])
    ∷ case (numbers (word_young_says 4 (flat_with (0 ∷ 2 ∷ 3 ∷ []) (1 ∷ 2 ∷ 3 ∷ []) (counts (3 ∷ []))) 3)) (4 ∷ 0 ∷ [])
    -- 21: no cell above, in a longer row, under an empty first row, under an empty row
    ∷ case (numbers (word_young_says 4 (flat_with (1 ∷ 2 ∷ 2 ∷ []) (1 ∷ 2 ∷ 3 ∷ []) (counts (1 ∷ 2 ∷ []))) 3)) (21 ∷ 2 ∷ [])
    ∷ case (numbers (word_young_says 4 (flat_with (1 ∷ 2 ∷ 3 ∷ []) (1 ∷ 2 ∷ 3 ∷ []) (counts (0 ∷ 3 ∷ []))) 3)) (21 ∷ 0 ∷ [])
    ∷ case (numbers (word_young_says 4 (flat_with (1 ∷ 2 ∷ []) (1 ∷ 2 ∷ []) (counts (1 ∷ 0 ∷ 1 ∷ []))) 2)) (21 ∷ 1 ∷ [])
    -- a letter smaller than the left one, not larger than the upper one; equal letters in a row pass
    ∷ case (numbers (word_young_says 4 (flat_with (1 ∷ 2 ∷ 1 ∷ []) (1 ∷ 2 ∷ 3 ∷ []) (counts (3 ∷ []))) 3)) (21 ∷ 2 ∷ [])
    ∷ case (numbers (word_young_says 4 (flat_with (2 ∷ 2 ∷ []) (1 ∷ 2 ∷ []) (counts (1 ∷ 1 ∷ []))) 2)) (21 ∷ 1 ∷ [])
    ∷ case (numbers (word_young_says 4 (flat_with (2 ∷ 2 ∷ []) (1 ∷ 2 ∷ []) (counts (2 ∷ []))) 2)) (0 ∷ 2 ∷ [])
    -- an entry that is 0, over L, met before in the row above; L itself passes
    ∷ case (numbers (word_young_says 4 (flat_with (1 ∷ 2 ∷ []) (0 ∷ 2 ∷ []) (counts (2 ∷ []))) 2)) (21 ∷ 0 ∷ [])
    ∷ case (numbers (word_young_says 4 (flat_with (1 ∷ 2 ∷ []) (1 ∷ 3 ∷ []) (counts (2 ∷ []))) 2)) (21 ∷ 1 ∷ [])
    ∷ case (numbers (word_young_says 4 (flat_with (1 ∷ 2 ∷ 2 ∷ []) (1 ∷ 3 ∷ 3 ∷ []) (counts (2 ∷ 1 ∷ []))) 3)) (21 ∷ 2 ∷ [])
    ∷ case (numbers (word_young_says 4 (flat_with (1 ∷ 2 ∷ []) (1 ∷ 2 ∷ []) (counts (2 ∷ []))) 2)) (0 ∷ 2 ∷ [])
    -- an entry not larger than the left one, than the upper one; columns too
    ∷ case (numbers (word_young_says 4 (flat_with (1 ∷ 2 ∷ []) (2 ∷ 1 ∷ []) (counts (2 ∷ []))) 2)) (21 ∷ 1 ∷ [])
    ∷ case (numbers (word_young_says 4 (flat_with (1 ∷ 2 ∷ []) (2 ∷ 1 ∷ []) (counts (1 ∷ 1 ∷ []))) 2)) (21 ∷ 1 ∷ [])
    ∷ case (numbers (word_young_says 4 (flat_with (1 ∷ 2 ∷ 2 ∷ 3 ∷ []) (1 ∷ 4 ∷ 2 ∷ 3 ∷ []) (counts (2 ∷ 2 ∷ []))) 4)) (21 ∷ 3 ∷ [])
    ∷ case (numbers (word_young_says 4 (flat_with (1 ∷ 2 ∷ 2 ∷ 3 ∷ []) (1 ∷ 3 ∷ 2 ∷ 4 ∷ []) (counts (2 ∷ 2 ∷ []))) 4)) (0 ∷ 4 ∷ [])
    -- the first of two faults, whatever they are; more rows than the rank
    ∷ case (numbers (word_young_says 4 (flat_with (1 ∷ 2 ∷ 1 ∷ 1 ∷ []) (1 ∷ 2 ∷ 3 ∷ 9 ∷ []) (counts (4 ∷ []))) 4)) (21 ∷ 2 ∷ [])
    ∷ case (numbers (word_young_says 4 (flat_with (1 ∷ 2 ∷ 2 ∷ 1 ∷ []) (1 ∷ 9 ∷ 3 ∷ 4 ∷ []) (counts (4 ∷ []))) 4)) (21 ∷ 1 ∷ [])
    ∷ case (numbers (word_young_says 2 (flat_with (1 ∷ 2 ∷ 2 ∷ []) (1 ∷ 2 ∷ 3 ∷ []) (counts (1 ∷ 1 ∷ 1 ∷ []))) 3)) (21 ∷ 2 ∷ [])
    -- 21 before 13; 13 one short
    ∷ case (numbers (word_young_says 4 (flat_with (2 ∷ 1 ∷ []) (1 ∷ 2 ∷ []) (counts (2 ∷ []))) 0)) (21 ∷ 1 ∷ [])
    ∷ case (numbers (word_young_says 4 (flat_with (2 ∷ 3 ∷ 3 ∷ 4 ∷ []) (1 ∷ 4 ∷ 2 ∷ 3 ∷ []) (counts (2 ∷ 1 ∷ 1 ∷ []))) 3)) (13 ∷ 4 ∷ [])
    ∷ case (outcome (word_young_run 4 (flat_with (2 ∷ 3 ∷ 3 ∷ 4 ∷ []) (1 ∷ 4 ∷ 2 ∷ 3 ∷ []) (counts (2 ∷ 1 ∷ 1 ∷ []))) (lent 3))) (13 ∷ 4 ∷ lent 3)
    -- of insertion: 1; 2 of the used count; 3: a used count above a part, 63 row lengths, a sum that is not the used count
    ∷ case (numbers (insert_young_says 0 0 1 (flat_with (1 ∷ []) (1 ∷ []) (counts [])))) (1 ∷ 0 ∷ [])
    ∷ case (numbers (insert_young_says 4 1025 1 (flat_with [] [] (counts [])))) (2 ∷ 0 ∷ [])
    ∷ case (numbers (insert_young_says 4 2 1 (flat_with (1 ∷ []) (1 ∷ 2 ∷ []) (counts (2 ∷ []))))) (3 ∷ 0 ∷ [])
    ∷ case (numbers (insert_young_says 4 2 1 (flat_with (1 ∷ 2 ∷ []) (1 ∷ []) (counts (2 ∷ []))))) (3 ∷ 0 ∷ [])
    ∷ case (numbers (insert_young_says 4 0 1 (flat_with (1 ∷ []) (1 ∷ []) (replicate 63 0)))) (3 ∷ 0 ∷ [])
    ∷ case (numbers (insert_young_says 4 1 1 (flat_with (1 ∷ 2 ∷ []) (1 ∷ 2 ∷ []) (counts (2 ∷ []))))) (3 ∷ 0 ∷ [])
    ∷ case (numbers (insert_young_says 4 1 1 (flat_with (1 ∷ 2 ∷ []) (1 ∷ 2 ∷ []) (counts [])))) (3 ∷ 0 ∷ [])
    -- 4: a used letter; the new letter at the used count, before 21; what is not used is not judged
    ∷ case (numbers (insert_young_says 4 2 5 (flat_with (1 ∷ 5 ∷ 9 ∷ []) (1 ∷ 2 ∷ 3 ∷ []) (counts (2 ∷ []))))) (4 ∷ 1 ∷ [])
    ∷ case (numbers (insert_young_says 4 2 5 (flat_with (2 ∷ 1 ∷ 9 ∷ []) (1 ∷ 2 ∷ 3 ∷ []) (counts (2 ∷ []))))) (4 ∷ 2 ∷ [])
    ∷ case (numbers (insert_young_says 4 2 0 (flat_with (1 ∷ 2 ∷ 9 ∷ []) (1 ∷ 2 ∷ 3 ∷ []) (counts (2 ∷ []))))) (4 ∷ 2 ∷ [])
    ∷ case (numbers (insert_young_says 4 2 4 (flat_with (1 ∷ 2 ∷ 9 ∷ []) (1 ∷ 2 ∷ 9 ∷ []) (counts (2 ∷ []))))) (0 ∷ 3 ∷ [])
    -- 21 with L the used count, before 13; 13 of letters, then of standard entries
    ∷ case (numbers (insert_young_says 4 2 4 (flat_with (1 ∷ 2 ∷ []) (1 ∷ 3 ∷ []) (counts (2 ∷ []))))) (21 ∷ 1 ∷ [])
    ∷ case (numbers (insert_young_says 4 2 4 (flat_with (1 ∷ 2 ∷ []) (1 ∷ 2 ∷ 9 ∷ []) (counts (2 ∷ []))))) (13 ∷ 3 ∷ [])
    ∷ case (numbers (insert_young_says 4 2 4 (flat_with (1 ∷ 2 ∷ 9 ∷ []) (1 ∷ 2 ∷ []) (counts (2 ∷ []))))) (13 ∷ 3 ∷ [])
    -- nothing is written then
    ∷ case (young_outcome (insert_young_run 4 2 1 (flat_with (1 ∷ 2 ∷ 99 ∷ []) (1 ∷ 2 ∷ []) (counts (2 ∷ []))))) (13 ∷ 3 ∷ 1 ∷ 2 ∷ 99 ∷ 1 ∷ 2 ∷ counts (2 ∷ []))
    ∷ []
