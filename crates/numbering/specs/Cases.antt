-- Cases for sizes and numbers of classes (document 02, N4), in the form of the starred ones.
--     listed ws          words one after the other, a 0 behind each
--     number_cases        the cases
-- That the two sides of every case are equal is proved in examples' proofs/Theory/NumberCases.antt. Assumes nothing.
use Rattle.std.specs.Prelude.{ℕ, List, [], ◌∷◌, ◌++◌, replicate, set}
use Rattle.outcomes.specs.Starred.{Case, c4323, case, counts, lent, numbers, outcome, w4323}
use Rattle.numbering.specs.Dictionary.{class_words, words}
use Rattle.numbering.specs.Operations.{class_number_says, class_size_says, class_word_run}

abbrev pub listed : List (List ℕ) → List ℕ
listed [] = []
listed (w ∷ ws) = w ++ 0 ∷ listed ws

unfoldable pub number_cases : List Case
number_cases =
    -- the words of two letters at rank 2, in dictionary order
    case (listed (words 2 2)) (1 ∷ 1 ∷ 0 ∷ 1 ∷ 2 ∷ 0 ∷ 2 ∷ 1 ∷ 0 ∷ 2 ∷ 2 ∷ 0 ∷ [])
    -- the class of 4323 has 5 words: 3243, 3423, 3432, 4323, 4332
    ∷ case (listed (class_words 4 (2 ∷ 3 ∷ 3 ∷ 4 ∷ []) (0 ∷ 1 ∷ 0 ∷ 1 ∷ [])))
    (3 ∷ 2 ∷ 4 ∷ 3 ∷ 0 ∷ 3 ∷ 4 ∷ 2 ∷ 3 ∷ 0 ∷ 3 ∷ 4 ∷ 3 ∷ 2 ∷ 0 ∷ 4 ∷ 3 ∷ 2 ∷ 3 ∷ 0 ∷ 4 ∷ 3 ∷ 3 ∷ 2 ∷ 0 ∷ [])
    ∷ case (numbers (class_size_says 4 (2 ∷ 3 ∷ 3 ∷ 4 ∷ []) (0 ∷ 1 ∷ 0 ∷ 1 ∷ []) c4323)) (0 ∷ 5 ∷ [])
    ∷ case (outcome (class_word_run 4 (2 ∷ 3 ∷ 3 ∷ 4 ∷ []) (0 ∷ 1 ∷ 0 ∷ 1 ∷ []) c4323 1 (lent 5))) (0 ∷ 4 ∷ 3 ∷ 4 ∷ 2 ∷ 3 ∷ 99 ∷ [])
    ∷ case (numbers (class_number_says 4 w4323)) (0 ∷ 3 ∷ [])
    -- the empty tableau has one word, the empty one
    ∷ case (numbers (class_size_says 1 [] [] (counts []))) (0 ∷ 1 ∷ [])
    ∷ case (outcome (class_word_run 1 [] [] (counts []) 0 (lent 1))) (0 ∷ 0 ∷ 99 ∷ [])
    ∷ case (outcome (class_word_run 1 [] [] (counts []) 1 (lent 1))) (16 ∷ 0 ∷ 99 ∷ [])
    ∷ case (numbers (class_number_says 1 [])) (0 ∷ 0 ∷ [])
    -- 1, 3, 4 and 5 of a tableau, each before the later checks
    ∷ case (numbers (class_size_says 0 (1 ∷ []) [] [])) (1 ∷ 0 ∷ [])
    ∷ case (numbers (class_size_says 2 (3 ∷ []) [] [])) (3 ∷ 0 ∷ [])
    ∷ case (numbers (class_size_says 2 (2 ∷ 1 ∷ 3 ∷ []) (0 ∷ 0 ∷ 0 ∷ []) [])) (4 ∷ 2 ∷ [])
    ∷ case (numbers (class_size_says 2 (2 ∷ 1 ∷ []) (1 ∷ 0 ∷ []) [])) (5 ∷ 1 ∷ [])
    ∷ case (numbers (class_size_says 3 (replicate 20 3 ++ 1 ∷ []) (1 ∷ replicate 20 0) [])) (5 ∷ 20 ∷ [])
    ∷ case (outcome (class_word_run 2 (2 ∷ 1 ∷ 3 ∷ []) (0 ∷ 0 ∷ 0 ∷ []) [] 9 (lent 1))) (4 ∷ 2 ∷ 99 ∷ [])
    ∷ case (outcome (class_word_run 2 (2 ∷ 1 ∷ []) (1 ∷ 0 ∷ []) [] 9 (lent 1))) (5 ∷ 1 ∷ 99 ∷ [])
    -- 15: 21 cells or letters; 6 of a tableau and 4 of a word come before it
    ∷ case (numbers (class_size_says 1 (replicate 21 1) (replicate 21 0) (counts (21 ∷ [])))) (15 ∷ 0 ∷ [])
    ∷ case (numbers (class_size_says 1 (replicate 21 1) (replicate 20 0 ++ 1 ∷ []) (counts (21 ∷ [])))) (6 ∷ 20 ∷ [])
    ∷ case (outcome (class_word_run 1 (replicate 21 1) (replicate 21 0) (counts (21 ∷ [])) 1 (lent 1))) (15 ∷ 0 ∷ 99 ∷ [])
    ∷ case (numbers (class_number_says 1 (replicate 21 1))) (15 ∷ 0 ∷ [])
    ∷ case (numbers (class_number_says 1 (replicate 20 1 ++ 2 ∷ []))) (4 ∷ 20 ∷ [])
    -- 16: the size is the first number that is none, and comes before 13
    ∷ case (outcome (class_word_run 2 (1 ∷ 2 ∷ []) (0 ∷ 1 ∷ []) (counts (1 ∷ 1 ∷ [])) 0 (lent 3))) (0 ∷ 2 ∷ 2 ∷ 1 ∷ 99 ∷ [])
    ∷ case (outcome (class_word_run 2 (1 ∷ 2 ∷ []) (0 ∷ 1 ∷ []) (counts (1 ∷ 1 ∷ [])) 1 (lent 1))) (16 ∷ 0 ∷ 99 ∷ [])
    -- 13: a word too short
    ∷ case (outcome (class_word_run 2 (1 ∷ 2 ∷ []) (0 ∷ 1 ∷ []) (counts (1 ∷ 1 ∷ [])) 0 (lent 1))) (13 ∷ 2 ∷ 99 ∷ [])
    -- 17: the first wrong count, of the letter 1, of 32 and of 64; it comes before 15, whatever the cells,
    ∷ case (numbers (class_size_says 1 (replicate 21 1) (replicate 21 0) (counts (20 ∷ [])))) (17 ∷ 0 ∷ [])
    ∷ case (numbers (class_size_says 64 (replicate 21 32) (replicate 21 0) (set (counts []) 31 20))) (17 ∷ 31 ∷ [])
    ∷ case (numbers (class_size_says 64 (replicate 21 64) (replicate 21 0) (set (counts []) 63 22))) (17 ∷ 63 ∷ [])
    ∷ case (outcome (class_word_run 1 (replicate 21 1) (replicate 21 0) (set (counts (21 ∷ [])) 63 1) 1 (lent 1))) (17 ∷ 63 ∷ 99 ∷ [])
    -- before 16,
    ∷ case (outcome (class_word_run 2 (1 ∷ 2 ∷ []) (0 ∷ 1 ∷ []) (counts (0 ∷ 2 ∷ [])) 1 (lent 3))) (17 ∷ 0 ∷ 99 ∷ 99 ∷ 99 ∷ [])
    ∷ case (outcome (class_word_run 64 (1 ∷ 32 ∷ []) (0 ∷ 1 ∷ []) (counts (1 ∷ [])) 1 (lent 3))) (17 ∷ 31 ∷ 99 ∷ 99 ∷ 99 ∷ [])
    ∷ case (outcome (class_word_run 2 (1 ∷ 2 ∷ []) (0 ∷ 1 ∷ []) (set (counts (1 ∷ 1 ∷ [])) 63 1) 1 (lent 3))) (17 ∷ 63 ∷ 99 ∷ 99 ∷ 99 ∷ [])
    -- and before 13; the empty tableau has 64 times 0
    ∷ case (outcome (class_word_run 2 (1 ∷ 2 ∷ []) (0 ∷ 1 ∷ []) (counts (1 ∷ 2 ∷ [])) 0 (lent 1))) (17 ∷ 1 ∷ 99 ∷ [])
    ∷ case (numbers (class_size_says 1 [] [] (counts (1 ∷ [])))) (17 ∷ 0 ∷ [])
    -- 6 comes before 17
    ∷ case (numbers (class_size_says 2 (1 ∷ 2 ∷ []) (1 ∷ 0 ∷ []) (counts (0 ∷ 1 ∷ [])))) (6 ∷ 0 ∷ [])
    ∷ case (numbers (class_size_says 64 (1 ∷ 1 ∷ 32 ∷ []) (0 ∷ 1 ∷ 0 ∷ []) (counts (2 ∷ [])))) (6 ∷ 1 ∷ [])
    ∷ case (outcome (class_word_run 1 (replicate 21 1) (replicate 20 0 ++ 1 ∷ []) (set (counts (21 ∷ [])) 63 1) 1 (lent 1))) (6 ∷ 20 ∷ 99 ∷ [])
    ∷ []
