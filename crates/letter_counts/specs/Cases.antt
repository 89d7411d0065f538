-- Cases for two tableaux with letter counts (document 02, N6), in the form of the starred ones.
--     x4323, m4323      the tableau of 4323: its letters and its marks
--     on_both            what an operation says of two tableaux that break one check or more, each in its place
--     both_order         what it must say: 1 to 6 and 17, of the first before the second, and of either before the next
--     tableaux_cases     classes, weights and refusals
-- That the two sides of every case are equal is proved in proofs/Theory/Cases.antt. Assumes nothing.
use Rattle.std.specs.Prelude.{ℕ, List, [], ◌∷◌, ◌++◌, replicate, set}
use Rattle.outcomes.specs.Counts.{counts_of}
use Rattle.outcomes.specs.Replies.{Said}
use Rattle.outcomes.specs.Starred.{Case, c4323, case, counts, numbers, w4323}
use Rattle.letter_counts.specs.TwoTableaux.{same_class_tableaux_says, weights_tableaux_says}

-- The tableau of 4323: its letters and its marks.
abbrev pub x4323 : List ℕ
x4323 = 2 ∷ 3 ∷ 3 ∷ 4 ∷ []

abbrev pub m4323 : List ℕ
m4323 = 0 ∷ 1 ∷ 0 ∷ 1 ∷ []

-- Both tableaux are broken, and in each line later checks too.
abbrev pub on_both : (ℕ → List ℕ → List ℕ → List ℕ → ℕ → List ℕ → List ℕ → List ℕ → Said) → List ℕ
on_both says =
    -- 1, 2 and 3 of the first
    numbers (says 0 (replicate 1025 1) [] [] 4 [] [] [])
    ++ numbers (says 4 (replicate 1025 1) [] [] 4 [] [] [])
    ++ numbers (says 4 (5 ∷ []) [] [] 4 [] [] [])
    -- 4, 5 and 6 of the first before those of the second, and 6 of the second before 17 of the first
    ++ numbers (says 4 (3 ∷ 2 ∷ 5 ∷ []) (0 ∷ 0 ∷ 0 ∷ []) [] 4 (5 ∷ []) (0 ∷ []) [])
    ++ numbers (says 4 (1 ∷ 2 ∷ 1 ∷ []) (0 ∷ 0 ∷ 2 ∷ []) [] 4 (2 ∷ 1 ∷ []) (0 ∷ 0 ∷ []) [])
    ++ numbers (says 4 (1 ∷ 1 ∷ []) (0 ∷ 1 ∷ []) [] 4 (3 ∷ []) (1 ∷ []) [])
    ++ numbers (says 4 (1 ∷ []) (0 ∷ []) [] 4 (1 ∷ 1 ∷ []) (0 ∷ 1 ∷ []) [])
    -- 5 of the second counts on from the first's length; 17 of the first before that of the second
    ++ numbers (says 4 (1 ∷ 2 ∷ 3 ∷ []) (0 ∷ 0 ∷ 0 ∷ []) [] 4 (2 ∷ 1 ∷ []) (0 ∷ 0 ∷ []) [])
    ++ numbers (says 4 (1 ∷ []) (0 ∷ []) [] 4 (1 ∷ []) (0 ∷ []) [])

abbrev pub both_order : List ℕ
both_order = 1 ∷ 0 ∷ 2 ∷ 0 ∷ 3 ∷ 0 ∷ 4 ∷ 2 ∷ 5 ∷ 2 ∷ 6 ∷ 1 ∷ 6 ∷ 2 ∷ 5 ∷ 4 ∷ 17 ∷ 0 ∷ []

unfoldable pub tableaux_cases : List Case
tableaux_cases =
    -- the order of the checks
    case (on_both same_class_tableaux_says) both_order
    ∷ case (on_both weights_tableaux_says) both_order
    -- the letter counts of 4323, and of its tableau
    ∷ case (counts_of w4323) c4323
    ∷ case (counts_of x4323) c4323
    -- 12 and 21: two classes, equal weights
    ∷ case (numbers (same_class_tableaux_says 2 (1 ∷ 2 ∷ []) (0 ∷ 0 ∷ []) (counts (1 ∷ 1 ∷ [])) 2 (1 ∷ 2 ∷ []) (0 ∷ 1 ∷ []) (counts (1 ∷ 1 ∷ [])))) (0 ∷ 0 ∷ [])
    ∷ case (numbers (weights_tableaux_says 2 (1 ∷ 2 ∷ []) (0 ∷ 0 ∷ []) (counts (1 ∷ 1 ∷ [])) 2 (1 ∷ 2 ∷ []) (0 ∷ 1 ∷ []) (counts (1 ∷ 1 ∷ [])))) (0 ∷ 0 ∷ [])
    -- 4323 at the ranks 4 and 6: one class
    ∷ case (numbers (same_class_tableaux_says 4 x4323 m4323 c4323 6 x4323 m4323 c4323)) (0 ∷ 1 ∷ [])
    -- equal marks, other letters; the last letter alone; the empty tableaux
    ∷ case (numbers (same_class_tableaux_says 4 (1 ∷ []) (0 ∷ []) (counts (1 ∷ [])) 4 (2 ∷ []) (0 ∷ []) (counts (0 ∷ 1 ∷ [])))) (0 ∷ 0 ∷ [])
    ∷ case (numbers (same_class_tableaux_says 64 (64 ∷ []) (0 ∷ []) (replicate 63 0 ++ 1 ∷ []) 1 [] [] (counts []))) (0 ∷ 0 ∷ [])
    ∷ case (numbers (same_class_tableaux_says 1 [] [] (counts []) 64 [] [] (counts []))) (0 ∷ 1 ∷ [])
    -- weights: 22 is lower than 12, 12 higher than 22, and 13 and 22 are neither
    ∷ case (numbers (weights_tableaux_says 2 (2 ∷ 2 ∷ []) (0 ∷ 0 ∷ []) (counts (0 ∷ 2 ∷ [])) 4 (1 ∷ 2 ∷ []) (0 ∷ 1 ∷ []) (counts (1 ∷ 1 ∷ [])))) (0 ∷ 1 ∷ [])
    ∷ case (numbers (weights_tableaux_says 4 (1 ∷ 2 ∷ []) (0 ∷ 1 ∷ []) (counts (1 ∷ 1 ∷ [])) 2 (2 ∷ 2 ∷ []) (0 ∷ 0 ∷ []) (counts (0 ∷ 2 ∷ [])))) (0 ∷ 2 ∷ [])
    ∷ case (numbers (weights_tableaux_says 3 (1 ∷ 3 ∷ []) (0 ∷ 0 ∷ []) (counts (1 ∷ 0 ∷ 1 ∷ [])) 2 (2 ∷ 2 ∷ []) (0 ∷ 0 ∷ []) (counts (0 ∷ 2 ∷ [])))) (0 ∷ 3 ∷ [])
    -- 17: the last number of the second and of the first; the first number; where both are wrong the first's place
    ∷ case (numbers (same_class_tableaux_says 4 x4323 m4323 c4323 4 x4323 m4323 (set c4323 63 1))) (17 ∷ 127 ∷ [])
    ∷ case (numbers (weights_tableaux_says 4 x4323 m4323 c4323 4 x4323 m4323 (set c4323 63 1))) (17 ∷ 127 ∷ [])
    ∷ case (numbers (same_class_tableaux_says 4 x4323 m4323 (set c4323 63 1) 4 x4323 m4323 c4323)) (17 ∷ 63 ∷ [])
    ∷ case (numbers (same_class_tableaux_says 4 x4323 m4323 (counts (1 ∷ 0 ∷ 2 ∷ 1 ∷ [])) 4 x4323 m4323 c4323)) (17 ∷ 0 ∷ [])
    ∷ case (numbers (same_class_tableaux_says 4 x4323 m4323 (set c4323 5 1) 4 x4323 m4323 (counts (1 ∷ 0 ∷ 2 ∷ 1 ∷ [])))) (17 ∷ 5 ∷ [])
    -- 6 of the second before its own 17, and 4 of the second before 17 of either
    ∷ case (numbers (same_class_tableaux_says 4 x4323 m4323 c4323 3 (3 ∷ 3 ∷ []) (0 ∷ 1 ∷ []) (replicate 64 9))) (6 ∷ 5 ∷ [])
    ∷ case (numbers (same_class_tableaux_says 4 x4323 m4323 (replicate 64 9) 3 (3 ∷ 4 ∷ []) (0 ∷ 0 ∷ []) (replicate 64 9))) (4 ∷ 5 ∷ [])
    -- 1 of the first and of the second; 1 of the second before 2 of the first
    ∷ case (numbers (same_class_tableaux_says 0 [] [] (counts []) 65 [] [] (counts []))) (1 ∷ 0 ∷ [])
    ∷ case (numbers (same_class_tableaux_says 4 (replicate 1025 1) [] [] 65 [] [] [])) (1 ∷ 0 ∷ [])
    -- 2 of the second before 3 of the first
    ∷ case (numbers (same_class_tableaux_says 4 (1 ∷ []) [] [] 4 (replicate 1025 1) [] [])) (2 ∷ 0 ∷ [])
    -- 3 of the second before 4 of the first
    ∷ case (numbers (same_class_tableaux_says 4 (5 ∷ []) (0 ∷ []) [] 4 (1 ∷ []) [] [])) (3 ∷ 0 ∷ [])
    -- 4 of the second before 5 of the first, 5 of the second before 6 of the first, each at its place
    ∷ case (numbers (same_class_tableaux_says 4 (2 ∷ 1 ∷ []) (0 ∷ 0 ∷ []) [] 4 (1 ∷ 5 ∷ []) (0 ∷ 0 ∷ []) [])) (4 ∷ 3 ∷ [])
    ∷ case (numbers (same_class_tableaux_says 4 (2 ∷ 2 ∷ []) (0 ∷ 1 ∷ []) [] 4 (2 ∷ 1 ∷ []) (0 ∷ 0 ∷ []) [])) (5 ∷ 3 ∷ [])
    ∷ []
