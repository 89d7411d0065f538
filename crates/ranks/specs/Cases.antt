-- Cases for two ranks (document 02, N5), in the form of the starred ones.
--     rank_cases     classes, lines and moves
-- That the two sides of every case are equal is proved in proofs/Theory/Cases.antt. Assumes nothing.
use Rattle.std.specs.Prelude.{List, [], ◌∷◌, ◌++◌}
use Rattle.outcomes.specs.WordOperations.{move_word_run, same_class_says}
use Rattle.quasi_crystal.specs.Classes.{tableau_line}
use Rattle.outcomes.specs.Starred.{Case, case, lower, numbers, outcome, raise, text, w4323}
use Rattle.ranks.specs.Unranked.{without_rank}
use Rattle.ranks.specs.Ranks.{unranked_line}

unfoldable pub rank_cases : List Case
rank_cases =
    -- the class disregards the ranks: 4323 at rank 4 and at rank 6, and another word of its class, before and after it
    case (numbers (same_class_says 4 w4323 6 w4323)) (0 ∷ 1 ∷ [])
    ∷ case (numbers (same_class_says 4 (3 ∷ 2 ∷ 4 ∷ 3 ∷ []) 6 w4323)) (0 ∷ 1 ∷ [])
    ∷ case (numbers (same_class_says 6 w4323 4 (3 ∷ 2 ∷ 4 ∷ 3 ∷ []))) (0 ∷ 1 ∷ [])
    ∷ case (numbers (same_class_says 1 [] 64 [])) (0 ∷ 1 ∷ [])
    -- another junction set; a letter that only the larger rank has, in either word
    ∷ case (numbers (same_class_says 4 (2 ∷ 3 ∷ 3 ∷ 4 ∷ []) 6 w4323)) (0 ∷ 0 ∷ [])
    ∷ case (numbers (same_class_says 4 [] 5 (5 ∷ []))) (0 ∷ 0 ∷ [])
    ∷ case (numbers (same_class_says 64 (64 ∷ []) 1 [])) (0 ∷ 0 ∷ [])
    -- 1 and 4, each word by its own rank
    ∷ case (numbers (same_class_says 0 [] 4 [])) (1 ∷ 0 ∷ [])
    ∷ case (numbers (same_class_says 4 [] 65 [])) (1 ∷ 0 ∷ [])
    ∷ case (numbers (same_class_says 4 (5 ∷ []) 6 (5 ∷ []))) (4 ∷ 0 ∷ [])
    ∷ case (numbers (same_class_says 6 (5 ∷ []) 4 (5 ∷ []))) (4 ∷ 1 ∷ [])
    ∷ case (numbers (same_class_says 4 (4 ∷ 3 ∷ 2 ∷ []) 2 (1 ∷ 3 ∷ []))) (4 ∷ 4 ∷ [])
    -- the lines still carry the rank, and are one without it
    ∷ case (tableau_line 4 w4323 ++ tableau_line 6 w4323) (text "T,4,4,2,d,3,r,3,d,4\nT,6,4,2,d,3,r,3,d,4\n")
    ∷ case (unranked_line 4 w4323) (text "T,4,2,d,3,r,3,d,4\n")
    ∷ case (unranked_line 6 w4323) (text "T,4,2,d,3,r,3,d,4\n")
    ∷ case (unranked_line 64 []) (text "T,0\n")
    -- other kinds that have the rank after their kind; bytes that are no line
    ∷ case (without_rank (text "W,64,4,4,3,2,3\n")) (text "W,4,4,3,2,3\n")
    ∷ case (without_rank (text "P,4,4,2,d,3,r,3,d,4,3,2,4,1\n")) (text "P,4,2,d,3,r,3,d,4,3,2,4,1\n")
    ∷ case (without_rank (text "C,4,4,2,1,d,3,2,d,4,1\n")) (text "C,4,2,1,d,3,2,d,4,1\n")
    ∷ case (without_rank (text "X,7\n") ++ without_rank (text "T,4") ++ without_rank (text "T") ++ without_rank []) (text "X\nTT")
    ∷ case (without_rank (text "T;4,0\n") ++ without_rank (text "T\n4,0")) (text "T,0\nT,0")
    -- a move that both ranks have: made in both, or refused in both with one number
    ∷ case (outcome (move_word_run 4 (raise 1) w4323) ++ outcome (move_word_run 6 (raise 1) (3 ∷ 2 ∷ 4 ∷ 3 ∷ [])))
    (0 ∷ 2 ∷ 4 ∷ 3 ∷ 1 ∷ 3 ∷ 0 ∷ 1 ∷ 3 ∷ 1 ∷ 4 ∷ 3 ∷ [])
    ∷ case (numbers (move_word_run 4 (lower 3) w4323).0 ++ numbers (move_word_run 6 (lower 3) w4323).0) (10 ∷ 0 ∷ 10 ∷ 0 ∷ [])
    ∷ case (numbers (move_word_run 4 (lower 1) w4323).0 ++ numbers (move_word_run 6 (lower 1) w4323).0) (11 ∷ 0 ∷ 11 ∷ 0 ∷ [])
    -- one that only the larger rank has: of the two together nothing is claimed
    ∷ case (outcome (move_word_run 4 (lower 4) w4323) ++ outcome (move_word_run 6 (lower 4) w4323))
    (9 ∷ 0 ∷ 4 ∷ 3 ∷ 2 ∷ 3 ∷ 0 ∷ 0 ∷ 5 ∷ 3 ∷ 2 ∷ 3 ∷ [])
    ∷ []
