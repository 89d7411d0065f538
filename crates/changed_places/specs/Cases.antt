-- Cases for the changed place of a move (document 02, N3), in the form of the starred ones.
--     beside_of n m w     what a move replies to a word, then what it replies to the word's tableau, then the recording ribbon
--     place_cases         the cases
-- That the two sides of every case are equal is proved in proofs/Theory/PlaceCases.antt. Assumes nothing.
use Rattle.std.specs.Prelude.{ℕ, List, [], ◌∷◌, ◌++◌}
use Rattle.hypoplactic.specs.Insertion.{letters_of, marks_of, recording_of}
use Rattle.quasi_crystal.specs.Moves.{Move}
use Rattle.outcomes.specs.Counts.{counts_of}
use Rattle.outcomes.specs.WordOperations.{move_word_run}
use Rattle.outcomes.specs.TableauOperations.{move_tableau_run}
use Rattle.outcomes.specs.Starred.{Case, case, counts, lower, numbers, outcome, outcomes, raise, r12446553275, w12446553275}

abbrev pub beside_of : ℕ → Move → List ℕ → List ℕ
beside_of n m w = numbers (move_word_run n m w).0 ++ numbers (move_tableau_run n m (letters_of w) (marks_of w) (counts_of w)).0 ++ recording_of w

unfoldable pub place_cases : List Case
place_cases =
    -- 131 and 311 are of one class: two places, one cell, whose entries are 2 and 1
    case (beside_of 3 (raise 2) (1 ∷ 3 ∷ 1 ∷ [])) (0 ∷ 1 ∷ 0 ∷ 2 ∷ 1 ∷ 3 ∷ 2 ∷ [])
    ∷ case (beside_of 3 (raise 2) (3 ∷ 1 ∷ 1 ∷ [])) (0 ∷ 0 ∷ 0 ∷ 2 ∷ 2 ∷ 3 ∷ 1 ∷ [])
    -- the 6 of 12446553275 stands at place 4; its cell is 9, with the entry 5
    ∷ case (beside_of 7 (lower 6) w12446553275) (0 ∷ 4 ∷ 0 ∷ 9 ∷ r12446553275)
    -- the rightmost of two for lowering, the leftmost of two for raising, on the word and on the tableau
    ∷ case (beside_of 3 (lower 2) (2 ∷ 1 ∷ 2 ∷ 3 ∷ [])) (0 ∷ 2 ∷ 0 ∷ 2 ∷ 2 ∷ 1 ∷ 3 ∷ 4 ∷ [])
    ∷ case (beside_of 3 (raise 1) (1 ∷ 2 ∷ 2 ∷ [])) (0 ∷ 1 ∷ 0 ∷ 1 ∷ 1 ∷ 2 ∷ 3 ∷ [])
    -- a refusal tells no changed place: its place is 0
    ∷ case (beside_of 3 (raise 2) (3 ∷ 1 ∷ 2 ∷ 3 ∷ [])) (10 ∷ 0 ∷ 10 ∷ 0 ∷ 2 ∷ 3 ∷ 1 ∷ 4 ∷ [])
    -- the place, then the letters that are left, and of a tableau their counts
    ∷ case (outcome (move_word_run 3 (lower 2) (2 ∷ 1 ∷ 2 ∷ 3 ∷ []))) (0 ∷ 2 ∷ 2 ∷ 1 ∷ 3 ∷ 3 ∷ [])
    ∷ case (outcomes (move_tableau_run 3 (lower 2) (1 ∷ 2 ∷ 2 ∷ 3 ∷ []) (0 ∷ 1 ∷ 0 ∷ 0 ∷ []) (counts (1 ∷ 2 ∷ 1 ∷ []))))
    (0 ∷ 2 ∷ 1 ∷ 2 ∷ 3 ∷ 3 ∷ counts (1 ∷ 1 ∷ 2 ∷ []))
    ∷ []
