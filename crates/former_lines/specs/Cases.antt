-- Cases of the converter of former lines (document 02, N7), in the form of the starred ones.
--     converts t r        what it replies to two texts, and lent memory of 16 bytes after it
--     conversion_cases     results, each refusal, and the order of the checks
-- That the two sides of every case are equal is proved in proofs/Theory/Cases.antt. Assumes nothing.
use Rattle.std.specs.Prelude.{ℕ, List, [], ◌∷◌, ◌++◌, replicate}
use Prim.Native.String.{String}
use Rattle.outcomes.specs.Starred.{Case, case, lent, numbers, outcome, text}
use Rattle.former_lines.specs.Conversion.{convert_run, former_judgements}
use Rattle.outcomes.specs.Replies.{first, passed}

abbrev pub converts : String → String → List ℕ
converts t r = outcome (convert_run (text t) (text r) (lent 16))

-- Values that two lines may hold, judged alone.
abbrev pub judges : ℕ → List ℕ → List ℕ → List ℕ → List ℕ
judges n xs ms rs = numbers (first (former_judgements n xs ms rs) passed)

-- What a refusal replies, with all lent memory as it was.
abbrev pub kept : ℕ → ℕ → List ℕ
kept k p = k ∷ p ∷ lent 16

unfoldable pub conversion_cases : List Case
conversion_cases =
    -- one cell, no cell, and 4323, whose P line has 28 bytes; elements beyond the line are left
    case (converts "T,4,1,3\n" "N,1,1\n") (0 ∷ 10 ∷ (text "P,4,1,3,1\n" ++ lent 6))
    ∷ case (converts "T,4,0\n" "N,0\n") (0 ∷ 6 ∷ (text "P,4,0\n" ++ lent 10))
    ∷ case (outcome (convert_run (text "T,4,4,2,d,3,r,3,d,4\n") (text "N,4,3,2,4,1\n") (lent 28))) (0 ∷ 28 ∷ text "P,4,4,2,d,3,r,3,d,4,3,2,4,1\n")
    -- 14 of the T text, whatever the N text is; then of the N text, its bytes after those of the T text: cut short, of another kind, with more after it
    ∷ case (converts "T,4,1,3" "M") (kept 14 7)
    ∷ case (converts "T;4,1,3\n" "M") (kept 14 1)
    ∷ case (converts "N,1,1\n" "N,1,1\n") (kept 14 0)
    ∷ case (converts "T,4,1,3\n" "N,1,1") (kept 14 13)
    ∷ case (converts "T,4,1,3\n" "M,1,1\n") (kept 14 8)
    ∷ case (converts "T,4,1,3\n" "") (kept 14 8)
    ∷ case (converts "T,4,1,3\n" "N,1,1\n\n") (kept 14 14)
    -- 14 of the N text before 1 of the T text; 1 before 2 and 3; 2 of either before 3; 3 before 4
    ∷ case (converts "T,65,1,3\n" "N,1\n") (kept 14 12)
    ∷ case (converts "T,65,1,3\n" "N,2,1,2\n") (kept 1 0)
    ∷ case (judges 65 (replicate 1025 1) [] []) (1 ∷ 0 ∷ [])
    ∷ case (judges 65 [] [] (replicate 1025 1)) (1 ∷ 0 ∷ [])
    ∷ case (judges 4 (replicate 1025 1) (replicate 1025 0) []) (2 ∷ 0 ∷ [])
    ∷ case (judges 4 [] [] (replicate 1025 1)) (2 ∷ 0 ∷ [])
    ∷ case (converts "T,4,1,9\n" "N,2,1,2\n") (kept 3 0)
    ∷ case (converts "T,4,2,1,r,2\n" "N,1,1\n") (kept 3 0)
    -- 4, 5, 6, 7, 8 in this order, and 8 before 13
    ∷ case (converts "T,4,1,9\n" "N,1,2\n") (kept 4 0)
    ∷ case (converts "T,4,3,3,r,2,r,5\n" "N,3,1,2,3\n") (kept 4 2)
    ∷ case (converts "T,4,3,2,d,2,r,1\n" "N,3,1,2,3\n") (kept 5 2)
    ∷ case (converts "T,4,2,1,d,1\n" "N,2,9,9\n") (kept 6 1)
    ∷ case (converts "T,4,2,1,d,2\n" "N,2,0,1\n") (kept 7 0)
    ∷ case (converts "T,4,3,1,d,2,d,3\n" "N,3,1,2,2\n") (kept 7 2)
    ∷ case (converts "T,4,2,1,d,2\n" "N,2,1,2\n") (kept 8 1)
    ∷ case (converts "T,4,3,1,d,2,d,3\n" "N,3,1,2,3\n") (kept 8 1)
    -- 13 is last, and tells the bytes of the P line; exactly so many are enough
    ∷ case (converts "T,4,2,1,d,2\n" "N,2,2,1\n") (0 ∷ 16 ∷ text "P,4,2,1,d,2,2,1\n")
    ∷ case (converts "T,14,2,1,d,2\n" "N,2,2,1\n") (kept 13 17)
    ∷ []
