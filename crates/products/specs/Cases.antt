-- Cases of the product: what the written meaning gives beside what is expected, in the form of outcomes' specs/Starred. A reply stands as its numbers:
-- 0 and the values, or the refusal's number and place; what lent letters, marks and counts then hold follows.
--     times_run, times_says   reply and memory, and the reply alone, where the factors bring true letter counts
--     product_cases          products, with one element of lent memory beyond those needed
--     product_refusals       every refusal number in both factors, at its place and in its order
--     product_limits         1,024 cells together are not refused by their number
-- That the checker computes the one from the other stands in examples' proofs/Theory/ProductCases. Assumes nothing.
use Rattle.std.specs.Prelude.{ℕ, List, [], ◌∷◌, replicate, set}
use Rattle.outcomes.specs.Counts.{counts_of}
use Rattle.outcomes.specs.Replies.{Said}
use Rattle.outcomes.specs.Starred.{Case, case, counts, lent, m12446553275, numbers, tableau_outcome, x12446553275}
use Rattle.products.specs.Products.{product_run, product_says}

-- ---- factors with true letter counts

-- The reply and memory with 64 lent counts,
abbrev pub times_run : ℕ → List ℕ → List ℕ → List ℕ → List ℕ → List ℕ → List ℕ → Said × (List ℕ × (List ℕ × List ℕ))
times_run n xs ms ys ns letters marks = product_run n xs ms (counts_of xs) ys ns (counts_of ys) letters marks (lent 64)

-- and the reply alone.
abbrev pub times_says : ℕ → List ℕ → List ℕ → List ℕ → List ℕ → ℕ → ℕ → Said
times_says n xs ms ys ns letters marks = product_says n xs ms (counts_of xs) ys ns (counts_of ys) letters marks

-- ---- products

abbrev pub product_cases : List Case
product_cases =
    -- 31 times 2, 2 times 31, 13 times 2
    case (tableau_outcome (times_run 3 (1 ∷ 3 ∷ []) (0 ∷ 1 ∷ []) (2 ∷ []) (0 ∷ []) (lent 4) (lent 4))) (0 ∷ 3 ∷ 1 ∷ 2 ∷ 3 ∷ 99 ∷ 0 ∷ 0 ∷ 1 ∷ 99 ∷ counts (1 ∷ 1 ∷ 1 ∷ []))
    ∷ case (tableau_outcome (times_run 3 (2 ∷ []) (0 ∷ []) (1 ∷ 3 ∷ []) (0 ∷ 1 ∷ []) (lent 4) (lent 4))) (0 ∷ 3 ∷ 1 ∷ 2 ∷ 3 ∷ 99 ∷ 0 ∷ 1 ∷ 0 ∷ 99 ∷ counts (1 ∷ 1 ∷ 1 ∷ []))
    ∷ case (tableau_outcome (times_run 3 (1 ∷ 3 ∷ []) (0 ∷ 0 ∷ []) (2 ∷ []) (0 ∷ []) (lent 4) (lent 4))) (0 ∷ 3 ∷ 1 ∷ 2 ∷ 3 ∷ 99 ∷ 0 ∷ 0 ∷ 1 ∷ 99 ∷ counts (1 ∷ 1 ∷ 1 ∷ []))
    -- 2 times 1 goes down, 1 times 2 goes right
    ∷ case (tableau_outcome (times_run 2 (2 ∷ []) (0 ∷ []) (1 ∷ []) (0 ∷ []) (lent 3) (lent 3))) (0 ∷ 2 ∷ 1 ∷ 2 ∷ 99 ∷ 0 ∷ 1 ∷ 99 ∷ counts (1 ∷ 1 ∷ []))
    ∷ case (tableau_outcome (times_run 2 (1 ∷ []) (0 ∷ []) (2 ∷ []) (0 ∷ []) (lent 3) (lent 3))) (0 ∷ 2 ∷ 1 ∷ 2 ∷ 99 ∷ 0 ∷ 0 ∷ 99 ∷ counts (1 ∷ 1 ∷ []))
    -- 21 times itself
    ∷ case (tableau_outcome (times_run 2 (1 ∷ 2 ∷ []) (0 ∷ 1 ∷ []) (1 ∷ 2 ∷ []) (0 ∷ 1 ∷ []) (lent 5) (lent 5)))
    (0 ∷ 4 ∷ 1 ∷ 1 ∷ 2 ∷ 2 ∷ 99 ∷ 0 ∷ 0 ∷ 1 ∷ 0 ∷ 99 ∷ counts (2 ∷ 2 ∷ []))
    -- 4323 times 21
    ∷ case (tableau_outcome (times_run 4 (2 ∷ 3 ∷ 3 ∷ 4 ∷ []) (0 ∷ 1 ∷ 0 ∷ 1 ∷ []) (1 ∷ 2 ∷ []) (0 ∷ 1 ∷ []) (lent 7) (lent 7)))
    (0 ∷ 6 ∷ 1 ∷ 2 ∷ 2 ∷ 3 ∷ 3 ∷ 4 ∷ 99 ∷ 0 ∷ 1 ∷ 0 ∷ 1 ∷ 0 ∷ 1 ∷ 99 ∷ counts (1 ∷ 2 ∷ 2 ∷ 1 ∷ []))
    -- 12446553275 times 4323
    ∷ case (tableau_outcome (times_run 7 x12446553275 m12446553275 (2 ∷ 3 ∷ 3 ∷ 4 ∷ []) (0 ∷ 1 ∷ 0 ∷ 1 ∷ []) (lent 16) (lent 16)))
    (0 ∷ 15 ∷ 1 ∷ 2 ∷ 2 ∷ 2 ∷ 3 ∷ 3 ∷ 3 ∷ 4 ∷ 4 ∷ 4 ∷ 5 ∷ 5 ∷ 5 ∷ 6 ∷ 7 ∷ 99
    ∷ 0 ∷ 0 ∷ 0 ∷ 0 ∷ 1 ∷ 0 ∷ 0 ∷ 1 ∷ 0 ∷ 0 ∷ 1 ∷ 0 ∷ 0 ∷ 1 ∷ 0 ∷ 99 ∷ counts (1 ∷ 3 ∷ 3 ∷ 3 ∷ 3 ∷ 1 ∷ 1 ∷ []))
    -- the empty tableau before 433, after it, and with itself
    ∷ case (tableau_outcome (times_run 4 [] [] (3 ∷ 3 ∷ 4 ∷ []) (0 ∷ 0 ∷ 1 ∷ []) (lent 4) (lent 4))) (0 ∷ 3 ∷ 3 ∷ 3 ∷ 4 ∷ 99 ∷ 0 ∷ 0 ∷ 1 ∷ 99 ∷ counts (0 ∷ 0 ∷ 2 ∷ 1 ∷ []))
    ∷ case (tableau_outcome (times_run 4 (3 ∷ 3 ∷ 4 ∷ []) (0 ∷ 0 ∷ 1 ∷ []) [] [] (lent 4) (lent 4))) (0 ∷ 3 ∷ 3 ∷ 3 ∷ 4 ∷ 99 ∷ 0 ∷ 0 ∷ 1 ∷ 99 ∷ counts (0 ∷ 0 ∷ 2 ∷ 1 ∷ []))
    ∷ case (tableau_outcome (times_run 4 [] [] [] [] (lent 1) (lent 1))) (0 ∷ 0 ∷ 99 ∷ 99 ∷ counts ([]))
    ∷ []

-- ---- refusals

abbrev pub product_refusals : List Case
product_refusals =
    -- 1: rank 1 and 64 pass, 0 and 65 do not, whatever else is wrong
    case (numbers (times_says 1 (1 ∷ []) (0 ∷ []) (1 ∷ []) (0 ∷ []) 2 2)) (0 ∷ 2 ∷ [])
    ∷ case (numbers (times_says 64 (64 ∷ []) (0 ∷ []) (64 ∷ []) (0 ∷ []) 2 2)) (0 ∷ 2 ∷ [])
    ∷ case (numbers (times_says 0 (replicate 1024 1) [] (1 ∷ []) [] 0 0)) (1 ∷ 0 ∷ [])
    ∷ case (numbers (times_says 65 [] [] [] [] 0 0)) (1 ∷ 0 ∷ [])
    -- 2: 1,025 cells together do not pass, however they are shared out, and before 3
    ∷ case (numbers (times_says 1 (replicate 600 1) [] (replicate 425 1) [] 1024 1024)) (2 ∷ 0 ∷ [])
    ∷ case (numbers (times_says 1 (replicate 1025 1) [] [] [] 1024 1024)) (2 ∷ 0 ∷ [])
    -- 3: marks one short in the first, and in the second, before 4
    ∷ case (numbers (times_says 4 (1 ∷ 2 ∷ []) (0 ∷ []) (3 ∷ []) (0 ∷ []) 3 3)) (3 ∷ 0 ∷ [])
    ∷ case (numbers (times_says 4 (5 ∷ 2 ∷ []) (0 ∷ 0 ∷ []) (3 ∷ 4 ∷ []) (0 ∷ []) 4 4)) (3 ∷ 0 ∷ [])
    -- 4: in both the first's place; in the second places count on; in the second before 5 in the first
    ∷ case (numbers (times_says 4 (1 ∷ 5 ∷ []) (0 ∷ 0 ∷ []) (0 ∷ []) (0 ∷ []) 3 3)) (4 ∷ 1 ∷ [])
    ∷ case (numbers (times_says 4 (1 ∷ 2 ∷ []) (0 ∷ 0 ∷ []) (5 ∷ []) (0 ∷ []) 3 3)) (4 ∷ 2 ∷ [])
    ∷ case (numbers (times_says 4 (2 ∷ 1 ∷ []) (0 ∷ 0 ∷ []) (4 ∷ 5 ∷ []) (0 ∷ 0 ∷ []) 4 4)) (4 ∷ 3 ∷ [])
    -- 5: the same, and in the second before 6 in the first
    ∷ case (numbers (times_says 4 (2 ∷ 1 ∷ []) (0 ∷ 0 ∷ []) (2 ∷ 1 ∷ []) (0 ∷ 0 ∷ []) 4 4)) (5 ∷ 1 ∷ [])
    ∷ case (numbers (times_says 4 (1 ∷ 2 ∷ 3 ∷ []) (0 ∷ 0 ∷ 0 ∷ []) (2 ∷ 1 ∷ []) (0 ∷ 0 ∷ []) 5 5)) (5 ∷ 4 ∷ [])
    ∷ case (numbers (times_says 4 (1 ∷ 1 ∷ []) (0 ∷ 1 ∷ []) (2 ∷ 1 ∷ []) (0 ∷ 0 ∷ []) 4 4)) (5 ∷ 3 ∷ [])
    -- 6: in both the first's place; in the second the first mark, a step between equals, a mark that is none, and all before 13
    ∷ case (numbers (times_says 4 (1 ∷ 1 ∷ []) (0 ∷ 1 ∷ []) (3 ∷ []) (1 ∷ []) 3 3)) (6 ∷ 1 ∷ [])
    ∷ case (numbers (times_says 4 (1 ∷ 2 ∷ []) (0 ∷ 0 ∷ []) (3 ∷ []) (1 ∷ []) 3 3)) (6 ∷ 2 ∷ [])
    ∷ case (numbers (times_says 4 (1 ∷ 2 ∷ []) (0 ∷ 0 ∷ []) (3 ∷ 3 ∷ []) (0 ∷ 1 ∷ []) 4 4)) (6 ∷ 3 ∷ [])
    ∷ case (numbers (times_says 4 (1 ∷ 2 ∷ []) (0 ∷ 0 ∷ []) (3 ∷ 4 ∷ []) (0 ∷ 2 ∷ []) 0 0)) (6 ∷ 3 ∷ [])
    -- nothing is judged across the factors
    ∷ case (numbers (times_says 4 (3 ∷ 4 ∷ []) (0 ∷ 1 ∷ []) (1 ∷ []) (0 ∷ []) 3 3)) (0 ∷ 3 ∷ [])
    -- 13: letters or marks one short of 3; all outputs are as they were
    ∷ case (tableau_outcome (times_run 3 (1 ∷ 3 ∷ []) (0 ∷ 1 ∷ []) (2 ∷ []) (0 ∷ []) (lent 2) (lent 3))) (13 ∷ 3 ∷ lent 69)
    ∷ case (tableau_outcome (times_run 3 (1 ∷ 3 ∷ []) (0 ∷ 1 ∷ []) (2 ∷ []) (0 ∷ []) (lent 3) (lent 2))) (13 ∷ 3 ∷ lent 69)
    -- 17: the first number of the first factor; the last of each, in the second 64 further on; in both the first's place; before 13, and all memory is as it was
    ∷ case (numbers (product_says 4 (2 ∷ []) (0 ∷ []) (counts (1 ∷ [])) (1 ∷ []) (0 ∷ []) (counts (1 ∷ [])) 2 2)) (17 ∷ 0 ∷ [])
    ∷ case (numbers (product_says 4 (2 ∷ []) (0 ∷ []) (set (counts_of (2 ∷ [])) 63 1) (1 ∷ []) (0 ∷ []) (counts (1 ∷ [])) 2 2)) (17 ∷ 63 ∷ [])
    ∷ case (numbers (product_says 4 (2 ∷ []) (0 ∷ []) (counts_of (2 ∷ [])) (1 ∷ []) (0 ∷ []) (set (counts (1 ∷ [])) 63 1) 2 2)) (17 ∷ 127 ∷ [])
    ∷ case (numbers (product_says 4 (2 ∷ []) (0 ∷ []) (counts (0 ∷ 2 ∷ [])) (1 ∷ []) (0 ∷ []) (counts []) 2 2)) (17 ∷ 1 ∷ [])
    ∷ case (tableau_outcome (product_run 4 (2 ∷ []) (0 ∷ []) (counts_of (2 ∷ [])) (1 ∷ []) (0 ∷ []) (counts []) [] [] (lent 64))) (17 ∷ 64 ∷ lent 64)
    -- 6 in the second before 17 in the first
    ∷ case (numbers (product_says 4 (2 ∷ []) (0 ∷ []) (counts []) (1 ∷ []) (1 ∷ []) (counts []) 2 2)) (6 ∷ 1 ∷ [])
    ∷ []

-- ---- limits

-- 1,024 cells together pass 1 to 6, however they are shared out: 17 of no counts is what refuses them.
abbrev pub product_limits : List Case
product_limits =
    case (numbers (product_says 1 (replicate 1024 1) (replicate 1024 0) [] [] [] [] 1024 1024)) (17 ∷ 0 ∷ [])
    ∷ case (numbers (product_says 1 (replicate 600 1) (replicate 600 0) [] (replicate 424 1) (replicate 424 0) [] 1024 1024)) (17 ∷ 0 ∷ [])
    ∷ []
