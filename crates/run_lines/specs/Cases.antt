-- Cases of C lines (document 02, N9), in the form of the starred ones.
--     writes, writes_word       what the writers of C lines reply to a tableau, to a word, and lent memory of so many bytes after it
--     reads, reads_with         what the reader replies to a text, and lent letters, marks and counts after it: five elements of each list, or so many
--     to_runs, to_tableau        what the converters reply to a text, and lent memory of so many bytes after it
--     writing_cases, reading_cases, refusal_cases, conversion_cases
-- That the two sides of every case are equal is proved in examples' proofs/Theory/RunCases.antt. Assumes nothing.
use Rattle.std.specs.Prelude.{ℕ, zero, suc, List, [], ◌∷◌, ◌++◌, replicate}
use Prim.Native.String.{String}
use Rattle.grammar.specs.Lines.{Run}
use Rattle.outcomes.specs.Replies.{first, passed}
use Rattle.outcomes.specs.Starred.{Case, c4323, case, counts, lent, m12446553275, numbers, outcome, tableau_outcome, text, w12446553275, w4323, w433, x12446553275}
use Rattle.run_lines.specs.Runs.{run_cells, run_letters, run_marks, run_with, runs_of}
use Rattle.run_lines.specs.Judgements.{run_judgements}
use Rattle.run_lines.specs.Operations.{c_line_run, read_c_run, runs_to_tableau_run, tableau_to_runs_run, word_run_line_run}
use Rattle.run_lines.specs.Classes.{unranked_run_line}

-- ---- what a case calls

abbrev pub writes : ℕ → List ℕ → List ℕ → ℕ → List ℕ
writes n xs ms k = outcome (c_line_run n xs ms (lent k))

abbrev pub writes_word : ℕ → List ℕ → ℕ → List ℕ
writes_word n w k = outcome (word_run_line_run n w (lent k))

abbrev pub reads_with : ℕ → ℕ → List ℕ → List ℕ
reads_with i j t = tableau_outcome (read_c_run t (lent i) (lent j) (lent 64))

abbrev pub reads : String → List ℕ
reads t = reads_with 5 5 (text t)

abbrev pub to_runs : String → ℕ → List ℕ
to_runs t k = outcome (tableau_to_runs_run (text t) (lent k))

abbrev pub to_tableau : String → ℕ → List ℕ
to_tableau t k = outcome (runs_to_tableau_run (text t) (lent k))

-- Values that a C line may hold, judged alone.
abbrev pub judges : ℕ → ℕ → List Run → List ℕ
judges n L rs = numbers (first (run_judgements n L rs) passed)

-- What a refusal replies, with all lent bytes as they were,
abbrev pub kept : ℕ → ℕ → ℕ → List ℕ
kept k p room = k ∷ p ∷ lent room

-- and the reader's, with its three lists as they were.
abbrev pub refuses : ℕ → ℕ → List ℕ
refuses k p = k ∷ p ∷ (lent 5 ++ (lent 5 ++ lent 64))

-- Runs in numbers: letter, count and mark of each.
abbrev pub spelled : List Run → List ℕ
spelled [] = []
spelled (r ∷ rs) = r.letter ∷ r.times ∷ r.mark ∷ spelled rs

-- Bytes so often.
abbrev pub again : ℕ → List ℕ → List ℕ
again zero t = []
again (suc k) t = t ++ again k t

-- So many runs, from the letter x on, of k cells each, with a step down into each.
abbrev pub rising : ℕ → ℕ → ℕ → List Run
rising zero x k = []
rising (suc n) x k = run_with x k 1 ∷ rising n (suc x) k

-- The runs of a longest C line: 60 of 10 cells and 4 of 100.
abbrev pub longest : List Run
longest = run_with 1 10 0 ∷ (rising 59 2 10 ++ rising 4 61 100)

-- ---- writers

unfoldable pub writing_cases : List Case
writing_cases =
    -- the tableau of 4323, whose C line has 22 bytes, with two elements beyond it, with exact room, and with one byte too few
    case (writes 4 (2 ∷ 3 ∷ 3 ∷ 4 ∷ []) (0 ∷ 1 ∷ 0 ∷ 1 ∷ []) 24) (0 ∷ 22 ∷ (text "C,4,4,2,1,d,3,2,d,4,1\n" ++ lent 2))
    ∷ case (writes 4 (2 ∷ 3 ∷ 3 ∷ 4 ∷ []) (0 ∷ 1 ∷ 0 ∷ 1 ∷ []) 22) (0 ∷ 22 ∷ text "C,4,4,2,1,d,3,2,d,4,1\n")
    ∷ case (writes 4 (2 ∷ 3 ∷ 3 ∷ 4 ∷ []) (0 ∷ 1 ∷ 0 ∷ 1 ∷ []) 21) (kept 13 22 21)
    -- no cell; one cell; one run; right and down steps between runs, of the rank's last letters
    ∷ case (writes 4 [] [] 6) (0 ∷ 6 ∷ text "C,4,0\n")
    ∷ case (writes 4 (3 ∷ []) (0 ∷ []) 10) (0 ∷ 10 ∷ text "C,4,1,3,1\n")
    ∷ case (writes 4 (1 ∷ 1 ∷ 1 ∷ []) (0 ∷ 0 ∷ 0 ∷ []) 10) (0 ∷ 10 ∷ text "C,4,3,1,3\n")
    ∷ case (writes 64 (63 ∷ 63 ∷ 64 ∷ []) (0 ∷ 0 ∷ 0 ∷ []) 19) (0 ∷ 19 ∷ text "C,64,3,63,2,r,64,1\n")
    ∷ case (writes 64 (63 ∷ 64 ∷ 64 ∷ []) (0 ∷ 1 ∷ 0 ∷ []) 19) (0 ∷ 19 ∷ text "C,64,3,63,1,d,64,2\n")
    ∷ case (writes 7 x12446553275 m12446553275 47) (0 ∷ 47 ∷ text "C,7,11,1,1,r,2,2,d,3,1,d,4,2,r,5,3,d,6,1,r,7,1\n")
    -- a longest line: no tableau's has more than 515 bytes (writers, specs/Lengths.antt)
    ∷ case (writes 64 (run_letters longest) (run_marks longest) 0) (kept 13 515 0)
    -- 1 to 6, each before 13 and before the next; 4, 5 and 6 at the cell's place
    ∷ case (writes 0 [] [] 0) (1 ∷ 0 ∷ [])
    ∷ case (writes 65 (replicate 1025 1) [] 0) (1 ∷ 0 ∷ [])
    ∷ case (writes 4 (replicate 1025 1) [] 0) (2 ∷ 0 ∷ [])
    ∷ case (writes 4 (9 ∷ 9 ∷ []) (0 ∷ []) 0) (3 ∷ 0 ∷ [])
    ∷ case (writes 4 (2 ∷ 2 ∷ 1 ∷ 5 ∷ []) (0 ∷ 0 ∷ 0 ∷ 0 ∷ []) 0) (4 ∷ 3 ∷ [])
    ∷ case (writes 4 (2 ∷ 2 ∷ 1 ∷ []) (1 ∷ 0 ∷ 0 ∷ []) 0) (5 ∷ 2 ∷ [])
    ∷ case (writes 4 (2 ∷ 2 ∷ 3 ∷ []) (0 ∷ 1 ∷ 0 ∷ []) 0) (6 ∷ 1 ∷ [])
    ∷ case (writes 4 (2 ∷ 2 ∷ 3 ∷ []) (1 ∷ 0 ∷ 0 ∷ []) 1) (kept 6 0 1)
    -- the C line of a word is that of its tableau; 1 2 4 13, 4 at the letter's place in the word
    ∷ case (writes_word 4 w4323 23) (0 ∷ 22 ∷ (text "C,4,4,2,1,d,3,2,d,4,1\n" ++ lent 1))
    ∷ case (writes_word 4 w433 16) (0 ∷ 16 ∷ text "C,4,3,3,2,d,4,1\n")
    ∷ case (writes_word 7 w12446553275 47) (0 ∷ 47 ∷ text "C,7,11,1,1,r,2,2,d,3,1,d,4,2,r,5,3,d,6,1,r,7,1\n")
    ∷ case (writes_word 4 [] 6) (0 ∷ 6 ∷ text "C,4,0\n")
    ∷ case (writes_word 0 (replicate 1025 9) 0) (1 ∷ 0 ∷ [])
    ∷ case (writes_word 4 (replicate 1025 9) 0) (2 ∷ 0 ∷ [])
    ∷ case (writes_word 4 (4 ∷ 3 ∷ 5 ∷ 0 ∷ []) 0) (4 ∷ 2 ∷ [])
    ∷ case (writes_word 4 w4323 21) (kept 13 22 21)
    -- without its rank field it is one at all ranks
    ∷ case (unranked_run_line 4 w4323) (text "C,4,2,1,d,3,2,d,4,1\n")
    ∷ case (unranked_run_line 64 w4323) (text "C,4,2,1,d,3,2,d,4,1\n")
    ∷ []

-- ---- the reader

unfoldable pub reading_cases : List Case
reading_cases =
    -- 4323: rank and number of cells, letters, marks and counts; elements beyond the cells are left
    case (reads "C,4,4,2,1,d,3,2,d,4,1\n") (0 ∷ 4 ∷ 4 ∷ 2 ∷ 3 ∷ 3 ∷ 4 ∷ 99 ∷ 0 ∷ 1 ∷ 0 ∷ 1 ∷ 99 ∷ c4323)
    -- no cell; one cell; a right step; the last letter; all 1,024 cells of one letter
    ∷ case (reads "C,4,0\n") (0 ∷ 4 ∷ 0 ∷ (lent 5 ++ (lent 5 ++ counts [])))
    ∷ case (reads "C,4,1,3,1\n") (0 ∷ 4 ∷ 1 ∷ 3 ∷ (lent 4 ++ 0 ∷ (lent 4 ++ counts (0 ∷ 0 ∷ 1 ∷ []))))
    ∷ case (reads "C,4,3,1,2,r,4,1\n") (0 ∷ 4 ∷ 3 ∷ 1 ∷ 1 ∷ 4 ∷ 99 ∷ 99 ∷ 0 ∷ 0 ∷ 0 ∷ 99 ∷ 99 ∷ counts (2 ∷ 0 ∷ 0 ∷ 1 ∷ []))
    ∷ case (reads_with 1 1 (text "C,64,1,64,1\n")) (0 ∷ 64 ∷ 1 ∷ 64 ∷ 0 ∷ (replicate 63 0 ++ 1 ∷ []))
    ∷ case (judges 1 1024 (run_with 1 1024 0 ∷ [])) (0 ∷ [])
    -- exact room; room for one letter, for one mark; more letters than marks and the other way
    ∷ case (reads_with 2 2 (text "C,4,2,2,2\n")) (0 ∷ 4 ∷ 2 ∷ 2 ∷ 2 ∷ 0 ∷ 0 ∷ counts (0 ∷ 2 ∷ []))
    ∷ case (reads_with 1 2 (text "C,4,2,2,2\n")) (13 ∷ 2 ∷ (lent 3 ++ lent 64))
    ∷ case (reads_with 2 1 (text "C,4,2,2,2\n")) (13 ∷ 2 ∷ (lent 3 ++ lent 64))
    ∷ case (reads_with 4 2 (text "C,4,2,1,1,d,3,1\n")) (0 ∷ 4 ∷ 2 ∷ 1 ∷ 3 ∷ 99 ∷ 99 ∷ 0 ∷ 1 ∷ counts (1 ∷ 0 ∷ 1 ∷ []))
    ∷ case (reads_with 2 4 (text "C,4,2,1,1,d,3,1\n")) (0 ∷ 4 ∷ 2 ∷ 1 ∷ 3 ∷ 0 ∷ 1 ∷ 99 ∷ 99 ∷ counts (1 ∷ 0 ∷ 1 ∷ []))
    -- runs and cells, whatever they are: as many as there are of both, a mark for each run's first cell alone, no cell of a count 0
    ∷ case (spelled (runs_of (2 ∷ 3 ∷ 3 ∷ 4 ∷ []) (0 ∷ 1 ∷ 0 ∷ []))) (2 ∷ 1 ∷ 0 ∷ 3 ∷ 2 ∷ 1 ∷ [])
    ∷ case (spelled (runs_of (2 ∷ []) (0 ∷ 1 ∷ []))) (2 ∷ 1 ∷ 0 ∷ [])
    ∷ case (run_letters (run_with 3 2 1 ∷ run_with 2 0 1 ∷ run_with 3 1 0 ∷ [])) (3 ∷ 3 ∷ 3 ∷ [])
    ∷ case (run_marks (run_with 3 3 1 ∷ run_with 2 0 1 ∷ run_with 3 1 1 ∷ [])) (1 ∷ 0 ∷ 0 ∷ 1 ∷ [])
    ∷ case (run_cells (run_with 3 3 1 ∷ run_with 2 0 1 ∷ run_with 3 1 1 ∷ []) ∷ []) (4 ∷ [])
    ∷ []

unfoldable pub refusal_cases : List Case
refusal_cases =
    -- 14: of another kind, cut short, a count or an item that fails, a number too long, a step before the first item, none before another, bytes after the line
    case (reads "") (refuses 14 0)
    ∷ case (reads "T,4,1,3\n") (refuses 14 0)
    ∷ case (reads "C,4\n") (refuses 14 3)
    ∷ case (reads "C,4,1,2\n") (refuses 14 7)
    ∷ case (reads "C,4,1,2,1") (refuses 14 9)
    ∷ case (reads "C,4,1,2,1,\n") (refuses 14 10)
    ∷ case (reads "C,4,1,2,01\n") (refuses 14 9)
    ∷ case (reads "C,4,1,2,10000\n") (refuses 14 12)
    ∷ case (reads "C,4,1,r,2,1\n") (refuses 14 6)
    ∷ case (reads "C,4,2,2,1,3,1\n") (refuses 14 10)
    ∷ case (reads "C,4,2,2,1,d,3\n") (refuses 14 13)
    ∷ case (reads "C,4,1\n\n") (refuses 14 6)
    -- 14 before 1; 1 before 2; 2, of L alone, before 4; 1,025 is too many, whatever the counts
    ∷ case (reads "C,0,1,2\n") (refuses 14 7)
    ∷ case (reads "C,0,2000,2,2\n") (refuses 1 0)
    ∷ case (reads "C,65,1,65,1\n") (refuses 1 0)
    ∷ case (reads "C,4,1025,2,1025\n") (refuses 2 0)
    ∷ case (reads "C,4,1025,9,0\n") (refuses 2 0)
    -- 4 at the item's index, before 19 of an earlier item; a letter 0 is refused with 4
    ∷ case (reads "C,4,2,5,0,d,2,1\n") (refuses 4 0)
    ∷ case (reads "C,4,2,2,0,d,5,1\n") (refuses 4 1)
    ∷ case (reads "C,4,4,2,3,d,5,1\n") (refuses 4 1)
    ∷ case (reads "C,4,2,2,1,d,1,1,d,5,1,d,6,1\n") (refuses 4 2)
    ∷ case (reads "C,4,1,0,0\n") (refuses 4 0)
    -- 19 at the item's index: a letter equal to the one before it or below it, a count 0; first, in the middle, last
    ∷ case (reads "C,4,2,2,1,d,2,1\n") (refuses 19 1)
    ∷ case (reads "C,4,2,3,1,d,2,1\n") (refuses 19 1)
    ∷ case (reads "C,4,4,2,3,r,2,1\n") (refuses 19 1)
    ∷ case (reads "C,4,2,2,0,d,3,2\n") (refuses 19 0)
    ∷ case (reads "C,4,2,2,2,d,3,0\n") (refuses 19 1)
    ∷ case (reads "C,4,5,1,2,d,3,0,d,4,3\n") (refuses 19 1)
    ∷ case (reads "C,4,5,1,2,d,4,1,d,2,2\n") (refuses 19 2)
    ∷ case (reads "C,4,4,1,1,d,2,1,d,1,1,d,2,1\n") (refuses 19 2)
    -- 19 before 20
    ∷ case (reads "C,4,9,2,1,d,2,1\n") (refuses 19 1)
    -- 20: too few, too many, no item, some with L 0; a sum that is never cut down
    ∷ case (reads "C,4,3\n") (refuses 20 0)
    ∷ case (reads "C,4,0,2,1\n") (refuses 20 0)
    ∷ case (reads "C,4,2,2,1\n") (refuses 20 0)
    ∷ case (reads "C,4,1,2,1,d,3,1\n") (refuses 20 0)
    ∷ case (reads "C,4,2,1,1,r,2,1,r,3,1\n") (refuses 20 0)
    ∷ case (reads "C,4,1024,2,1025\n") (refuses 20 0)
    ∷ case (reads "C,4,1024,2,1023\n") (refuses 20 0)
    ∷ case (reads "C,4,1,2,9999,d,3,9999\n") (refuses 20 0)
    -- 20 before 13, and 13 is last
    ∷ case (reads_with 0 0 (text "C,4,2,2,1\n")) (20 ∷ 0 ∷ lent 64)
    ∷ case (reads_with 0 0 (text "C,4,2,2,1,d,3,1\n")) (13 ∷ 2 ∷ lent 64)
    ∷ case (reads_with 0 0 (text "C,4,0\n")) (0 ∷ 4 ∷ 0 ∷ counts [])
    -- each lent list is as it was: after 14, after a refusal of the values, after 13
    ∷ case (tableau_outcome (read_c_run (text "C,4") (7 ∷ []) (8 ∷ []) (9 ∷ []))) (14 ∷ 3 ∷ 7 ∷ 8 ∷ 9 ∷ [])
    ∷ case (tableau_outcome (read_c_run (text "C,4,1,5,1\n") (7 ∷ []) (8 ∷ []) (9 ∷ []))) (4 ∷ 0 ∷ 7 ∷ 8 ∷ 9 ∷ [])
    ∷ case (tableau_outcome (read_c_run (text "C,4,2,2,2\n") (7 ∷ []) (8 ∷ []) (9 ∷ []))) (13 ∷ 2 ∷ 7 ∷ 8 ∷ 9 ∷ [])
    -- a line of 3,000 items, the second of which repeats a letter; but a letter outside the rank, be it the last of them, is told first
    ∷ case (numbers (read_c_run (text "C,4,1024,2,1" ++ (again 2999 (text ",r,2,1") ++ text "\n")) [] [] []).0) (19 ∷ 1 ∷ [])
    ∷ case (reads_with 0 0 (text "C,4,1024,2,1" ++ (again 98 (text ",r,2,1") ++ text ",d,5,1\n"))) (4 ∷ 99 ∷ lent 64)
    ∷ case (judges 4 1024 (replicate 2999 (run_with 2 1 0) ++ run_with 5 1 1 ∷ [])) (4 ∷ 2999 ∷ [])
    ∷ []

-- ---- the converters

unfoldable pub conversion_cases : List Case
conversion_cases =
    -- 4323 both ways, with an element beyond, with exact room, and with one byte too few
    case (to_runs "T,4,4,2,d,3,r,3,d,4\n" 23) (0 ∷ 22 ∷ (text "C,4,4,2,1,d,3,2,d,4,1\n" ++ lent 1))
    ∷ case (to_runs "T,4,4,2,d,3,r,3,d,4\n" 22) (0 ∷ 22 ∷ text "C,4,4,2,1,d,3,2,d,4,1\n")
    ∷ case (to_runs "T,4,4,2,d,3,r,3,d,4\n" 21) (kept 13 22 21)
    ∷ case (to_tableau "C,4,4,2,1,d,3,2,d,4,1\n" 21) (0 ∷ 20 ∷ (text "T,4,4,2,d,3,r,3,d,4\n" ++ lent 1))
    ∷ case (to_tableau "C,4,4,2,1,d,3,2,d,4,1\n" 20) (0 ∷ 20 ∷ text "T,4,4,2,d,3,r,3,d,4\n")
    ∷ case (to_tableau "C,4,4,2,1,d,3,2,d,4,1\n" 19) (kept 13 20 19)
    -- no cell, one cell, one run
    ∷ case (to_runs "T,4,0\n" 6) (0 ∷ 6 ∷ text "C,4,0\n")
    ∷ case (to_tableau "C,4,0\n" 6) (0 ∷ 6 ∷ text "T,4,0\n")
    ∷ case (to_runs "T,4,1,3\n" 10) (0 ∷ 10 ∷ text "C,4,1,3,1\n")
    ∷ case (to_tableau "C,4,1,3,1\n" 8) (0 ∷ 8 ∷ text "T,4,1,3\n")
    ∷ case (to_tableau "C,12,3,10,3\n" 20) (0 ∷ 20 ∷ text "T,12,3,10,r,10,r,10\n")
    -- T to C: 14 at the byte of the T line, then 1 to 6 in this order, 4, 5 and 6 at the cell's place, and 6 before 13
    ∷ case (to_runs "C,4,0\n" 1) (kept 14 0 1)
    ∷ case (to_runs "T,4,1,3,r" 1) (kept 14 7 1)
    ∷ case (to_runs "T,4,2,3\n" 1) (kept 14 7 1)
    ∷ case (to_runs "T,65,2,3\n" 1) (kept 14 8 1)
    ∷ case (to_runs "T,65,1,66\n" 1) (kept 1 0 1)
    ∷ case (outcome (tableau_to_runs_run (text "T,4,1025,9" ++ (again 1024 (text ",r,9") ++ text "\n")) (lent 1))) (kept 2 0 1)
    ∷ case (to_runs "T,4,4,2,r,2,r,1,r,5\n" 1) (kept 4 3 1)
    ∷ case (to_runs "T,4,4,2,d,2,r,1,r,4\n" 1) (kept 5 2 1)
    ∷ case (to_runs "T,4,4,2,r,2,d,2,r,4\n" 1) (kept 6 2 1)
    -- C to T: 14 at the byte of the C line, then 1 2 4 19 20 13, 4 and 19 at the item's index
    ∷ case (to_tableau "T,4,0\n" 1) (kept 14 0 1)
    ∷ case (to_tableau "C,4,1,2,1" 1) (kept 14 9 1)
    ∷ case (to_tableau "C,0,2,2\n" 1) (kept 14 7 1)
    ∷ case (to_tableau "C,0,2000,9,2\n" 1) (kept 1 0 1)
    ∷ case (to_tableau "C,4,1025,9,0\n" 1) (kept 2 0 1)
    ∷ case (to_tableau "C,4,9,2,0,d,5,1\n" 1) (kept 4 1 1)
    ∷ case (to_tableau "C,4,9,2,3,d,2,1\n" 1) (kept 19 1 1)
    ∷ case (to_tableau "C,4,2,2,1\n" 1) (kept 20 0 1)
    ∷ case (to_tableau "C,4,2,2,2\n" 1) (kept 13 12 1)
    ∷ []
