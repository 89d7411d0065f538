-- The starred cases of document 01 ("Checked words"), as one list: what the written meaning gives beside what the document says. A second list has
-- worked examples of the paper, a third the other checked words and the refusals.
-- Whole outputs stand as texts. A reply stands as its numbers: 0 and the values, or the refusal's number and place; what lent memory then holds follows.
-- That the two sides of every case are equal is proved in examples' proofs/Theory/Starred.antt. Assumes nothing.
use Rattle.std.specs.Prelude.{ℕ, ◌-◌, List, [], ◌∷◌, ◌++◌, length, replicate}
use Prim.Native.Char.{code}
use Prim.Native.String.{String, [] as ending, ◌∷◌ as ◌∷ᶜ◌}
use Rattle.hypoplactic.specs.Insertion.{Pair, insert, letters_of, marks_of, pair_of, pair_with, recording_of}
use Rattle.hypoplactic.specs.Reading.{column_reading}
use Rattle.quasi_crystal.specs.Moves.{Move, raising, lowering}
use Rattle.outcomes.specs.Replies.{Said, gives, refused, passed, first}
use Rattle.outcomes.specs.Judgements.{full_judged, word_judgements}
use Rattle.outcomes.specs.WordOperations.{junction_says, move_word_run, repeat_word_says, same_class_says, weights_says}
use Rattle.outcomes.specs.TableauOperations.{pair_run, insert_says, word_says, word_run, reading_run, move_tableau_run, repeat_tableau_says, viewer_says, look_says}
use Rattle.outcomes.specs.LineOperations.{tableau_line_run}
use Rattle.outcomes.specs.LineReadings.{output, read_p_run, read_t_run}

-- The bytes of a text.
abbrev pub text : String → List ℕ
text ending = []
text (c ∷ᶜ s) = code c ∷ text s

-- A reply in numbers.
abbrev pub numbers : Said → List ℕ
numbers (gives vs) = 0 ∷ vs
numbers (refused k p) = k ∷ p ∷ []

-- A reply and a lent list after it.
abbrev pub outcome : Said × List ℕ → List ℕ
outcome r = numbers r.0 ++ r.1

-- A reply and two lent lists after it, one behind the other.
abbrev pub outcomes : Said × (List ℕ × List ℕ) → List ℕ
outcomes r = numbers r.0 ++ (r.1.0 ++ r.1.1)

-- A reply and a tableau after it: letters, marks, and all 64 letter counts.
abbrev pub tableau_outcome : Said × (List ℕ × (List ℕ × List ℕ)) → List ℕ
tableau_outcome r = numbers r.0 ++ (r.1.0 ++ (r.1.1.0 ++ r.1.1.1))

-- A reply and a pair after it: letters, marks, recording entries, and all 64 letter counts.
abbrev pub pair_outcome : Said × (Pair × List ℕ) → List ℕ
pair_outcome r = numbers r.0 ++ (r.1.0.letters ++ (r.1.0.marks ++ (r.1.0.recording ++ r.1.1)))

-- The 64 counts of which the first are given, and the others 0.
abbrev pub counts : List ℕ → List ℕ
counts cs = cs ++ replicate (64 - length cs) 0

-- Lent memory of so many elements, each a number that no starred case writes.
abbrev pub lent : ℕ → List ℕ
lent k = replicate k 99

abbrev pub raise : ℕ → Move
raise i = record { side = raising; index = i }

abbrev pub lower : ℕ → Move
lower i = record { side = lowering; index = i }

-- Three lent lists of so many elements.
abbrev pub lent_pair : ℕ → Pair
lent_pair k = pair_with (lent k) (lent k) (lent k)

-- A case: what the definitions give, and what the document says.
pub record Case : Type 0 where
  pub meaning : List ℕ
  pub document : List ℕ

abbrev pub case : List ℕ → List ℕ → Case
case m d = record { meaning = m; document = d }

abbrev pub w4323 : List ℕ
w4323 = 4 ∷ 3 ∷ 2 ∷ 3 ∷ []

abbrev pub w433 : List ℕ
w433 = 4 ∷ 3 ∷ 3 ∷ []

abbrev pub w12446553275 : List ℕ
w12446553275 = 1 ∷ 2 ∷ 4 ∷ 4 ∷ 6 ∷ 5 ∷ 5 ∷ 3 ∷ 2 ∷ 7 ∷ 5 ∷ []

-- Its letters, its marks, with down steps into 3, the first 4 and 6 only, and its recording entries.
abbrev pub x12446553275 : List ℕ
x12446553275 = 1 ∷ 2 ∷ 2 ∷ 3 ∷ 4 ∷ 4 ∷ 5 ∷ 5 ∷ 5 ∷ 6 ∷ 7 ∷ []

abbrev pub m12446553275 : List ℕ
m12446553275 = 0 ∷ 0 ∷ 0 ∷ 1 ∷ 1 ∷ 0 ∷ 0 ∷ 0 ∷ 0 ∷ 1 ∷ 0 ∷ []

abbrev pub r12446553275 : List ℕ
r12446553275 = 1 ∷ 2 ∷ 9 ∷ 8 ∷ 3 ∷ 4 ∷ 6 ∷ 7 ∷ 11 ∷ 5 ∷ 10 ∷ []

-- The letter counts of both.
abbrev pub c4323 : List ℕ
c4323 = counts (0 ∷ 1 ∷ 2 ∷ 1 ∷ [])

abbrev pub c12446553275 : List ℕ
c12446553275 = counts (1 ∷ 2 ∷ 1 ∷ 2 ∷ 3 ∷ 1 ∷ 1 ∷ [])

unfoldable pub starred_cases : List Case
starred_cases =
    -- 4323 at rank 4: the three lines, the first the T items and then the N items of document 01
    case (output (text "W,4,4,4,3,2,3\n")) (text "P,4,4,2,d,3,r,3,d,4,3,2,4,1\nW,4,4,3,2,4,3\nJ,6,3\n")
    -- and so its ribbons, the way back, the column reading, the junction set and the rows; here and below one element lies beyond those needed
    ∷ case (pair_outcome (pair_run 4 w4323 (lent_pair 5) (lent 64)))
    (0 ∷ 4 ∷ 2 ∷ 3 ∷ 3 ∷ 4 ∷ 99 ∷ 0 ∷ 1 ∷ 0 ∷ 1 ∷ 99 ∷ 3 ∷ 2 ∷ 4 ∷ 1 ∷ 99 ∷ c4323)
    ∷ case (outcome (word_run 4 (2 ∷ 3 ∷ 3 ∷ 4 ∷ []) (0 ∷ 1 ∷ 0 ∷ 1 ∷ []) (3 ∷ 2 ∷ 4 ∷ 1 ∷ []) c4323 (lent 5))) (0 ∷ 4 ∷ 4 ∷ 3 ∷ 2 ∷ 3 ∷ 99 ∷ [])
    ∷ case (outcome (reading_run 4 (2 ∷ 3 ∷ 3 ∷ 4 ∷ []) (0 ∷ 1 ∷ 0 ∷ 1 ∷ []) c4323 (lent 5))) (0 ∷ 4 ∷ 3 ∷ 2 ∷ 4 ∷ 3 ∷ 99 ∷ [])
    ∷ case (numbers (junction_says 4 w4323)) (0 ∷ 6 ∷ 3 ∷ [])
    -- 12446553275 at rank 7: letters and marks, recording, and back
    ∷ case (pair_outcome (pair_run 7 w12446553275 (lent_pair 12) (lent 64)))
    (0 ∷ 11 ∷ (x12446553275 ++ 99 ∷ (m12446553275 ++ 99 ∷ (r12446553275 ++ 99 ∷ c12446553275))))
    ∷ case (outcome (word_run 7 x12446553275 m12446553275 r12446553275 c12446553275 (lent 12))) (0 ∷ 11 ∷ (w12446553275 ++ 99 ∷ []))
    -- the empty word at rank 4
    ∷ case (output (text "W,4,0\n")) (text "P,4,0\nW,4,0\nJ,0,0\n")
    -- 433 at rank 4: its tableau, with its recording, and the tableau's line, column reading
    ∷ case (pair_outcome (pair_run 4 w433 (lent_pair 4) (lent 64)))
    (0 ∷ 3 ∷ 3 ∷ 3 ∷ 4 ∷ 99 ∷ 0 ∷ 0 ∷ 1 ∷ 99 ∷ 2 ∷ 3 ∷ 1 ∷ 99 ∷ counts (0 ∷ 0 ∷ 2 ∷ 1 ∷ []))
    ∷ case (outcome (tableau_line_run 4 w433 (lent 17))) (0 ∷ 16 ∷ (text "T,4,3,3,r,3,d,4\n" ++ 99 ∷ []))
    ∷ case (outcome (reading_run 4 (3 ∷ 3 ∷ 4 ∷ []) (0 ∷ 0 ∷ 1 ∷ []) (counts (0 ∷ 0 ∷ 2 ∷ 1 ∷ [])) (lent 4))) (0 ∷ 3 ∷ 3 ∷ 4 ∷ 3 ∷ 99 ∷ [])
    -- 243245565 at rank 6: its recording
    ∷ case (pair_run 6 (2 ∷ 4 ∷ 3 ∷ 2 ∷ 4 ∷ 5 ∷ 5 ∷ 6 ∷ 5 ∷ []) (lent_pair 10) (lent 64)).1.0.recording (1 ∷ 4 ∷ 3 ∷ 2 ∷ 5 ∷ 6 ∷ 7 ∷ 9 ∷ 8 ∷ 99 ∷ [])
    -- moves at rank 3: a move that is made replies 0 and the changed place
    ∷ case (outcome (move_word_run 3 (lower 1) (3 ∷ 1 ∷ 1 ∷ 3 ∷ []))) (0 ∷ 2 ∷ 3 ∷ 1 ∷ 2 ∷ 3 ∷ [])
    ∷ case (outcome (move_word_run 3 (raise 2) (3 ∷ 1 ∷ 2 ∷ 3 ∷ []))) (10 ∷ 0 ∷ 3 ∷ 1 ∷ 2 ∷ 3 ∷ [])
    ∷ case (outcome (move_word_run 3 (lower 2) (3 ∷ 1 ∷ 3 ∷ 1 ∷ []))) (11 ∷ 0 ∷ 3 ∷ 1 ∷ 3 ∷ 1 ∷ [])
    ∷ case (outcome (move_word_run 3 (raise 2) (3 ∷ 1 ∷ 3 ∷ 1 ∷ []))) (0 ∷ 0 ∷ 2 ∷ 1 ∷ 3 ∷ 1 ∷ [])
    ∷ case (outcome (move_word_run 3 (raise 2) (3 ∷ 1 ∷ []))) (0 ∷ 0 ∷ 2 ∷ 1 ∷ [])
    -- classes at rank 4: 1 is yes, 0 is no
    ∷ case (numbers (same_class_says 4 (3 ∷ 2 ∷ 4 ∷ 3 ∷ []) 4 w4323)) (0 ∷ 1 ∷ [])
    ∷ case (numbers (same_class_says 4 (2 ∷ 3 ∷ 3 ∷ 4 ∷ []) 4 w4323)) (0 ∷ 0 ∷ [])
    -- weights: 1 is lower
    ∷ case
    (numbers
    (weights_says 6 (5 ∷ 4 ∷ 2 ∷ 1 ∷ 6 ∷ 4 ∷ 3 ∷ 2 ∷ 5 ∷ 2 ∷ 2 ∷ 4 ∷ []) 6 (4 ∷ 3 ∷ 2 ∷ 1 ∷ 4 ∷ 3 ∷ 2 ∷ 1 ∷ 2 ∷ 1 ∷ 1 ∷ 1 ∷ [])))
    (0 ∷ 1 ∷ [])
    ∷ []

-- Worked examples of the paper beside the starred ones, in the same form.
unfoldable pub worked_cases : List Case
worked_cases =
    -- section 4: the column reading of (4.2), and the cell of its 6, in the fourth row and the seventh column
    case (column_reading (letters_of w12446553275) (marks_of w12446553275)) (1 ∷ 2 ∷ 4 ∷ 3 ∷ 2 ∷ 4 ∷ 5 ∷ 5 ∷ 6 ∷ 5 ∷ 7 ∷ [])
    ∷ case (numbers (look_says 7 (letters_of w12446553275) (marks_of w12446553275) 9)) (0 ∷ 6 ∷ 3 ∷ 6 ∷ [])
    ∷ case (numbers (look_says 7 (letters_of w12446553275) (marks_of w12446553275) 11)) (0 ∷ [])
    -- section 4: the third pair on the way to that of 4323, and the fourth by one insertion
    ∷ case (recording_of (4 ∷ 3 ∷ 2 ∷ [])) (3 ∷ 2 ∷ 1 ∷ [])
    ∷ case (marks_of (4 ∷ 3 ∷ 2 ∷ [])) (0 ∷ 1 ∷ 1 ∷ [])
    ∷ case (insert 3 (pair_of (4 ∷ 3 ∷ 2 ∷ []))).recording (3 ∷ 2 ∷ 4 ∷ 1 ∷ [])
    -- section 5: how often lowering with index 1 can be repeated on 3113, and raising with index 2 on 3123
    ∷ case (numbers (repeat_word_says 3 (lower 1) (3 ∷ 1 ∷ 1 ∷ 3 ∷ []))) (0 ∷ 2 ∷ [])
    ∷ case (numbers (repeat_word_says 3 (raise 2) (3 ∷ 1 ∷ 2 ∷ 3 ∷ []))) (0 ∷ 0 ∷ [])
    -- section 5: 1324 and 3142 are in the same position of their components
    ∷ case (numbers (same_class_says 4 (1 ∷ 3 ∷ 2 ∷ 4 ∷ []) 4 (3 ∷ 1 ∷ 4 ∷ 2 ∷ []))) (0 ∷ 1 ∷ [])
    ∷ []

-- The checked words that are not starred, and one case or more for each refusal number, at first, middle and last places.
unfoldable pub refusal_cases : List Case
refusal_cases =
    -- 1: rank 1 and 64 pass, 0 and 65 do not
    case (numbers (junction_says 1 (1 ∷ []))) (0 ∷ 0 ∷ 1 ∷ [])
    ∷ case (numbers (junction_says 64 (64 ∷ []))) (0 ∷ 0 ∷ 1 ∷ [])
    ∷ case (numbers (junction_says 0 [])) (1 ∷ 0 ∷ [])
    ∷ case (numbers (junction_says 65 (65 ∷ []))) (1 ∷ 0 ∷ [])
    -- 2: length 1,024 passes, 1,025 does not
    ∷ case (numbers (first (word_judgements 1 (replicate 1024 1)) passed)) (0 ∷ [])
    ∷ case (numbers (first (word_judgements 1 (replicate 1025 2)) passed)) (2 ∷ 0 ∷ [])
    -- 3: parts that differ in length; a used count above a buffer
    ∷ case (numbers (viewer_says 4 (1 ∷ 2 ∷ []) (0 ∷ []))) (3 ∷ 0 ∷ [])
    ∷ case (numbers (insert_says 4 2 1 (pair_with (1 ∷ 2 ∷ 3 ∷ []) (0 ∷ 0 ∷ 0 ∷ []) (1 ∷ [])) (counts (1 ∷ 1 ∷ [])))) (3 ∷ 0 ∷ [])
    -- 4: in a word, in a second word, in the letter to be inserted; what the program prints
    ∷ case (numbers (junction_says 4 (3 ∷ 5 ∷ 0 ∷ []))) (4 ∷ 1 ∷ [])
    ∷ case (numbers (same_class_says 4 (1 ∷ 2 ∷ []) 3 (3 ∷ 4 ∷ []))) (4 ∷ 3 ∷ [])
    ∷ case (numbers (insert_says 4 2 5 (pair_with (2 ∷ 1 ∷ 0 ∷ []) (0 ∷ 0 ∷ 0 ∷ []) (1 ∷ 2 ∷ 0 ∷ [])) (counts []))) (4 ∷ 2 ∷ [])
    ∷ case (output (text "W,4,1,5\n")) (text "E,4,0\n")
    -- 5, 6: the later cell; a first mark that is not 0, a mark that is none, down between equals
    ∷ case (numbers (viewer_says 4 (1 ∷ 3 ∷ 2 ∷ []) (1 ∷ 0 ∷ 0 ∷ []))) (5 ∷ 2 ∷ [])
    ∷ case (numbers (viewer_says 4 (1 ∷ 1 ∷ []) (1 ∷ 1 ∷ []))) (6 ∷ 0 ∷ [])
    ∷ case (numbers (viewer_says 4 (1 ∷ 2 ∷ 3 ∷ []) (0 ∷ 1 ∷ 2 ∷ []))) (6 ∷ 2 ∷ [])
    ∷ case (numbers (viewer_says 4 (1 ∷ 1 ∷ 2 ∷ []) (0 ∷ 1 ∷ 2 ∷ []))) (6 ∷ 1 ∷ [])
    -- 7: an entry 0, above L, met before
    ∷ case (numbers (word_says 4 (1 ∷ 2 ∷ []) (0 ∷ 0 ∷ []) (0 ∷ 3 ∷ []) (counts (1 ∷ 1 ∷ [])) 2)) (7 ∷ 0 ∷ [])
    ∷ case (numbers (word_says 4 (1 ∷ 2 ∷ []) (0 ∷ 0 ∷ []) (2 ∷ 3 ∷ []) (counts (1 ∷ 1 ∷ [])) 2)) (7 ∷ 1 ∷ [])
    ∷ case (numbers (word_says 4 (1 ∷ 2 ∷ 2 ∷ []) (0 ∷ 0 ∷ 0 ∷ []) (3 ∷ 1 ∷ 3 ∷ []) (counts (1 ∷ 2 ∷ [])) 3)) (7 ∷ 2 ∷ [])
    -- 8: a rise at a down step, a fall at a right step
    ∷ case (numbers (word_says 4 (1 ∷ 2 ∷ []) (0 ∷ 1 ∷ []) (1 ∷ 2 ∷ []) (counts (1 ∷ 1 ∷ [])) 2)) (8 ∷ 1 ∷ [])
    ∷ case (numbers (word_says 4 (1 ∷ 2 ∷ 2 ∷ []) (0 ∷ 0 ∷ 0 ∷ []) (1 ∷ 3 ∷ 2 ∷ []) (counts (1 ∷ 2 ∷ [])) 3)) (8 ∷ 2 ∷ [])
    -- 9: rank 1 has no move; index 0, and the rank itself; 11 for the empty word
    ∷ case (outcome (move_word_run 1 (lower 1) (1 ∷ []))) (9 ∷ 0 ∷ 1 ∷ [])
    ∷ case (outcome (move_word_run 3 (lower 0) (1 ∷ []))) (9 ∷ 0 ∷ 1 ∷ [])
    ∷ case (numbers (repeat_tableau_says 3 (raise 3) (1 ∷ []) (0 ∷ []) (counts (1 ∷ [])))) (9 ∷ 0 ∷ [])
    ∷ case (outcome (move_word_run 4 (raise 3) [])) (11 ∷ 0 ∷ [])
    -- 10, 11 on a tableau: 3 directly below 2, and 3 right of 2, where two counts change with the letter
    ∷ case (outcomes (move_tableau_run 4 (raise 2) (2 ∷ 3 ∷ []) (0 ∷ 1 ∷ []) (counts (0 ∷ 1 ∷ 1 ∷ [])))) (10 ∷ 0 ∷ 2 ∷ 3 ∷ counts (0 ∷ 1 ∷ 1 ∷ []))
    ∷ case (outcomes (move_tableau_run 4 (raise 2) (2 ∷ 3 ∷ 3 ∷ []) (0 ∷ 0 ∷ 0 ∷ []) (counts (0 ∷ 1 ∷ 2 ∷ []))))
    (0 ∷ 1 ∷ 2 ∷ 2 ∷ 3 ∷ counts (0 ∷ 2 ∷ 1 ∷ []))
    ∷ case (outcomes (move_tableau_run 4 (lower 1) (2 ∷ 3 ∷ []) (0 ∷ 1 ∷ []) (counts (0 ∷ 1 ∷ 1 ∷ [])))) (11 ∷ 0 ∷ 2 ∷ 3 ∷ counts (0 ∷ 1 ∷ 1 ∷ []))
    -- 12, 13: full; the first output that is too short
    ∷ case (numbers (full_judged 1024)) (12 ∷ 1024 ∷ [])
    ∷ case (numbers (insert_says 4 1 3 (pair_with (1 ∷ []) (0 ∷ 0 ∷ []) (1 ∷ 0 ∷ [])) (counts (1 ∷ [])))) (13 ∷ 2 ∷ [])
    ∷ case (pair_outcome (pair_run 4 w4323 (pair_with (lent 4) (lent 4) (lent 3)) [])) (13 ∷ 4 ∷ (lent 4 ++ lent 4 ++ lent 3))
    -- 14: too few letters, and each reader's own first wrong byte
    ∷ case (output (text "W,4,2,3\n")) (text "E,14,7\n")
    ∷ case (output (text "W,99,2,3\n")) (text "E,14,8\n")
    ∷ case (numbers (read_t_run (text "T,4,1,3,r") (9 ∷ []) (9 ∷ []) (lent 64)).0) (14 ∷ 7 ∷ [])
    ∷ case (numbers (read_t_run (text "T,4,2,3,d,3\n") (9 ∷ 9 ∷ []) (9 ∷ 9 ∷ []) (lent 64)).0) (6 ∷ 1 ∷ [])
    ∷ case (numbers (read_p_run (text "P,4,1,3\n") (lent_pair 1) []).0) (14 ∷ 7 ∷ [])
    ∷ case (numbers (read_p_run (text "P,4,3,1,d,2,d,3,1,2,2\n") (lent_pair 3) []).0) (7 ∷ 2 ∷ [])
    ∷ case (pair_outcome (read_p_run (text "P,4,2,1,d,2,2,1\n") (lent_pair 3) (lent 64)))
    (0 ∷ 4 ∷ 2 ∷ 1 ∷ 2 ∷ 99 ∷ 0 ∷ 1 ∷ 99 ∷ 2 ∷ 1 ∷ 99 ∷ counts (1 ∷ 1 ∷ []))
    -- 17: the first wrong count, of the letter 1 and of 3; in insertion over the used letters
    ∷ case (numbers (repeat_tableau_says 4 (raise 2) (2 ∷ 3 ∷ 3 ∷ 4 ∷ []) (0 ∷ 1 ∷ 0 ∷ 1 ∷ []) (counts (1 ∷ 0 ∷ 2 ∷ 1 ∷ [])))) (17 ∷ 0 ∷ [])
    ∷ case (outcomes (move_tableau_run 4 (lower 3) (2 ∷ 3 ∷ 3 ∷ []) (0 ∷ 1 ∷ 0 ∷ []) (counts (0 ∷ 1 ∷ 1 ∷ 1 ∷ []))))
    (17 ∷ 2 ∷ 2 ∷ 3 ∷ 3 ∷ counts (0 ∷ 1 ∷ 1 ∷ 1 ∷ []))
    ∷ case (numbers (insert_says 4 2 1 (pair_with (1 ∷ 2 ∷ 3 ∷ []) (0 ∷ 0 ∷ 0 ∷ []) (1 ∷ 2 ∷ 3 ∷ [])) (counts (1 ∷ 1 ∷ 1 ∷ [])))) (17 ∷ 2 ∷ [])
    ∷ []
