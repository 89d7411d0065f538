-- What the readers of lines reply, and what the program prints for a text (document 01, "Lines", "The program").
--     read_w_run     14 1 2 4 13        gives rank and number of letters
--     read_t_run     14, 1 to 6, 13     gives rank and number of cells; the letter counts are given too
--     read_p_run     14, 1 to 8, 13     gives rank and number of cells; the letter counts are given too
--     output text  the program's whole output for its whole input
--     Outputs text the two kinds of output
--     answer_run    the output into lent memory, 13 where it is too short
-- The grammar, which knows no places, is that of the crate grammar. N lines are read only beside their T line: former_lines. Assumes nothing.
use Rattle.std.specs.Prelude.{ℕ, ◌-◌, ◌≤◌, ◌≡◌, List, [], ◌∷◌, ◌++◌, cond, ltb, length}
use Rattle.grammar.specs.Lines.{e_line, w_line}
use Rattle.grammar.specs.Reading.{Read, got, broken, read_w, read_t, read_p}
use Rattle.hypoplactic.specs.Words.{Accepted}
use Rattle.hypoplactic.specs.Insertion.{Pair, pair_with}
use Rattle.outcomes.specs.Replies.{Said, gives, refused, first, ran_to, written}
use Rattle.outcomes.specs.Counts.{counts_of}
use Rattle.outcomes.specs.Judgements.{room_judged, pair_rooms, tableau_rooms, word_judgements, tableau_judgements, pair_judgements}
use Rattle.outcomes.specs.TableauOperations.{written_pair}
use Rattle.outcomes.specs.LineOperations.{three_lines, line_run, program}

-- The place of the byte from which on a text is left: its length less what is left.
abbrev pub break_place : List ℕ → List ℕ → ℕ
break_place text rest = length text - length rest

-- A reader: what is replied to the values of a line, or 14, which leaves lent memory as it was.
abbrev pub read_run : {A B : Type 0} → List ℕ → (A → Said × B) → B → Read A → Said × B
read_run text run old (got a rest) = run a
read_run text run old (broken rest) = (refused 14 (break_place text rest), old)

-- The values of a W line: the checks of a word, then room for it.
abbrev pub word_read : List ℕ → ℕ → List ℕ → Said × List ℕ
word_read out n ws =
    ran_to (first (word_judgements n ws ++ (room_judged (length ws) (length out) ∷ [])) (gives (n ∷ length ws ∷ []))) (written ws out) out

unfoldable pub read_w_run : List ℕ → List ℕ → Said × List ℕ
read_w_run text out = read_run text (λ v. word_read out v.0 v.1) out (read_w text)

-- The values of a T line: the checks of a tableau, then room for its letters and its marks.
abbrev pub tableau_read : List ℕ → List ℕ → List ℕ → ℕ → List ℕ → List ℕ → Said × (List ℕ × (List ℕ × List ℕ))
tableau_read letters marks counts n xs ms =
    ran_to
    (first (tableau_judgements n xs ms ++ tableau_rooms (length xs) (length letters) (length marks))
    (gives (n ∷ length xs ∷ [])))
    (written xs letters, (written ms marks, counts_of xs)) (letters, (marks, counts))

unfoldable pub read_t_run : List ℕ → List ℕ → List ℕ → List ℕ → Said × (List ℕ × (List ℕ × List ℕ))
read_t_run text letters marks counts =
    read_run text (λ v. tableau_read letters marks counts v.0 v.1 v.2) (letters, (marks, counts)) (read_t text)

-- The values of a P line: the checks of a pair, then room for its three lists.
abbrev pub pair_read : Pair → List ℕ → ℕ → List ℕ → List ℕ → List ℕ → Said × (Pair × List ℕ)
pair_read p counts n xs ms rs =
    ran_to
    (first (pair_judgements n xs ms rs ++ pair_rooms (length xs) (length p.letters) (length p.marks) (length p.recording))
    (gives (n ∷ length xs ∷ [])))
    (written_pair (pair_with xs ms rs) p, counts_of xs) (p, counts)

unfoldable pub read_p_run : List ℕ → Pair → List ℕ → Said × (Pair × List ℕ)
read_p_run text p counts = read_run text (λ v. pair_read p counts v.0 v.1 v.2 v.3) (p, counts) (read_p text)

-- What is printed for a text that was read as a W line.
abbrev pub printed_for : List ℕ → Read (ℕ × List ℕ) → List ℕ
printed_for text (got v rest) = program v.0 v.1
printed_for text (broken rest) = e_line 14 (break_place text rest)

-- The program's whole output for its whole input: more than 4,096 bytes are refused at the first byte too many, whatever they are.
unfoldable pub output : List ℕ → List ℕ
output text = cond (ltb 4096 (length text)) (e_line 14 4096) (printed_for text (read_w text))

-- The two kinds of output: the three lines of the accepted word that the text holds, or one E line, its number 1 to 14 and its place at most 4,096.
pub data Outputs (text : List ℕ) : Type 0 where
  lines : (n : ℕ) (w : List ℕ) → Accepted n w → text ≡ w_line n w → output text ≡ three_lines n w → Outputs text
  refusal : (k p : ℕ) → 1 ≤ k → k ≤ 14 → p ≤ 4096 → output text ≡ e_line k p → Outputs text

-- The output into lent memory. Nothing but room is judged: a refusal of the text is itself printed.
unfoldable pub answer_run : List ℕ → List ℕ → Said × List ℕ
answer_run text out = line_run [] (output text) out
