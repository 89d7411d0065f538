-- What the writers of lines reply, and what the program prints (document 01, "Lines", "The program").
--     pair_line n w                    the whole P line of the word's tableau and recording ribbon
--     room_run                         13: bytes as they are; gives how many are written, as all writers do
--     w_line_run, tableau_line_run, j_line_run   1 2 4 13
--     t_line_run                        1 to 6, 13
--     p_line_run                        1 to 8, 13
--     e_line_run                        13: the E line of a number and a place
--     three_lines n w                  the three lines that are printed for an accepted word
--     program n w                     the whole output for the values of a W line
-- The lines themselves are those of the crate grammar. What readers say, refusal 14 and the whole output for a text are in LineReadings. Assumes nothing.
use Rattle.std.specs.Prelude.{ℕ, List, [], ◌∷◌, ◌++◌, length}
use Rattle.grammar.specs.Lines.{w_line, t_line, p_line, j_line, e_line}
use Rattle.quasi_crystal.specs.Classes.{tableau_line}
use Rattle.hypoplactic.specs.Insertion.{letters_of, marks_of, recording_of}
use Rattle.hypoplactic.specs.Reading.{column_reading}
use Rattle.hypoplactic.specs.Junctions.{junction_set, rows_of}
use Rattle.outcomes.specs.Replies.{Said, gives, refused, passed, first, ran_to, written}
use Rattle.outcomes.specs.Judgements.{room_judged, word_judgements, tableau_judgements, pair_judgements}

-- The pair line of a word.
unfoldable pub pair_line : ℕ → List ℕ → List ℕ
pair_line n w = p_line n (letters_of w) (marks_of w) (recording_of w)

-- A writer: its checks, then room for the bytes, of which it gives the number; the bytes at the beginning of lent memory.
abbrev pub line_run : List Said → List ℕ → List ℕ → Said × List ℕ
line_run checks bytes out = ran_to (first (checks ++ (room_judged (length bytes) (length out) ∷ [])) (gives (length bytes ∷ []))) (written bytes out) out

-- Bytes of which nothing is to be judged but the room for them.
unfoldable pub room_run : List ℕ → List ℕ → Said × List ℕ
room_run bytes out = line_run [] bytes out

unfoldable pub w_line_run : ℕ → List ℕ → List ℕ → Said × List ℕ
w_line_run n w out = line_run (word_judgements n w) (w_line n w) out

unfoldable pub t_line_run : ℕ → List ℕ → List ℕ → List ℕ → Said × List ℕ
t_line_run n xs ms out = line_run (tableau_judgements n xs ms) (t_line n xs ms) out

unfoldable pub p_line_run : ℕ → List ℕ → List ℕ → List ℕ → List ℕ → Said × List ℕ
p_line_run n xs ms rs out = line_run (pair_judgements n xs ms rs) (p_line n xs ms rs) out

unfoldable pub tableau_line_run : ℕ → List ℕ → List ℕ → Said × List ℕ
tableau_line_run n w out = line_run (word_judgements n w) (tableau_line n w) out

unfoldable pub j_line_run : ℕ → List ℕ → List ℕ → Said × List ℕ
j_line_run n w out = line_run (word_judgements n w) (j_line (junction_set w) (rows_of w)) out

-- The E line of a refusal.
unfoldable pub e_line_run : ℕ → ℕ → List ℕ → Said × List ℕ
e_line_run k p out = line_run [] (e_line k p) out

-- A refusal prints only its E line.
abbrev pub printed : Said → List ℕ → List ℕ
printed (gives vs) lines = lines
printed (refused k p) lines = e_line k p

-- The P line, the W line of the column reading, and the J line of a word.
abbrev pub three_lines : ℕ → List ℕ → List ℕ
three_lines n w = pair_line n w ++ (w_line n (column_reading (letters_of w) (marks_of w)) ++ j_line (junction_set w) (rows_of w))

unfoldable pub program : ℕ → List ℕ → List ℕ
program n w = printed (first (word_judgements n w) passed) (three_lines n w)
