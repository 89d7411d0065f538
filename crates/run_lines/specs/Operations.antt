-- The C line of a tableau and of a word, and what its writers, its reader and the converters reply (document 02, N9).
--     run_line n xs ms       the C line of a tableau: rank, number of cells, the tableau's runs
--     word_run_line n w       the C line of a word: that of its tableau
--     c_line_run              1 to 6, 13: the C line of a tableau; gives how many bytes are written, as all writers do
--     word_run_line_run        1 2 4 13: the C line of a word
--     read_c_run              14 1 2 4 19 20 13: gives rank and number of cells; the letter counts are given too
--     tableau_to_runs_run      14, 1 to 6, 13: a T line turned into the C line of its tableau
--     runs_to_tableau_run      14 1 2 4 19 20 13: a C line turned into the T line of its tableau
-- 13 takes letters and then marks in the reader, and counts bytes in all others. Assumes nothing.
use Rattle.std.specs.Prelude.{ℕ, List, [], ◌∷◌, ◌++◌, length}
use Rattle.grammar.specs.Lines.{Run, c_line, t_line}
use Rattle.grammar.specs.Reading.{read_c, read_t}
use Rattle.hypoplactic.specs.Insertion.{letters_of, marks_of}
use Rattle.outcomes.specs.Counts.{counts_of}
use Rattle.outcomes.specs.Replies.{Said, first, gives, ran_to, written}
use Rattle.outcomes.specs.Judgements.{tableau_judgements, tableau_rooms, word_judgements}
use Rattle.outcomes.specs.LineOperations.{line_run}
use Rattle.outcomes.specs.LineReadings.{read_run}
use Rattle.run_lines.specs.Runs.{run_letters, run_marks, runs_of}
use Rattle.run_lines.specs.Judgements.{run_judgements}

-- The C line of a tableau.
unfoldable pub run_line : ℕ → List ℕ → List ℕ → List ℕ
run_line n xs ms = c_line n (length xs) (runs_of xs ms)

-- The C line of a word.
unfoldable pub word_run_line : ℕ → List ℕ → List ℕ
word_run_line n w = run_line n (letters_of w) (marks_of w)

unfoldable pub c_line_run : ℕ → List ℕ → List ℕ → List ℕ → Said × List ℕ
c_line_run n xs ms out = line_run (tableau_judgements n xs ms) (run_line n xs ms) out

unfoldable pub word_run_line_run : ℕ → List ℕ → List ℕ → Said × List ℕ
word_run_line_run n w out = line_run (word_judgements n w) (word_run_line n w) out

-- The values of a C line: their checks, then room for the letters and the marks of its cells.
abbrev pub runs_read : List ℕ → List ℕ → List ℕ → ℕ → ℕ → List Run → Said × (List ℕ × (List ℕ × List ℕ))
runs_read letters marks counts n L rs =
    ran_to
    (first (run_judgements n L rs ++ tableau_rooms L (length letters) (length marks))
    (gives (n ∷ L ∷ [])))
    (written (run_letters rs) letters, (written (run_marks rs) marks, counts_of (run_letters rs))) (letters, (marks, counts))

unfoldable pub read_c_run : List ℕ → List ℕ → List ℕ → List ℕ → Said × (List ℕ × (List ℕ × List ℕ))
read_c_run text letters marks counts =
    read_run text (λ v. runs_read letters marks counts v.0 v.1 v.2) (letters, (marks, counts)) (read_c text)

-- A T line turned into a C line: what the writer of C lines replies to its values.
unfoldable pub tableau_to_runs_run : List ℕ → List ℕ → Said × List ℕ
tableau_to_runs_run text out = read_run text (λ v. c_line_run v.0 v.1 v.2 out) out (read_t text)

-- The values of a C line as a T line: their checks, then room for its bytes.
abbrev pub runs_turned : List ℕ → ℕ → ℕ → List Run → Said × List ℕ
runs_turned out n L rs = line_run (run_judgements n L rs) (t_line n (run_letters rs) (run_marks rs)) out

-- A C line turned into a T line.
unfoldable pub runs_to_tableau_run : List ℕ → List ℕ → Said × List ℕ
runs_to_tableau_run text out = read_run text (λ v. runs_turned out v.0 v.1 v.2) out (read_c text)
