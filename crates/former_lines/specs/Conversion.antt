-- Former lines turned into a P line (document 02, N7): a T text and an N text, which is read only here, beside its T text.
--     former_judgements n xs ms rs    1, 2 of either number of items, 3 where these differ, then 4 to 8
--     second_run k text run old       the reader of a second text: its bytes count on from the k bytes of the first
--     convert_run                     14, 1 to 8, 13: 14 over the T text, then over the N text, former_judgements, 13; gives the bytes of the P line
-- The lines and their grammar are those of the crate grammar, readers of one text those of outcomes. Assumes nothing.
use Rattle.std.specs.Prelude.{ℕ, List, [], ◌∷◌, length}
use Rattle.grammar.specs.Lines.{p_line}
use Rattle.grammar.specs.Reading.{Read, got, broken, read_t, read_n}
use Rattle.outcomes.specs.Replies.{Said, count_on, refused}
use Rattle.outcomes.specs.Judgements.{alike_judged, entries_judged, length_judged, letters_judged, marks_judged, rank_judged, recording_judged, rising_judged}
use Rattle.outcomes.specs.LineOperations.{line_run}
use Rattle.outcomes.specs.LineReadings.{break_place, read_run}

-- The values of a T line, and of an N line, which has a number of items of its own.
abbrev pub former_judgements : ℕ → List ℕ → List ℕ → List ℕ → List Said
former_judgements n xs ms rs =
    rank_judged n ∷ length_judged (length xs) ∷ length_judged (length rs) ∷ alike_judged (length xs) (length ms ∷ length rs ∷ []) ∷ letters_judged n xs
    ∷ rising_judged xs ∷ marks_judged xs ms ∷ entries_judged (length xs) rs ∷ recording_judged rs ms ∷ []

-- A second text: what is replied to its values, or 14 at a byte that counts on from the first text, which leaves lent memory as it was.
abbrev pub second_run : {A B : Type 0} → ℕ → List ℕ → (A → Said × B) → B → Read A → Said × B
second_run k text run old (got a rest) = run a
second_run k text run old (broken rest) = (count_on k (refused 14 (break_place text rest)), old)

-- The values of both lines: their checks, then room for the P line.
abbrev pub converted : List ℕ → ℕ → List ℕ → List ℕ → List ℕ → Said × List ℕ
converted out n xs ms rs = line_run (former_judgements n xs ms rs) (p_line n xs ms rs) out

unfoldable pub convert_run : List ℕ → List ℕ → List ℕ → Said × List ℕ
convert_run t r out = read_run t (λ v. second_run (length t) r (converted out v.0 v.1 v.2) out (read_n r)) out (read_t t)
