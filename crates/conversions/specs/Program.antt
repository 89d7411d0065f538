-- The converter and the program, for every accepted word: its W line has at most 4,096 bytes, which the program reads, so nothing is asked of it.
--     former_program      on the word's former lines the converter writes the bytes with which the program's output for the word begins
--     former_halves       that output, cut in two: the former T line's fields and items, then the former N line's items
-- Assumes nothing.
use Rattle.std.specs.Prelude.{ℕ, ◌≤◌, ◌≡◌, List, [], ◌∷◌, ◌++◌, length}
use Rattle.std.proofs.Common.{arith}
use Rattle.grammar.specs.Lines.{field, j_line, n_line, w_line}
use Rattle.grammar.proofs.Theory.Halves.{entries_part, tableau_part}
use Rattle.hypoplactic.specs.Words.{Accepted}
use Rattle.hypoplactic.specs.Insertion.{letters_of, marks_of, recording_of}
use Rattle.hypoplactic.specs.Reading.{column_reading}
use Rattle.hypoplactic.specs.Junctions.{junction_set, rows_of}
use Rattle.outcomes.specs.LineOperations.{pair_line}
use Rattle.quasi_crystal.specs.Classes.{tableau_line}
use Rattle.outcomes.specs.LineReadings.{output}
use Rattle.outcomes.specs.WrittenClasses.{elements}
use Rattle.writers.specs.Lengths.{w_length}
use Rattle.former_lines.specs.Conversion.{convert_run}
use Rattle.former_lines.proofs.Theory.Conversions.{convert_program, output_halves}

pub former_program : (n : ℕ) (w out : List ℕ) → Accepted n w → length (pair_line n w) ≤ length out
    → output (w_line n w)
    ≡ elements (convert_run (tableau_line n w) (n_line (recording_of w)) out).0 (convert_run (tableau_line n w) (n_line (recording_of w)) out).1
    ++ (w_line n (column_reading (letters_of w) (marks_of w)) ++ j_line (junction_set w) (rows_of w))
former_program n w out a room = convert_program n w out a room (omega (arith, w_length a))

pub former_halves : (n : ℕ) (w : List ℕ) → Accepted n w
    → (tableau_line n w ≡ 84 ∷ (tableau_part n (letters_of w) (marks_of w) ++ (10 ∷ [])))
    × (n_line (recording_of w) ≡ 78 ∷ (field (length w) ++ entries_part (recording_of w) ++ (10 ∷ [])))
    × (output (w_line n w)
    ≡ (80 ∷ (tableau_part n (letters_of w) (marks_of w) ++ entries_part (recording_of w) ++ (10 ∷ [])))
    ++ (w_line n (column_reading (letters_of w) (marks_of w)) ++ j_line (junction_set w) (rows_of w)))
former_halves n w a = output_halves n w a (omega (arith, w_length a))
