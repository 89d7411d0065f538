-- The longest output: 16,384 bytes are enough for it.
--     pair_line-short     the pair line of an accepted word has at most 9,141
--     output-short        the output for every text has at most 16,384
--     accepted_output     the W line of an accepted word is short enough to be read, so that its output is the word's three lines
--     three_ready         a buffer of 16,384 bytes is ready for the three lines of an accepted word
-- Assumes nothing.
use Rattle.std.specs.Prelude.{ℕ, ◌^◌, ◌≤◌, ◌<◌, ◌≡◌, List, [], ◌∷◌, ◌++◌, length}
use Rattle.std.proofs.Common.{arith, length-append}
use Rattle.std.proofs.lemmas.Nat.{ones-le}
use Rattle.grammar.specs.Lines.{j_line, w_line}
use Rattle.hypoplactic.specs.Words.{Accepted}
use Rattle.hypoplactic.specs.Insertion.{letters_of, marks_of}
use Rattle.hypoplactic.specs.Junctions.{junction, junction_set, rows_of}
use Rattle.outcomes.specs.LineOperations.{pair_line, three_lines}
use Rattle.outcomes.specs.LineReadings.{Outputs, lines, output, refusal}
use Rattle.hypoplactic.specs.Reading.{column_reading}
use Rattle.hypoplactic.proofs.Theory.Bits.{number-below}
use Rattle.quasi_crystal.proofs.Theory.Closure.{reading_accepted, word_pair_at, word_tableau_at}
use Rattle.outcomes.proofs.Theory.Outputs.{output_accepted, outputs}
use Rattle.writers.specs.Lengths.{e_length, j_length, p_length, w_length}
use Rattle.outputs.specs.Printing.{Ready}

-- The junction set has 64 bits,
set_below : (w : List ℕ) → junction_set w < 2 ^ 64
unfolding junction_set
set_below w = number-below (junction w) 64 1

-- and so there are at most 65 rows.
rows_few : (w : List ℕ) → rows_of w < 100
unfolding rows_of
rows_few [] = omega arith
rows_few (x ∷ xs) = omega (arith, ones-le 64 (junction_set (x ∷ xs)) (set_below (x ∷ xs)))

-- The pair line of an accepted word,
pub pair_line-short : {n : ℕ} {w : List ℕ} → Accepted n w → length (pair_line n w) ≤ 9141
unfolding pair_line
pair_line-short a = p_length (word_pair_at a)

-- and its three lines.
three_short : {n : ℕ} {w : List ℕ} → Accepted n w → length (three_lines n w) ≤ 12249
three_short {n} {w} a =
    let second : List ℕ = w_line n (column_reading (letters_of w) (marks_of w)) in
    let third : List ℕ = j_line (junction_set w) (rows_of w) in
    omega (
      arith,
      length-append (pair_line n w) (second ++ third),
      length-append second third,
      pair_line-short a,
      w_length (reading_accepted (word_tableau_at a)),
      j_length (junction_set w) (rows_of w) (set_below w) (rows_few w),
    )

-- Every output.
pub output-short : (text : List ℕ) → length (output text) ≤ 16384
output-short text = go (outputs text)
  where
    go : Outputs text → length (output text) ≤ 16384
    go (lines n w a t e) = rw e (omega (arith, three_short a))
    go (refusal k p some low high e) = rw e (omega (arith, e_length k p (omega (arith, low)) (omega arith)))

-- The W line of an accepted word is never too long.
pub accepted_output : {n : ℕ} {w : List ℕ} → Accepted n w → output (w_line n w) ≡ three_lines n w
accepted_output a = output_accepted a (omega (arith, w_length a))

-- A buffer of so many bytes is ready for them.
pub three_ready : {n : ℕ} {w : List ℕ} (have : ℕ) → Accepted n w → 16384 ≤ have → Ready n w (three_lines n w) have
three_ready have a l = record { accepted = a; room = omega (arith, three_short a) }
