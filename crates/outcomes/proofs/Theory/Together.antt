-- The operations fit together, said of the very definitions that their contracts cite: what one writes another takes, with buffers long enough.
--     word_and_back         the way back gives the word whose pair was taken
--     pair_and_back         the pair of the word of a pair within the limits is that pair
--     reading_and_back      the pair of the column reading of a tableau within the limits has that tableau
--     letter_by_letter      insertion into the pair of a word makes the pair of the word with the letter at its end
--     letter_after_letter   the same of what the operations leave: insertion after the pair of a word is the pair of the longer word
-- The letter counts are those that an operation leaves: of the word, and of the letters read.
-- Assumes nothing.
use Prim.Native.Nat.{ℕ, suc, ◌+◌, ◌-◌, ◌≤◌, ◌<◌}
use native.Mathlib.Omega.{arith}
use mathlib.Core.Path.{◌≡◌, sym, ap, ◌∙◌}
use mathlib.Core.List.{List, [], ◌∷◌, ◌++◌}
use lib.ListN.{length, take, drop}
use lib.Seq.{drop-append-add, drop-drop}
use Rattle.hypoplactic.specs.Words.{Accepted}
use Rattle.hypoplactic.specs.Ribbons.{PairAt, TableauAt}
use Rattle.hypoplactic.specs.Insertion.{Pair, letters_of, marks_of, pair_of, pair_with, recording_of, word_of}
use Rattle.hypoplactic.specs.Reading.{column_reading}
use Rattle.outcomes.specs.Replies.{gives, written}
use Rattle.outcomes.specs.Counts.{counts_of}
use Rattle.outcomes.specs.TableauOperations.{insert_run, pair_run, used_cells, word_run, written_pair}
use Rattle.quasi_crystal.proofs.Theory.Closure.{pair_word_accepted, reading_accepted, word_pair_at}
use Rattle.hypoplactic.proofs.Theory.Correspondence.{pair_of_word, word_of_pair}
use Rattle.outcomes.proofs.Theory.Counts.{letters-counts, letters-true, snoc_counts}
use Rattle.hypoplactic.proofs.Theory.Layers.{within_snoc}
use Rattle.outcomes.proofs.Theory.Memory.{written-length, written_needed}
use Rattle.hypoplactic.proofs.Theory.Pairs.{length-letters, length-marks, length_recording, length_snoc, pair_snoc}
use Rattle.hypoplactic.proofs.Theory.ReadBack.{read_back, reading_length}
use Rattle.outcomes.proofs.Theory.Results.{insert_result, pair_result, word_result}

-- ---- there and back

-- The way back from the ribbons of a word.
pub word_and_back : (n : ℕ) (w out : List ℕ) → Accepted n w → length w ≤ length out
    → word_run n (letters_of w) (marks_of w) (recording_of w) (counts_of w) out ≡ (gives (length w ∷ []), written w out)
word_and_back n w out a l =
    word_result n (letters_of w) (marks_of w) (recording_of w) (counts_of w) out (word_pair_at a) (letters-true w) (rw (length-letters w) l)
    ∙ rw (word_of_pair w, length-letters w)

-- The pair of the word of a pair.
pub pair_and_back : (n : ℕ) (xs ms rs : List ℕ) (p : Pair) (counts : List ℕ) → PairAt n xs ms rs
    → length xs ≤ length p.letters → length xs ≤ length p.marks → length xs ≤ length p.recording
    → pair_run n (word_of xs rs) p counts
    ≡ (gives (length xs ∷ []), (written_pair (pair_with xs ms rs) p, counts_of xs))
pair_and_back n xs ms rs p counts h x y z =
    let (is_letters, is_marks, is_recording) = pair_of_word h.pair in
    let a : Accepted n (word_of xs rs) = pair_word_accepted h in
    let size : length (word_of xs rs) ≡ length xs = sym (length-letters (word_of xs rs)) ∙ ap length is_letters in
    pair_result n (word_of xs rs) a p counts (omega arith) (omega arith) (omega arith)
    ∙ rw (size, ← letters-counts (word_of xs rs), is_letters, is_marks, is_recording)

-- The pair of a column reading: beside the tableau stands the recording ribbon of the reading itself.
pub reading_and_back : (n : ℕ) (xs ms : List ℕ) (p : Pair) (counts : List ℕ) → TableauAt n xs ms
    → length xs ≤ length p.letters → length xs ≤ length p.marks → length xs ≤ length p.recording
    → pair_run n (column_reading xs ms) p counts
    ≡ (gives (length xs ∷ []), (written_pair (pair_with xs ms (recording_of (column_reading xs ms))) p, counts_of xs))
reading_and_back n xs ms p counts h x y z =
    let (is_letters, is_marks) = read_back xs ms h.tableau in
    let size : length (column_reading xs ms) ≡ length xs = reading_length xs ms h.tableau in
    pair_result n (column_reading xs ms) (reading_accepted h) p counts (omega arith) (omega arith) (omega arith)
    ∙ rw (size, ← letters-counts (column_reading xs ms), is_letters, is_marks)

-- ---- letter by letter

-- A list written over a shorter one.
written_over : (us vs old : List ℕ) → length us ≤ length vs → written vs (written us old) ≡ written vs old
written_over us vs old l =
    let more : length us + (length vs - length us) ≡ length vs = omega arith in
    ap (λ (rest : List ℕ). vs ++ rest)
    (rw more at (drop-append-add us (drop (length us) old) (length vs - length us) ∙ drop-drop (length vs - length us) (length us) old))

-- One letter more after a word whose pair stands in the first cells of three lists.
module _ (n a : ℕ) (w : List ℕ) (old : Pair) (h : Accepted n (w ++ (a ∷ []))) (as_letters : length w < length old.letters)
    (as_marks : length w < length old.marks) (as_recording : length w < length old.recording) where
  -- Their used cells are the pair,
  used : (vs old : List ℕ) → length vs ≡ length w → take (length w) (written vs old) ≡ vs
  used vs old e = rw (← e) (written_needed vs old)

  all_used : used_cells (length w) (written_pair (pair_of w) old) ≡ pair_of w
  all_used = rw (used (letters_of w) old.letters (length-letters w), used (marks_of w) old.marks (length-marks w), used (recording_of w) old.recording (length_recording w))

  -- and over it the pair with the letter is written.
  over : (us vs old : List ℕ) → length us ≡ length w → length vs ≡ suc (length w) → written vs (written us old) ≡ written vs old
  over us vs old e f = written_over us vs old (omega arith)

  kept : (vs old : List ℕ) → length vs ≡ length w → length w < length old → length w < length (written vs old)
  kept vs old e l = rw (written-length vs old (omega arith)) l

  pub letter_by_letter : insert_run n (length w) a (written_pair (pair_of w) old) (counts_of w)
      ≡ (gives (suc (length w) ∷ []), (written_pair (pair_of (w ++ (a ∷ []))) old, counts_of (w ++ (a ∷ []))))
  letter_by_letter =
      let v : List ℕ = w ++ (a ∷ []) in
      let size : length v ≡ suc (length w) = length_snoc w a in
      let (within, low, high) = within_snoc n a w h.letters in
      let front : Accepted n w = record { rank_low = h.rank_low; rank_high = h.rank_high; short = omega (arith, h.short); letters = within } in
      let pair : PairAt n (letters_of w) (marks_of w) (recording_of w) = word_pair_at front in
      insert_result n (length w) a (written_pair (pair_of w) old) (counts_of w)
      (rw (used (letters_of w) old.letters (length-letters w), used (marks_of w) old.marks (length-marks w), used (recording_of w) old.recording (length_recording w)) pair)
      (rw (used (letters_of w) old.letters (length-letters w)) (letters-true w))
      (omega (arith, h.short)) (low, high)
      (kept (letters_of w) old.letters (length-letters w) as_letters) (kept (marks_of w) old.marks (length-marks w) as_marks)
      (kept (recording_of w) old.recording (length_recording w) as_recording)
      ∙ rw (
        all_used,
        ← pair_snoc w a,
        snoc_counts w a (low, omega (arith, h.rank_high)),
        over (letters_of w) (letters_of v) old.letters (length-letters w) (length-letters v ∙ size),
        over (marks_of w) (marks_of v) old.marks (length-marks w) (length-marks v ∙ size),
        over (recording_of w) (recording_of v) old.recording (length_recording w) (length_recording v ∙ size),
      )

  -- The same of the memory that the pair's operation left.
  pub letter_after_letter : (counts : List ℕ)
      → insert_run n (length w) a (pair_run n w old counts).1.0 (pair_run n w old counts).1.1 ≡ pair_run n (w ++ (a ∷ [])) old counts
  letter_after_letter counts =
      let v : List ℕ = w ++ (a ∷ []) in
      let size : length v ≡ suc (length w) = length_snoc w a in
      let front : Accepted n w = record { rank_low = h.rank_low; rank_high = h.rank_high; short = omega (arith, h.short); letters = (within_snoc n a w h.letters).0 } in
      rw (pair_result n w front old counts (omega arith) (omega arith) (omega arith), pair_result n v h old counts (omega arith) (omega arith) (omega arith), size)
      letter_by_letter
