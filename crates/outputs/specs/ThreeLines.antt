-- The three lines of an accepted word: the P line of its pair, the W line of its column reading, its J line.
--     pair_printed, reading_printed, junctions_printed     each line
--     Held n w xs ms rs cs       the three lists and the numbers are the pair and the letter counts of an accepted word
--     pair_held                  what the pair's operation leaves in lists with room for every accepted word
--     three_printed              all lines, each in the part straight after the one before it
--     printing                   the ruleset of the functions that print
-- Assumes nothing.
use Rattle.std.specs.Prelude.{Result, Ok, Err, IsOk}
use Rattle.std.specs.Prelude.{ℕ, ◌+◌, ◌-◌, ◌≤◌, ◌≡◌, List, [], ◌∷◌, ◌++◌, length, take}
use Rattle.std.proofs.Math.Path.{refl}
use Rattle.std.proofs.Common.{ap, ◌∙◌, append_assoc, arith, length-append, rules}
use borrow.Rule.Slice.PartMut.{mid_of, put_mid}
use Rattle.grammar.specs.Lines.{j_line, p_line, w_line}
use Rattle.hypoplactic.specs.Words.{Accepted}
use Rattle.hypoplactic.specs.Insertion.{Pair, letters_of, marks_of, pair_of, pair_with, recording_of}
use Rattle.outcomes.specs.Counts.{TrueCounts, counts_of}
use Rattle.hypoplactic.specs.Junctions.{junction_set, rows_of}
use Rattle.hypoplactic.specs.Reading.{column_reading}
use Rattle.outcomes.specs.Replies.{Said, gives, written}
use Rattle.hypoplactic.specs.Ribbons.{PairAt, TableauAt}
use Rattle.outcomes.specs.TableauOperations.{pair_run, reading_run, written_pair}
use Rattle.outcomes.specs.LineOperations.{j_line_run, p_line_run, pair_line, three_lines, w_line_run}
use Rattle.quasi_crystal.proofs.Theory.Closure.{reading_accepted, word_pair_at, word_tableau_at}
use Rattle.outcomes.proofs.Theory.Counts.{letters-true}
use Rattle.outcomes.proofs.Theory.LineResults.{j_line_result, p_line_result, w_line_result}
use Rattle.outcomes.proofs.Theory.Memory.{written-length, written_needed}
use Rattle.hypoplactic.proofs.Theory.Pairs.{length-letters, length-marks, length_recording}
use Rattle.hypoplactic.proofs.Theory.ReadBack.{reading_length}
use Rattle.outcomes.proofs.Theory.Results.{pair_result, reading_result}
use Rattle.refusals.specs.Outcomes.{wrote_elements, wrote_memory, wrote_refused}
use Rattle.refusals.specs.Said.{said_value}
use Rattle.refusals.specs.declared.refusal.Refusal.{Refusal}
use Rattle.outputs.specs.Printing.{Printed, Ready, wrote_ok, wrote_line, never_printed, then_printed, then_room}

-- ---- one line

-- The P line of a pair,
module _ (n : ℕ) (xs ms rs old now : List ℕ) (a : Result ℕ Refusal) (e : (said_value a, now) ≡ p_line_run n xs ms rs old) (h : PairAt n xs ms rs)
    (r : length (p_line n xs ms rs) ≤ length old) where
  pub pair_ok : IsOk a
  pair_ok = wrote_ok _ _ _ _ (e ∙ p_line_result n xs ms rs old h r)

  pub pair_printed : (k : ℕ) → a ≡ Ok k → Printed (p_line n xs ms rs) old now k
  pair_printed k q = wrote_line _ _ _ _ (e ∙ p_line_result n xs ms rs old h r) k q r

-- the J line of a word,
module _ (n : ℕ) (w old now : List ℕ) (a : Result ℕ Refusal) (e : (said_value a, now) ≡ j_line_run n w old)
    (r : Ready n w (j_line (junction_set w) (rows_of w)) (length old)) where
  pub junctions_ok : IsOk a
  junctions_ok = wrote_ok _ _ _ _ (e ∙ j_line_result n w r.accepted old r.room)

  pub junctions_printed : (k : ℕ) → a ≡ Ok k → Printed (j_line (junction_set w) (rows_of w)) old now k
  junctions_printed k q = wrote_line _ _ _ _ (e ∙ j_line_result n w r.accepted old r.room) k q r.room

-- and the W line of a column reading, which has as many letters as the tableau has cells. It is read into a list with room for every tableau.
module _ (n : ℕ) (xs ms cs zeros reading : List ℕ) (b : Result ℕ Refusal) (f : (said_value b, reading) ≡ reading_run n xs ms cs zeros)
    (h : TableauAt n xs ms) (c : TrueCounts xs cs) (long : 1024 ≤ length zeros) where
  all_read : ◌≡◌ {A = Said × List ℕ} (said_value b, reading) (gives (length xs ∷ []), written (column_reading xs ms) zeros)
  all_read = let short : length xs ≤ 1024 = h.word.short in f ∙ reading_result n xs ms cs h c zeros (omega arith)

  pub reading_ok : IsOk b
  reading_ok = go b refl
    where
      go : (a : Result ℕ Refusal) → b ≡ a → IsOk a
      go (Ok k) g = refl
      go (Err q) g = absurd (wrote_refused b all_read q g)

  module _ (m : ℕ) (g : b ≡ Ok m) where
    pub reading_reach : m ≤ length reading
    reading_reach =
        let short : length xs ≤ 1024 = h.word.short in
        let size : m ≡ length xs = wrote_elements b all_read m g in
        let fits : length (column_reading xs ms) ≤ length zeros = omega (arith, reading_length xs ms h.tableau) in
        rw (wrote_memory b all_read, written-length (column_reading xs ms) zeros fits) (omega arith)

    module _ (old now : List ℕ) (a : Result ℕ Refusal) (e : (said_value a, now) ≡ w_line_run n (take m reading) old)
        (r : length (w_line n (column_reading xs ms)) ≤ length old) where
      reading_line : ◌≡◌ {A = Said × List ℕ} (said_value a, now)
          (gives (length (w_line n (column_reading xs ms)) ∷ []), written (w_line n (column_reading xs ms)) old)
      reading_line =
          let size : m ≡ length (column_reading xs ms) = omega (arith, wrote_elements b all_read m g, reading_length xs ms h.tableau) in
          e ∙ rw (wrote_memory b all_read, size, written_needed (column_reading xs ms) zeros)
          (w_line_result n (column_reading xs ms) (reading_accepted h) old r)

      pub reading_line_ok : IsOk a
      reading_line_ok = wrote_ok _ _ _ _ reading_line

      pub reading_printed : (k : ℕ) → a ≡ Ok k → Printed (w_line n (column_reading xs ms)) old now k
      reading_printed k q = wrote_line _ _ _ _ reading_line k q r

-- ---- the pair of a word

-- Three lists and 64 numbers are the pair and the letter counts of an accepted word.
pub record Held (n : ℕ) (w xs ms rs cs : List ℕ) : Type 0 where
  pub word : Accepted n w
  pub letters : xs ≡ letters_of w
  pub marks : ms ≡ marks_of w
  pub entries : rs ≡ recording_of w
  pub counts : cs ≡ counts_of w

-- They are within the limits.
module _ {n : ℕ} {w xs ms rs cs : List ℕ} (h : Held n w xs ms rs cs) where
  pub held_pair : PairAt n xs ms rs
  held_pair = rw (h.letters, h.marks, h.entries) (word_pair_at h.word)

  pub held_tableau : TableauAt n xs ms
  held_tableau = rw (h.letters, h.marks) (word_tableau_at h.word)

  pub held_counts : TrueCounts xs cs
  held_counts = rw (h.letters, h.counts) (letters-true w)

-- What the pair's operation leaves in lists with room for every accepted word.
module _ (n : ℕ) (w line ls ks js ds xs ms rs cs : List ℕ) (have : ℕ) (made : Result ℕ Refusal)
    (e : (said_value made, (pair_with xs ms rs, cs)) ≡ pair_run n w (pair_with ls ks js) ds) (r : Ready n w line have)
    (long : 1024 ≤ length ls) (long' : 1024 ≤ length ks) (long'' : 1024 ≤ length js) where
  all_made : ◌≡◌ {A = Said × (Pair × List ℕ)} (said_value made, (pair_with xs ms rs, cs))
      (gives (length w ∷ []), (written_pair (pair_of w) (pair_with ls ks js), counts_of w))
  all_made = let short : length w ≤ 1024 = r.accepted.short in e ∙ pair_result n w r.accepted (pair_with ls ks js) ds (omega arith) (omega arith) (omega arith)

  is_letters : xs ≡ written (letters_of w) ls
  is_letters = ap (λ (o : Pair × List ℕ). o.0.letters) (wrote_memory made all_made)

  is_marks : ms ≡ written (marks_of w) ks
  is_marks = ap (λ (o : Pair × List ℕ). o.0.marks) (wrote_memory made all_made)

  is_entries : rs ≡ written (recording_of w) js
  is_entries = ap (λ (o : Pair × List ℕ). o.0.recording) (wrote_memory made all_made)

  pub made_ok : IsOk made
  made_ok = go made refl
    where
      go : (a : Result ℕ Refusal) → made ≡ a → IsOk a
      go (Ok k) g = refl
      go (Err q) g = absurd (wrote_refused made all_made q g)

  module _ (m : ℕ) (g : made ≡ Ok m) where
    size : m ≡ length w
    size = wrote_elements made all_made m g

    -- So many cells can be taken of each,
    pub letters_reach : m ≤ length xs
    letters_reach =
        let short : length w ≤ 1024 = r.accepted.short in
        rw (is_letters, written-length (letters_of w) ls (omega (arith, length-letters w))) (omega (arith, size))

    pub marks_reach : m ≤ length ms
    marks_reach =
        let short : length w ≤ 1024 = r.accepted.short in
        rw (is_marks, written-length (marks_of w) ks (omega (arith, length-marks w))) (omega (arith, size))

    pub entries_reach : m ≤ length rs
    entries_reach =
        let short : length w ≤ 1024 = r.accepted.short in
        rw (is_entries, written-length (recording_of w) js (omega (arith, length_recording w))) (omega (arith, size))

    -- and are the pair.
    pub pair_held : Held n w (take m xs) (take m ms) (take m rs) cs
    pair_held =
        let cells : m ≡ length (letters_of w) = omega (arith, size, length-letters w) in
        let steps : m ≡ length (marks_of w) = omega (arith, size, length-marks w) in
        let places : m ≡ length (recording_of w) = omega (arith, size, length_recording w) in
        record {
          word = r.accepted;
          letters = rw (is_letters, cells) (written_needed (letters_of w) ls);
          marks = rw (is_marks, steps) (written_needed (marks_of w) ks);
          entries = rw (is_entries, places) (written_needed (recording_of w) js);
          counts = ap (λ (o : Pair × List ℕ). o.1) (wrote_memory made all_made);
        }

-- ---- the three lines

-- The three lines of a word whose pair is held.
module _ {n : ℕ} {w xs ms rs cs : List ℕ} (old : List ℕ) (h : Held n w xs ms rs cs) (ready : Ready n w (three_lines n w) (length old)) where
  abbrev first : List ℕ
  first = p_line n xs ms rs

  abbrev second : List ℕ
  second = w_line n (column_reading xs ms)

  abbrev third : List ℕ
  third = j_line (junction_set w) (rows_of w)

  lines : first ++ (second ++ third) ≡ three_lines n w
  unfolding pair_line
  lines = rw (h.letters, h.marks, h.entries) refl

  pub first_room : length first ≤ length old
  first_room = omega (arith, ready.room, ap length lines, length-append first (second ++ third))

  module _ {now : List ℕ} {at end : ℕ} (f : Printed first old now at) (whole : end ≡ length now) where
    pub second_room : length second ≤ length (mid_of at (end - at) now)
    second_room =
        omega (arith, then_room first (second ++ third) old now at end f whole (rw lines ready.room), length-append second third)

    module _ {ys : List ℕ} {k more : ℕ} (g : Printed second (mid_of at (end - at) now) ys k) (all : more ≡ length (put_mid at (end - at) now ys)) where
      two : Printed (first ++ second) old (put_mid at (end - at) now ys) (at + k)
      two = then_printed first second old now at end f whole ys k g

      pub third_ready : Ready n w third (length (mid_of (at + k) (more - (at + k)) (put_mid at (end - at) now ys)))
      third_ready = record {
        accepted = h.word;
        room = then_room (first ++ second) third old _ (at + k) more two all (rw (append_assoc first second third, lines) ready.room);
      }

      pub three_printed : {zs : List ℕ} {j : ℕ} → Printed third (mid_of (at + k) (more - (at + k)) (put_mid at (end - at) now ys)) zs j
          → Printed (three_lines n w) old (put_mid (at + k) (more - (at + k)) (put_mid at (end - at) now ys) zs) (at + k + j)
      three_printed {zs} {j} p =
          rw (← lines, ← (append_assoc first second third)) (then_printed (first ++ second) third old _ (at + k) more two all zs j p)

pub ruleset printing = (
  pair_ok,
  pair_printed,
  junctions_ok,
  junctions_printed,
  reading_ok,
  reading_reach,
  reading_line_ok,
  reading_printed,
  never_printed,
  held_pair,
  held_tableau,
  held_counts,
  made_ok,
  letters_reach,
  marks_reach,
  entries_reach,
  pair_held,
  first_room,
  second_room,
  third_ready,
  three_printed,
  rules,
)
