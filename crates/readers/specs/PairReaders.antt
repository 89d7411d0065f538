-- What the reader of P lines replies, and what lent memory holds, from the line that was scanned on.
--     pair_narrowed                              letters as bytes are replied to as the letters
--     letters_room, marks_room, entries_room     memory for items is as long as it was
--     pair_broken, pair_stopped, pair_stored     the line breaks the grammar; its limits are refused; what is said of its values is said of the line
-- T lines are in Readers, W lines in word_readers. Assumes nothing.
use Rattle.std.specs.Prelude.{Result, Ok, Err}
use Rattle.std.specs.Prelude.{ℕ, ◌≤◌, ◌≡◌, refl, false, true, List, [], ◌∷◌, map, length, take}
use Rattle.std.proofs.Common.{sym, ◌∙◌}
use Rattle.std.proofs.lemmas.List.{length-map}
use Rattle.grammar.specs.Reading.{letters, marks}
use Rattle.outcomes.specs.Counts.{counts_of}
use Rattle.hypoplactic.specs.Insertion.{Pair, pair_with}
use Rattle.outcomes.specs.Judgements.{alike_judged, entries_judged, length_judged, letters_judged, marks_judged, pair_rooms, rank_judged, recording_judged, rising_judged}
use Rattle.outcomes.specs.LineReadings.{pair_read, read_p_run}
use Rattle.outcomes.specs.Replies.{Said, first, gives, passed, refused}
use Rattle.outcomes.specs.TableauOperations.{written_pair}
use Rattle.acceptance.specs.Bytes.{narrowed}
use Rattle.refusals.specs.Running.{run-stopped}
use Rattle.refusals.specs.Said.{said_refusal, said_verdict}
use Rattle.refusals.specs.declared.refusal.Refusal.{Refusal}
use Rattle.scans.specs.Kept.{kept}
use Rattle.scans.specs.Kinds.{pair_whole}
use Rattle.scans.specs.PairScans.{PairScanned, read_pair}
use Rattle.scans.specs.Scans.{Scanned, said_cells}
use Rattle.scans.specs.declared.line.Head.{Head}
use Rattle.numerals.specs.declared.numbers.Broken.{Broken}
use Rattle.line_items.specs.Blank.{blank}
use Rattle.line_items.specs.Items as items
use Rattle.line_items.specs.Narrowed.{narrowed_run}
use Rattle.line_items.specs.Limits.{limit_length, limit_part, limit_rank}

-- A pair whose letters are narrowed to bytes is replied to as the pair.
pair_narrowed : (out : Pair) (counts : List ℕ) (n : ℕ) (xs ms rs : List ℕ) → n ≤ 64 → pair_read out counts n (map narrowed xs) ms rs ≡ pair_read out counts n xs ms rs
pair_narrowed out counts n xs ms rs l =
    narrowed_run n xs (λ ws. rank_judged n ∷ length_judged (length ws) ∷ alike_judged (length ws) (length ms ∷ length rs ∷ []) ∷ [])
    (λ ws. rising_judged ws ∷ marks_judged ws ms ∷ entries_judged (length ws) rs ∷ recording_judged rs ms
    ∷ pair_rooms (length ws) (length out.letters) (length out.marks) (length out.recording))
    (λ ws. gives (n ∷ length ws ∷ [])) (λ ws. (written_pair (pair_with ws ms rs) out, counts_of ws)) (out, counts) l (rw (length-map xs narrowed))

module _ {text old_letters old_marks old_entries xs ms rs : List ℕ} {cells entries : List (ℕ × ℕ)} {r : Result Head Broken}
    (s : PairScanned text (read_pair text) cells entries old_letters old_marks old_entries xs ms rs r) where
  -- The cells and the entries, each as the items of a line.
  cells_scanned : Scanned text true (said_cells text cells r) cells old_letters old_marks xs ms r
  cells_scanned = record { told = record { says = refl; within = s.told.within }; long = s.cells_long; letters_are = s.letters_are; marks_are = s.marks_are }

  entries_scanned : Scanned text false (said_cells text entries r) entries old_entries [] rs [] r
  entries_scanned = record { told = record { says = refl; within = s.told.within }; long = s.entries_long; letters_are = s.entries_are; marks_are = refl }

  -- Room for 1,024 letters, marks and entries is as long as it was.
  pub letters_room : old_letters ≡ blank 1024 → length xs ≡ 1024
  letters_room = items.letters_room cells_scanned

  pub marks_room : old_marks ≡ blank 1024 → length ms ≡ 1024
  marks_room = items.marks_room cells_scanned

  pub entries_room : old_entries ≡ blank 1024 → length rs ≡ 1024
  entries_room = items.letters_room entries_scanned

module _ (out_letters out_marks out_entries out_counts : List ℕ) where
  -- The three lent lists.
  abbrev out : Pair
  out = pair_with out_letters out_marks out_entries

  module _ {text old_letters old_marks old_entries xs ms rs : List ℕ} {cells entries : List (ℕ × ℕ)} where
    pub pair_broken : {b : Broken} → PairScanned text (read_pair text) cells entries old_letters old_marks old_entries xs ms rs (Err b)
        → (refused 14 b.place, (out, out_counts)) ≡ read_p_run text out out_counts
    unfolding read_p_run
    pair_broken {b} s = rw (pair_whole text, s.told.says, items.break_place_lem text b.place s.told.within)

    module _ {h : Head} (s : PairScanned text (read_pair text) cells entries old_letters old_marks old_entries xs ms rs (Ok h)) where
      pair_is : read_p_run text out out_counts ≡ pair_read out out_counts h.rank (letters cells) (marks cells) (letters entries)
      unfolding read_p_run
      pair_is = rw (pair_whole text, s.told.says)

      pub pair_stopped : (f : Refusal) → said_verdict (Err f) ≡ first (rank_judged h.rank ∷ length_judged h.count ∷ []) passed
          → (said_refusal f, (out, out_counts)) ≡ read_p_run text out out_counts
      pair_stopped f e =
          let ws = letters cells in
          let us = marks cells in
          let vs = letters entries in
          run-stopped (rank_judged h.rank ∷ length_judged (length ws) ∷ [])
          (alike_judged (length ws) (length us ∷ length vs ∷ []) ∷ letters_judged h.rank ws ∷ rising_judged ws ∷ marks_judged ws us ∷ entries_judged (length ws) vs
          ∷ recording_judged vs us ∷ pair_rooms (length ws) (length out_letters) (length out_marks) (length out_entries))
          (h.rank ∷ length ws ∷ []) (written_pair (pair_with ws us vs) out, counts_of ws) (out, out_counts) f (rw (items.letters_long (cells_scanned s)) e) refl
          ∙ sym pair_is

      pub pair_stored : (bytes : List ℕ) {said : Said × (Pair × List ℕ)} → said_verdict (Ok tt) ≡ first (rank_judged h.rank ∷ length_judged h.count ∷ []) passed
          → old_letters ≡ blank 1024 → old_marks ≡ blank 1024 → old_entries ≡ blank 1024 → bytes ≡ kept (map narrowed (take h.count xs)) (blank 1024)
          → said ≡ pair_read out out_counts h.rank (take h.count bytes) (take h.count ms) (take h.count rs) → said ≡ read_p_run text out out_counts
      pair_stored bytes {said} e l o p a w =
          let is : take h.count bytes ≡ map narrowed (letters cells) =
          items.bytes_all (cells_scanned s) a (limit_part h.rank h.count e xs (letters_room s l)) (limit_length h.rank h.count e) in
          let steps : take h.count ms ≡ marks cells =
          items.kept_all (cells_scanned s) (λ c. c.1) old_marks s.marks_are (limit_part h.rank h.count e ms (marks_room s o)) in
          let places : take h.count rs ≡ letters entries =
          items.kept_all (entries_scanned s) (λ c. c.0) old_entries s.entries_are (limit_part h.rank h.count e rs (entries_room s p)) in
          let named : said ≡ pair_read out out_counts h.rank (map narrowed (letters cells)) (marks cells) (letters entries) = rw (is, steps, places) at w in
          named ∙ pair_narrowed out out_counts h.rank (letters cells) (marks cells) (letters entries) (limit_rank h.rank h.count e) ∙ sym pair_is
