-- What the reader of T lines replies, and what lent memory holds, from the line that was scanned on.
--     tableau_broken, tableau-stopped, tableau-stored
--                              the line breaks the grammar; its limits are refused; what is said of its values is said of the line
-- What memory holds of a line that was scanned is said in line_items; P lines are in PairReaders. Assumes nothing.
use Rattle.std.specs.Prelude.{Ok, Err}
use Rattle.std.specs.Prelude.{ℕ, ◌≡◌, true, List, [], ◌∷◌, map, length, take}
use Rattle.std.proofs.Common.{refl, sym, ap, ◌∙◌}
use Rattle.std.proofs.lemmas.List.{length-map}
use Rattle.grammar.specs.Reading.{letters, marks}
use Rattle.outcomes.specs.Counts.{counts_of}
use Rattle.outcomes.specs.Judgements.{alike_judged, length_judged, letters_judged, marks_judged, rank_judged, rising_judged, room_judged}
use Rattle.outcomes.specs.LineReadings.{read_t_run, tableau_read}
use Rattle.outcomes.specs.Replies.{Said, first, gives, passed, refused, written}
use Rattle.refusals.specs.Running.{run-stopped}
use Rattle.refusals.specs.Said.{said_refusal, said_verdict}
use Rattle.refusals.specs.declared.refusal.Refusal.{Refusal}
use Rattle.scans.specs.Kept.{kept}
use Rattle.acceptance.specs.Bytes.{narrowed}
use Rattle.scans.specs.Kinds.{tableau_whole}
use Rattle.line_items.specs.Blank.{blank}
use Rattle.line_items.specs.Items.{break_place_lem, bytes_all, kept_all, letters_long, letters_room, marks_room}
use Rattle.line_items.specs.Limits.{limit_length, limit_part, limit_rank}
use Rattle.line_items.specs.Narrowed.{narrowed_run}
use Rattle.scans.specs.Scans.{Scanned, read_whole}
use Rattle.scans.specs.declared.line.Head.{Head}
use Rattle.numerals.specs.declared.numbers.Broken.{Broken}

module _ {text old_letters old_marks xs ms : List ℕ} {cells : List (ℕ × ℕ)} (out_letters out_marks out_counts : List ℕ) where
  pub tableau_broken : {b : Broken} → Scanned text true (read_whole 84 true true text) cells old_letters old_marks xs ms (Err b)
      → (refused 14 b.place, (out_letters, (out_marks, out_counts))) ≡ read_t_run text out_letters out_marks out_counts
  unfolding read_t_run
  tableau_broken {b} s = rw (tableau_whole text, s.told.says, break_place_lem text b.place s.told.within)

  module _ {h : Head} (s : Scanned text true (read_whole 84 true true text) cells old_letters old_marks xs ms (Ok h)) where
    tableau_is : read_t_run text out_letters out_marks out_counts ≡ tableau_read out_letters out_marks out_counts h.rank (letters cells) (marks cells)
    unfolding read_t_run
    tableau_is = rw (tableau_whole text, s.told.says)

    pub tableau-stopped : (f : Refusal) → said_verdict (Err f) ≡ first (rank_judged h.rank ∷ length_judged h.count ∷ []) passed
        → (said_refusal f, (out_letters, (out_marks, out_counts))) ≡ read_t_run text out_letters out_marks out_counts
    tableau-stopped f e =
        let ws = letters cells in
        let us = marks cells in
        run-stopped (rank_judged h.rank ∷ length_judged (length ws) ∷ [])
        (alike_judged (length ws) (length us ∷ []) ∷ letters_judged h.rank ws ∷ rising_judged ws ∷ marks_judged ws us ∷ room_judged (length ws) (length out_letters)
        ∷ room_judged (length ws) (length out_marks) ∷ [])
        (h.rank ∷ length ws ∷ []) (written ws out_letters, (written us out_marks, counts_of ws)) (out_letters, (out_marks, out_counts)) f (rw (letters_long s) e) refl
        ∙ sym tableau_is

    pub tableau-stored : (bytes : List ℕ) {said : Said × (List ℕ × (List ℕ × List ℕ))} → said_verdict (Ok tt) ≡ first (rank_judged h.rank ∷ length_judged h.count ∷ []) passed
        → old_letters ≡ blank 1024 → old_marks ≡ blank 1024 → bytes ≡ kept (map narrowed (take h.count xs)) (blank 1024)
        → said ≡ tableau_read out_letters out_marks out_counts h.rank (take h.count bytes) (take h.count ms) → said ≡ read_t_run text out_letters out_marks out_counts
    tableau-stored bytes e l o a w =
        let is : take h.count bytes ≡ map narrowed (letters cells) = bytes_all s a (limit_part h.rank h.count e xs (letters_room s l)) (limit_length h.rank h.count e) in
        let steps : take h.count ms ≡ marks cells = kept_all s (λ c. c.1) old_marks s.marks_are (limit_part h.rank h.count e ms (marks_room s o)) in
        w ∙ ap (λ (ws : List ℕ). tableau_read out_letters out_marks out_counts h.rank ws (take h.count ms)) is
        ∙ narrowed_run h.rank (letters cells) (λ ws. rank_judged h.rank ∷ length_judged (length ws) ∷ alike_judged (length ws) (length (take h.count ms) ∷ []) ∷ [])
        (λ ws. rising_judged ws ∷ marks_judged ws (take h.count ms) ∷ room_judged (length ws) (length out_letters) ∷ room_judged (length ws) (length out_marks) ∷ [])
        (λ ws. gives (h.rank ∷ length ws ∷ [])) (λ ws. (written ws out_letters, (written (take h.count ms) out_marks, counts_of ws))) (out_letters, (out_marks, out_counts))
        (limit_rank h.rank h.count e) (rw (length-map (letters cells) narrowed))
        ∙ ap (tableau_read out_letters out_marks out_counts h.rank (letters cells)) steps ∙ sym tableau_is
