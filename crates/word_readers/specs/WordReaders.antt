-- What the reader of W lines replies, and what lent memory holds, from the line that was scanned on.
--     word_refused, word_passed     values of a word into lent memory, from the verdict of the checks on
--     word_broken, word_stopped, word_stored
--                                   the line breaks the grammar; its limits are refused; what is said of its values is said of the line
-- What memory holds of a line that was scanned is said in line_items. Assumes nothing.
use Rattle.std.specs.Prelude.{Ok, Err}
use Rattle.std.specs.Prelude.{ℕ, ◌≡◌, true, false, List, [], ◌∷◌, map, length, take}
use Rattle.std.proofs.Common.{refl, sym, ap, ◌∙◌}
use Rattle.std.proofs.lemmas.List.{length-map}
use Rattle.grammar.specs.Reading.{letters}
use Rattle.outcomes.specs.Judgements.{length_judged, letters_judged, rank_judged, room_judged, word_judgements}
use Rattle.outcomes.specs.LineReadings.{read_w_run, word_read}
use Rattle.outcomes.specs.Replies.{Said, first, gives, passed, refused, written}
use Rattle.outcomes.proofs.Theory.Judgements.{room_judged_lem}
use Rattle.buffers.specs.Copies.{copied, copied_all}
use Rattle.refusals.specs.Running.{checks_then, run_passed, run_refused, run-stopped, then_passing}
use Rattle.refusals.specs.Said.{said_refusal, said_verdict}
use Rattle.refusals.specs.declared.refusal.Refusal.{Refusal}
use Rattle.scans.specs.Kept.{kept}
use Rattle.scans.specs.Kinds.{word_whole}
use Rattle.scans.specs.Scans.{Scanned, read_whole}
use Rattle.scans.specs.declared.line.Head.{Head}
use Rattle.numerals.specs.declared.numbers.Broken.{Broken}
use Rattle.acceptance.specs.Bytes.{narrowed}
use Rattle.line_items.specs.Items.{break_place_lem, bytes_all, letters_long, letters_room}
use Rattle.line_items.specs.Blank.{blank}
use Rattle.line_items.specs.Limits.{limit_length, limit_part, limit_rank}
use Rattle.line_items.specs.Narrowed.{narrowed_run}

-- ---- the values

-- The verdict of 1, 2, 4 and 13.
module _ (n : ℕ) (ws old : List ℕ) where
  pub word_refused : (r : Refusal) → said_verdict (Err r) ≡ checks_then (word_judgements n ws) (room_judged (length ws) (length old) ∷ [])
      → (said_refusal r, old) ≡ word_read old n ws
  word_refused r e = run_refused _ _ e _ _ old r refl

  pub word_passed : (now : List ℕ) → said_verdict (Ok tt) ≡ checks_then (word_judgements n ws) (room_judged (length ws) (length old) ∷ []) → now ≡ copied ws old
      → (gives (n ∷ length ws ∷ []), now) ≡ word_read old n ws
  word_passed now e h =
      let (checks, (room, t)) = then_passing _ _ e refl in run_passed _ _ e _ _ old now refl (copied_all ws old now h ((room_judged_lem _ _).0 room))

-- ---- the line

module _ {text old_letters old_marks xs ms : List ℕ} {cells : List (ℕ × ℕ)} (out : List ℕ) where
  pub word_broken : {b : Broken} → Scanned text false (read_whole 87 true false text) cells old_letters old_marks xs ms (Err b) → (refused 14 b.place, out) ≡ read_w_run text out
  unfolding read_w_run
  word_broken {b} s = rw (word_whole text, s.told.says, break_place_lem text b.place s.told.within)

  module _ {h : Head} (s : Scanned text false (read_whole 87 true false text) cells old_letters old_marks xs ms (Ok h)) where
    word_is : read_w_run text out ≡ word_read out h.rank (letters cells)
    unfolding read_w_run
    word_is = rw (word_whole text, s.told.says)

    pub word_stopped : (f : Refusal) → said_verdict (Err f) ≡ first (rank_judged h.rank ∷ length_judged h.count ∷ []) passed → (said_refusal f, out) ≡ read_w_run text out
    word_stopped f e =
        let ws = letters cells in
        run-stopped (rank_judged h.rank ∷ length_judged (length ws) ∷ []) (letters_judged h.rank ws ∷ room_judged (length ws) (length out) ∷ []) (h.rank ∷ length ws ∷ [])
        (written ws out) out f (rw (letters_long s) e) refl
        ∙ sym word_is

    pub word_stored : (bytes : List ℕ) {said : Said × List ℕ} → said_verdict (Ok tt) ≡ first (rank_judged h.rank ∷ length_judged h.count ∷ []) passed → old_letters ≡ blank 1024
        → bytes ≡ kept (map narrowed (take h.count xs)) (blank 1024) → said ≡ word_read out h.rank (take h.count bytes) → said ≡ read_w_run text out
    word_stored bytes e l a w =
        let is : take h.count bytes ≡ map narrowed (letters cells) =
        bytes_all s a (limit_part h.rank h.count e xs (letters_room s l)) (limit_length h.rank h.count e) in
        w ∙ ap (word_read out h.rank) is
        ∙ narrowed_run h.rank (letters cells) (λ ws. rank_judged h.rank ∷ length_judged (length ws) ∷ []) (λ ws. room_judged (length ws) (length out) ∷ [])
        (λ ws. gives (h.rank ∷ length ws ∷ [])) (λ ws. written ws out) out (limit_rank h.rank h.count e) (rw (length-map (letters cells) narrowed)) ∙ sym word_is
