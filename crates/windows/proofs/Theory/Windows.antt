-- Any sequence of calls on a window (document 02, N8).
--     call_kept             a refused call changes nothing
--     call-held             after a call, accepted or refused, the window is that of the word then in it
--     window-after          so it is after any sequence of calls
--     accepted_word         where no call is refused, this word is of the letters put at the end and not yet taken from the front, in their order
--     window_accepted       so that the window is that of this word
--     full_until_left       a full window refuses a letter until one has left
-- That an empty window is one to begin with is empty_held of Theory.Holds, and that whatever is judged a window is one judged_holds. Assumes nothing.
use Prim.Native.Nat.{ℕ, suc, ◌≤◌}
use native.Mathlib.Omega.{arith}
use mathlib.Core.Path.{◌≡◌, refl, sym, subst, ap, ◌∙◌}
use mathlib.Core.List.{List, [], ◌∷◌}
use lib.ListN.{length}
use Rattle.hypoplactic.specs.Words.{Inside}
use Rattle.hypoplactic.specs.Insertion.{Pair, letters_of, marks_of, pair_of, recording_of}
use Rattle.outcomes.specs.Replies.{Passes, Said, after, gives, refused, written}
use Rattle.outcomes.specs.Counts.{counts_of}
use Rattle.outcomes.specs.Judgements.{room_judged}
use Rattle.outcomes.specs.TableauOperations.{insert_run, pair_run, written_pair}
use Rattle.outcomes.proofs.Theory.Judgements.{full_judged_lem, room_judged_lem}
use Rattle.outcomes.proofs.Theory.Memory.{written-length}
use Rattle.hypoplactic.proofs.Theory.Pairs.{length-letters, length-marks, length_recording}
use Rattle.outcomes.proofs.Theory.Passing.{first_answer, refused_keeps}
use Rattle.windows.specs.Windows.{Call, Holds, NoneRefused, Window, arrival_judgements, arrive, call_run, called, called_word, leave, on_word, on_words, used_after, window_after, word_after}
use Rattle.windows.proofs.Theory.Departures.{depart_kept}
use Rattle.windows.proofs.Theory.Calls.{arrival_full, arrival_said, call_afresh, departure_afresh, inside-passes}
use Rattle.windows.proofs.Theory.Holds.{Fits, fits_rest, holds_stored, pair_fits, pair_written, written_holds}

-- A refused call changes nothing.
pub call_kept : (n : ℕ) (c : Call) (v : Window) (k i : ℕ) → (call_run n c v).0 ≡ refused k i → call_run n c v ≡ (refused k i, (v.pair, v.counts))
unfolding insert_run
call_kept n (arrive a) v k i e = refused_keeps _ k i _ (v.pair, v.counts) e
call_kept n leave v k i e = depart_kept n v.used v.pair v.counts k i e

-- After one call.
pub call-held : (n : ℕ) (c : Call) (v : Window) (w : List ℕ) → Holds n v w → Holds n (called n c v) (called_word n c v w)
call-held n c v w h = go (call_run n c v).0 refl
  where
    -- What is to be shown, of what the call replies and leaves.
    Leaves : Said × (Pair × List ℕ) → Type 0
    Leaves r = Holds n (record { used = used_after r.0 v.used; pair = r.1.0; counts = r.1.1 }) (after r.0 (on_word c w) w)

    go : (s : Said) → (call_run n c v).0 ≡ s → Leaves (call_run n c v)
    go (refused k i) e = subst Leaves (sym (call_kept n c v k i e)) h
    go (gives vs) e =
        let p : Passes (call_run n c v).0 = rw e tt in
        let same = call_afresh n c v w h p in
        let f : Fits n (on_word c w) v.pair = pair_fits n (on_word c w) v.pair v.counts (subst (λ (r : Said × (Pair × List ℕ)). Passes r.0) same p) in
        subst Leaves (sym (same ∙ pair_written n (on_word c w) v.pair v.counts f)) (written_holds n (on_word c w) v.pair f.word)

-- After any sequence of calls the window is what inserting the word in it afresh would leave.
pub window-after : (n : ℕ) (calls : List Call) (v : Window) (w : List ℕ)
    → Holds n v w → Holds n (window_after n calls v) (word_after n calls v w)
window-after n [] v w h = h
window-after n (c ∷ calls) v w h = window-after n calls (called n c v) (called_word n c v w) (call-held n c v w h)

-- Where no call is refused, each has its effect on the word.
pub accepted_word : (n : ℕ) (calls : List Call) (v : Window) (w : List ℕ) → NoneRefused n calls v → word_after n calls v w ≡ on_words calls w
accepted_word n [] v w p = refl
accepted_word n (c ∷ calls) v w p =
    accepted_word n calls (called n c v) (called_word n c v w) p.1 ∙ ap (on_words calls) (given (call_run n c v).0 p.0)
  where
    given : (s : Said) → Passes s → after s (on_word c w) w ≡ on_word c w
    given (gives vs) p = refl
    given (refused k i) p = absurd p

-- So the window is that of the letters put at the end and not yet taken from the front, in their order.
pub window_accepted : (n : ℕ) (calls : List Call) (v : Window) (w : List ℕ) → Holds n v w → NoneRefused n calls v → Holds n (window_after n calls v) (on_words calls w)
window_accepted n calls v w h p = subst (Holds n (window_after n calls v)) (accepted_word n calls v w p) (window-after n calls v w h)

-- A full window refuses a letter, and takes it once the oldest has left.
pub full_until_left : (n : ℕ) (v : Window) (a : ℕ) (w : List ℕ) (b : ℕ) → Holds n v (a ∷ w) → length w ≡ 1023 → Inside n b
    → (call_run n (arrive b) v ≡ (refused 12 1024, (v.pair, v.counts)))
    × (call_run n leave v ≡ pair_run n w v.pair v.counts)
    × ((call_run n (arrive b) (called n leave v)).0 ≡ gives (1024 ∷ []))
full_until_left n v a w b h e i =
    let f : Fits n (a ∷ w) v.pair = ((holds_stored n v (a ∷ w)).0 h).fits in
    let rest : Fits n w v.pair = fits_rest f in
    let u : Window = record { used = length w; pair = written_pair (pair_of w) v.pair; counts = counts_of w } in
    let gone = departure_afresh n v a w h in
    let in_letters = room (letters_of w) v.pair.letters (length-letters w) f.in_letters in
    let in_marks = room (marks_of w) v.pair.marks (length-marks w) f.in_marks in
    let in_recording = room (recording_of w) v.pair.recording (length_recording w) f.in_recording in
    let again : (call_run n (arrive b) u).0 ≡ gives (1024 ∷ []) =
    arrival_said n u w (written_holds n w v.pair rest.word) b
    ∙ first_answer (arrival_judgements n w b u.pair) (gives (suc (length w) ∷ []))
    (rw (inside-passes n b i) tt, ((full_judged_lem (length w)).1 (omega arith), (in_letters, (in_marks, (in_recording, tt)))))
    ∙ ap (λ (k : ℕ). gives (suc k ∷ [])) e in
    (arrival_full n v (a ∷ w) h b (omega arith) i, gone, subst Takes (sym (gone ∙ pair_written n w v.pair v.counts rest)) again)
  where
    -- The letter is taken after what a call replies and leaves.
    Takes : Said × (Pair × List ℕ) → Type 0
    Takes r = (call_run n (arrive b) (record { used = used_after r.0 v.used; pair = r.1.0; counts = r.1.1 })).0 ≡ gives (1024 ∷ [])

    room : (vs old : List ℕ) → length vs ≡ length w → suc (length w) ≤ length old → Passes (room_judged (suc (length w)) (length (written vs old)))
    room vs old s l = (room_judged_lem (suc (length w)) (length (written vs old))).1 (omega (arith, written-length vs old (omega arith)))
