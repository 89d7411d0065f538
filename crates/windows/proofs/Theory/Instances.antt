-- The laws of a window at some windows, so that none of them asks for what is never so.
--     stream_accepted     no call of a stream is refused; stream-held: so the window is that of its word
--     call-case           a departure and an arrival beside the pair's operation
--     full_case           a window of 1,024 letters, into which a letter comes once one has left
-- Assumes nothing.
use Prim.Native.Nat.{ℕ, zero, suc}
use native.Mathlib.Omega.{arith}
use mathlib.Core.Path.{◌≡◌, refl}
use mathlib.Core.List.{List, [], ◌∷◌}
use lib.ListN.{length, length-replicate, replicate}
use Rattle.outcomes.specs.Counts.{counts_judged, counts_of}
use Rattle.hypoplactic.specs.Insertion.{empty_pair, insert, pair_of, word_of}
use Rattle.outcomes.specs.Judgements.{entries_judged, full_judged, length_judged, letters_judged, marks_judged, rank_judged, recording_judged, rising_judged, room_judged, used_judged}
use Rattle.outcomes.specs.Replies.{gives, refused}
use Rattle.outcomes.specs.TableauOperations.{insert_run, insert_says, pair_run, written_pair}
use Rattle.hypoplactic.specs.Words.{Within}
use Rattle.windows.specs.Departures.{depart_run, depart_says, empty_judged}
use Rattle.windows.specs.Windows.{Holds, NoneRefused, Window, arrive, call_run, called, leave, window_after}
use Rattle.windows.specs.Cases.{empty, of1, of21, stream}
use Rattle.windows.proofs.Theory.Calls.{accepted_afresh}
use Rattle.windows.proofs.Theory.Holds.{empty_held, written_holds}
use Rattle.windows.proofs.Theory.Windows.{full_until_left, window_accepted}

-- No call of the stream is refused,
pub stream_accepted : NoneRefused 3 stream empty
unfolding depart_run depart_says empty_judged insert_run insert_says insert pair_of word_of counts_of counts_judged rank_judged length_judged used_judged letters_judged rising_judged marks_judged entries_judged recording_judged full_judged room_judged
stream_accepted = (tt, (tt, (tt, (tt, tt))))

-- so that the letters that have come and not left are in the window.
pub stream-held : Holds 3 (window_after 3 stream empty) (1 ∷ 3 ∷ [])
unfolding counts_of
stream-held = window_accepted 3 stream empty [] (empty_held 3 empty.pair (omega arith, omega arith)) stream_accepted

-- An accepted call leaves what the pair's operation on the word after it would.
pub call-case : (call_run 3 leave of21 ≡ pair_run 3 (1 ∷ []) of21.pair of21.counts) × (call_run 3 (arrive 3) of1 ≡ pair_run 3 (1 ∷ 3 ∷ []) of1.pair of1.counts)
unfolding depart_run depart_says empty_judged insert_run insert_says insert pair_of word_of counts_of counts_judged rank_judged length_judged used_judged letters_judged rising_judged marks_judged entries_judged recording_judged full_judged room_judged
call-case = (accepted_afresh 3 leave of21 refl tt, accepted_afresh 3 (arrive 3) of1 refl tt)

-- So many letters 1,
abbrev ones : ℕ → List ℕ
ones k = replicate k 1

-- and a full window of them, in lists that have no room beyond.
abbrev full : Window
full = record { used = length (ones 1024); pair = written_pair (pair_of (ones 1024)) empty_pair; counts = counts_of (ones 1024) }

-- It takes a letter again once one has left.
pub full_case : (call_run 1 (arrive 1) full ≡ (refused 12 1024, (full.pair, full.counts)))
    × (call_run 1 leave full ≡ pair_run 1 (ones 1023) full.pair full.counts)
    × ((call_run 1 (arrive 1) (called 1 leave full)).0 ≡ gives (1024 ∷ []))
full_case = full_until_left 1 full 1 (ones 1023) 1 held (size 1023) (omega arith, omega arith)
  where
    size : (k : ℕ) → length (ones k) ≡ k
    size k = length-replicate k 1

    within : (k : ℕ) → Within 1 (ones k)
    within zero = tt
    within (suc k) = (omega arith, omega arith, within k)

    held : Holds 1 full (ones 1024)
    held =
        written_holds 1 (ones 1024) empty_pair
        (record { rank_low = omega arith; rank_high = omega arith; short = omega (arith, size 1024); letters = within 1024 })
