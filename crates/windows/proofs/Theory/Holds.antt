-- What it is to be the window of a word: inserting its letters afresh leaves it as it is.
--     Fits n w p           a word accepted at rank n, and room for it in three lists
--     fits_rest            a word that fits fits without its first letter
--     pair_fits            a word that the pair's operation takes fits; pair_written: what it then replies and leaves
--     Stored n v w         the used cells are the pair of w, and the counts its counts
--     holds_stored         so it is with the window of w, and only with it
--     written_holds        what the pair's operation leaves is the window of the word; empty_held: of no letter
--     holds_cells          its used cells are the pair of the word
--     holds_at             the window of a word is a window within the limits, and holds_judged: judged so
--     holds_word           its word is that word
--     judged_holds         what is judged a window is the window of its word
-- Assumes nothing.
use Prim.Native.Nat.{ℕ, ◌≤◌}
use native.Mathlib.Omega.{arith}
use mathlib.Core.Path.{◌≡◌, refl, ap, sym, subst, ◌∙◌}
use mathlib.Core.Logic.{◌↔◌}
use mathlib.Core.List.{List, [], ◌∷◌, ◌++◌}
use lib.ListN.{length, length-append, drop, take, take-append-drop}
use lib.Seq.{length-take-le}
use Rattle.hypoplactic.specs.Words.{Accepted, Inside}
use Rattle.hypoplactic.specs.Ribbons.{PairAt}
use Rattle.hypoplactic.specs.Insertion.{Pair, letters_of, marks_of, pair_of, recording_of, word_of}
use Rattle.outcomes.specs.Replies.{Passes, Said, gives, written}
use Rattle.outcomes.specs.Counts.{TrueCounts, counts_of}
use Rattle.outcomes.specs.Judgements.{pair_rooms, word_judgements}
use Rattle.outcomes.specs.TableauOperations.{pair_run, pair_says, used_cells, written_pair}
use Rattle.quasi_crystal.proofs.Theory.Closure.{word_pair_at}
use Rattle.hypoplactic.proofs.Theory.Correspondence.{word_of_pair}
use Rattle.outcomes.proofs.Theory.Counts.{counts_whole, letters-true}
use Rattle.outcomes.proofs.Theory.Judged.{word_passing}
use Rattle.outcomes.proofs.Theory.Judgements.{room_judged_lem}
use Rattle.outcomes.proofs.Theory.Memory.{written_beyond, written_needed}
use Rattle.hypoplactic.proofs.Theory.Pairs.{length-letters, length-marks, length_recording}
use Rattle.outcomes.proofs.Theory.Passing.{Passing, passing_first}
use Rattle.outcomes.proofs.Theory.Results.{pair_result}
use Rattle.outcomes.proofs.Theory.Together.{pair_and_back}
use Rattle.windows.specs.Departures.{WindowAt, window_judgements, window_word}
use Rattle.windows.specs.Windows.{Holds, Window, used_after}
use Rattle.windows.proofs.Theory.Departures.{window_passing}

-- ---- a word in three lists

-- An accepted word, and room for its pair.
pub record Fits (n : ℕ) (w : List ℕ) (p : Pair) : Type 0 where
  pub word : Accepted n w
  pub in_letters : length w ≤ length p.letters
  pub in_marks : length w ≤ length p.marks
  pub in_recording : length w ≤ length p.recording

-- So without its first letter.
pub fits_rest : {n a : ℕ} {w : List ℕ} {p : Pair} → Fits n (a ∷ w) p → Fits n w p
fits_rest f = record {
  word = record { rank_low = f.word.rank_low; rank_high = f.word.rank_high; short = omega (arith, f.word.short); letters = f.word.letters.2 };
  in_letters = omega (arith, f.in_letters);
  in_marks = omega (arith, f.in_marks);
  in_recording = omega (arith, f.in_recording);
}

module _ (n : ℕ) (w : List ℕ) (p : Pair) (cs : List ℕ) where
  -- A word that is not refused fits,
  pub pair_fits : Passes (pair_run n w p cs).0 → Fits n w p
  unfolding pair_run pair_says
  pair_fits h =
      let rooms : List Said = pair_rooms (length w) (length p.letters) (length p.marks) (length p.recording) in
      let (rank, (short, (letters, (x, (y, (z, t)))))) = passing_first (word_judgements n w ++ rooms) (length w ∷ []) h in
      record {
        word = (word_passing n w).0 (rank, (short, (letters, tt)));
        in_letters = (room_judged_lem _ _).0 x;
        in_marks = (room_judged_lem _ _).0 y;
        in_recording = (room_judged_lem _ _).0 z;
      }

  -- and its pair and counts are written.
  pub pair_written : Fits n w p → pair_run n w p cs ≡ (gives (length w ∷ []), (written_pair (pair_of w) p, counts_of w))
  pair_written f = pair_result n w f.word p cs f.in_letters f.in_marks f.in_recording

-- ---- the window of a word

-- Its pair stands in the used cells, beside its counts.
pub record Stored (n : ℕ) (v : Window) (w : List ℕ) : Type 0 where
  pub fits : Fits n w v.pair
  pub size : v.used ≡ length w
  pub pair : written_pair (pair_of w) v.pair ≡ v.pair
  pub counts : counts_of w ≡ v.counts

-- So it is exactly where inserting the word afresh changes nothing.
pub holds_stored : (n : ℕ) (v : Window) (w : List ℕ) → Holds n v w ↔ Stored n v w
holds_stored n v w = (there, back)
  where
    there : Holds n v w → Stored n v w
    there h =
        let f : Fits n w v.pair = pair_fits n w v.pair v.counts (subst (λ (r : Said × (Pair × List ℕ)). Passes r.0) (sym h) tt) in
        let same = sym (pair_written n w v.pair v.counts f) ∙ h in
        record {
          fits = f;
          size = ap (λ (r : Said × (Pair × List ℕ)). used_after r.0 0) (sym same);
          pair = ap (λ (r : Said × (Pair × List ℕ)). r.1.0) same;
          counts = ap (λ (r : Said × (Pair × List ℕ)). r.1.1) same;
        }

    back : Stored n v w → Holds n v w
    back f = pair_written n w v.pair v.counts f.fits ∙ (λ i. (gives (sym f.size i ∷ []), (f.pair i, f.counts i)))

written_twice : (vs old : List ℕ) → written vs (written vs old) ≡ written vs old
written_twice vs old = ap (λ (rest : List ℕ). vs ++ rest) (written_beyond vs old)

written_room : (k : ℕ) (vs old : List ℕ) → length vs ≡ k → k ≤ length (written vs old)
written_room k vs old e = omega (arith, length-append vs (drop (length vs) old))

-- What the pair's operation leaves is the window of the word.
pub written_holds : (n : ℕ) (w : List ℕ) (p : Pair) → Accepted n w
    → Holds n (record { used = length w; pair = written_pair (pair_of w) p; counts = counts_of w }) w
written_holds n w p a = (holds_stored n (record { used = length w; pair = written_pair (pair_of w) p; counts = counts_of w }) w).1 (record {
  fits = record {
    word = a;
    in_letters = written_room (length w) (letters_of w) p.letters (length-letters w);
    in_marks = written_room (length w) (marks_of w) p.marks (length-marks w);
    in_recording = written_room (length w) (recording_of w) p.recording (length_recording w);
  };
  size = refl;
  pair = λ i. record {
    letters = written_twice (letters_of w) p.letters i;
    marks = written_twice (marks_of w) p.marks i;
    recording = written_twice (recording_of w) p.recording i;
  };
  counts = refl;
})

-- No letter is in an empty window, whatever its lists.
pub empty_held : (n : ℕ) (p : Pair) → Inside 64 n → Holds n (record { used = 0; pair = p; counts = counts_of [] }) []
unfolding pair_of
empty_held n p i = written_holds n [] p (record { rank_low = i.0; rank_high = i.1; short = omega arith; letters = tt })

-- ---- the used cells

module _ (n : ℕ) (v : Window) (w : List ℕ) (h : Holds n v w) where
  stored : Stored n v w
  stored = (holds_stored n v w).0 h

  front : (vs old : List ℕ) → length vs ≡ length w → written vs old ≡ old → take v.used old ≡ vs
  front vs old e f = rw (stored.size, ← e) (sym (ap (take (length vs)) f) ∙ written_needed vs old)

  -- They are the pair of the word.
  pub holds_cells : used_cells v.used v.pair ≡ pair_of w
  holds_cells = λ i. record {
    letters = front (letters_of w) v.pair.letters (length-letters w) (ap (λ (p : Pair). p.letters) stored.pair) i;
    marks = front (marks_of w) v.pair.marks (length-marks w) (ap (λ (p : Pair). p.marks) stored.pair) i;
    recording = front (recording_of w) v.pair.recording (length_recording w) (ap (λ (p : Pair). p.recording) stored.pair) i;
  }

  -- The window is one within the limits,
  pub holds_at : WindowAt n v.used v.pair v.counts
  holds_at = record {
    cells = subst (λ (p : Pair). PairAt n p.letters p.marks p.recording) (sym holds_cells) (word_pair_at stored.fits.word);
    counts = subst (λ (p : Pair). TrueCounts p.letters v.counts) (sym holds_cells) (rw (← stored.counts) (letters-true w));
    in_letters = rw stored.size stored.fits.in_letters;
    in_marks = rw stored.size stored.fits.in_marks;
    in_recording = rw stored.size stored.fits.in_recording;
  }

  -- so that it is judged one,
  pub holds_judged : Passing (window_judgements n v.used v.pair v.counts)
  holds_judged = (window_passing n v.used v.pair v.counts).1 holds_at

  -- and its word is that word.
  pub holds_word : window_word v.used v.pair ≡ w
  holds_word = ap (λ (p : Pair). word_of p.letters p.recording) holds_cells ∙ word_of_pair w

-- What is judged a window is the window of its word.
pub judged_holds : (n : ℕ) (v : Window) → length v.counts ≡ 64 → Passing (window_judgements n v.used v.pair v.counts)
    → Holds n v (window_word v.used v.pair)
judged_holds n v e j =
    let h : WindowAt n v.used v.pair v.counts = (window_passing n v.used v.pair v.counts).0 j in
    let as_letters = length-take-le v.used v.pair.letters h.in_letters in
    let as_marks = length-take-le v.used v.pair.marks h.in_marks in
    let as_recording = length-take-le v.used v.pair.recording h.in_recording in
    pair_and_back n (take v.used v.pair.letters) (take v.used v.pair.marks) (take v.used v.pair.recording) v.pair v.counts
    h.cells (omega (arith, h.in_letters)) (omega (arith, h.in_marks)) (omega (arith, h.in_recording))
    ∙ (λ i. (
      gives (as_letters i ∷ []),
      (
        record {
          letters = whole v.pair.letters as_letters i;
          marks = whole v.pair.marks as_marks i;
          recording = whole v.pair.recording as_recording i;
        },
        sym (counts_whole (take v.used v.pair.letters) v.counts e h.counts) i,
      ),
    ))
  where
    whole : (xs : List ℕ) → length (take v.used xs) ≡ v.used → written (take v.used xs) xs ≡ xs
    whole xs e = rw e (take-append-drop v.used xs)
