-- The departure of the oldest letter: its closed form, and the replies.
--     departs                the pair of the others is the pair with the cell that has the entry 1 taken out
--     first_letter           that cell has the oldest letter
--     oldest_stands          a pair of some cells has such a cell
--     oldest_counted         its letter is one of 1 to 64 and counted
--     cons-counts            the letter counts of a word without its first letter
--     empty-judged           18 passes exactly where a letter is in the window
--     window_passing         the judgements of a window refuse nothing exactly for a window within the limits
--     depart_result          from a window within the limits that has a letter the oldest departs; depart_kept: a refused departure changes nothing
-- Assumes nothing.
use Prim.Native.Nat.{ℕ, suc, ◌+◌, ◌-◌, ◌≤◌, ◌<◌}
use native.Mathlib.Omega.{arith}
use mathlib.Core.Path.{◌≡◌, ap, sym, subst, ◌∙◌}
use mathlib.Core.Bool.{Bool, true, false}
use mathlib.Core.List.{List, [], ◌∷◌, ◌++◌}
use mathlib.Core.Logic.{◌↔◌}
use lib.Dec.{eqb}
use lib.ListN.{drop, get_or, length, take}
use lib.Seq.{get_or-set_same, length-take-le, set-get_or, set-set}
use borrow.Author.Tests.{eqb-false, ne_eqb}
use Rattle.hypoplactic.specs.Words.{Inside, count, tick}
use Rattle.hypoplactic.specs.Ribbons.{PairAt}
use Rattle.hypoplactic.specs.Insertion.{Pair, pair_of, pair_with, word_of}
use Rattle.outcomes.specs.Replies.{Passes, gives, refused}
use Rattle.outcomes.specs.Counts.{TrueCounts, counts_of, one_less, one_more}
use Rattle.outcomes.specs.TableauOperations.{written_pair}
use Rattle.hypoplactic.proofs.Theory.Contents.{within_at}
use Rattle.hypoplactic.proofs.Theory.Correspondence.{pair_of_word}
use Rattle.outcomes.proofs.Theory.Counts.{counts_same, counts_size, snoc_counts}
use Rattle.outcomes.proofs.Theory.Judged.{counted_pair_passing}
use Rattle.outcomes.proofs.Theory.Judgements.{alike-judged, used_judged_lem}
use Rattle.hypoplactic.proofs.Theory.Letters.{count_at}
use Rattle.hypoplactic.proofs.Theory.Occurrences.{count_append}
use Rattle.outcomes.proofs.Theory.Passing.{Passing, passes_test, ran_answer, refused_keeps}
use Rattle.windows.specs.Departures.{WindowAt, depart_run, depart_says, empty_judged, window_judgements, window_word}
use Rattle.windows.specs.Gaps.{closed}
use Rattle.windows.proofs.Theory.Oldest.{oldest_leaves}

-- ---- the closed form

module _ {n : ℕ} {xs ms rs : List ℕ} (h : PairAt n xs ms rs) where
  -- What leaves, and what is left, at the place of the entry 1.
  oldest : (k : ℕ) → k < length rs → get_or rs k 0 ≡ 1
      → (pair_of (drop 1 (word_of xs rs)) ≡ closed k (pair_with xs ms rs)) × (get_or (word_of xs rs) 0 0 ≡ get_or xs k 0)
  oldest k =
      let w : List ℕ = word_of xs rs in
      let (letters, marks, recording) = pair_of_word h.pair in
      let whole : pair_of w ≡ pair_with xs ms rs = λ i. record { letters = letters i; marks = marks i; recording = recording i } in
      subst
      (λ (q : Pair). k < length q.recording → get_or q.recording k 0 ≡ 1
      → (pair_of (drop 1 w) ≡ closed k q) × (get_or w 0 0 ≡ get_or q.letters k 0))
      whole (oldest_leaves w k)

  -- The pair of the word without its first letter: a cell is taken out of the pair.
  pub departs : (k : ℕ) → k < length rs → get_or rs k 0 ≡ 1 → pair_of (drop 1 (word_of xs rs)) ≡ closed k (pair_with xs ms rs)
  departs k l e = (oldest k l e).0

  -- It has the first letter.
  pub first_letter : (k : ℕ) → k < length rs → get_or rs k 0 ≡ 1 → get_or (word_of xs rs) 0 0 ≡ get_or xs k 0
  first_letter k l e = (oldest k l e).1

  -- There is one, if there is any cell,
  pub oldest_stands : 0 < length rs → 0 < count 1 rs
  oldest_stands l = omega (arith, h.pair.recording.once 1 (omega arith) l)

  -- and the letter of a cell is one that is counted.
  pub oldest_counted : (cs : List ℕ) → TrueCounts xs cs → (k : ℕ) → k < length xs → Inside 64 (get_or xs k 0) × (0 < get_or cs (get_or xs k 0 - 1) 0)
  oldest_counted cs t k l =
      let a : ℕ = get_or xs k 0 in
      let (low, high) = within_at n xs k h.word.letters l in
      let is : suc (a - 1) ≡ a = omega arith in
      let top : a ≤ 64 = omega (arith, h.word.rank_high) in
      let held : get_or cs (a - 1) 0 ≡ count a xs = t.entry (a - 1) (omega arith) ∙ ap (λ (b : ℕ). count b xs) is in
      ((low, top), omega (arith, count_at xs k l))

-- ---- words

less_more : (cs : List ℕ) (a : ℕ) → a - 1 < length cs → one_less (one_more cs a) a ≡ cs
less_more cs a l =
    let s : ℕ = a - 1 in
    let less : suc (get_or cs s 0) - 1 ≡ get_or cs s 0 = omega arith in
    rw (get_or-set_same cs s (suc (get_or cs s 0)) 0 l, set-set cs s (suc (get_or cs s 0)) (suc (get_or cs s 0) - 1), less) (set-get_or cs s 0)

-- One less of the first letter.
pub cons-counts : (a : ℕ) (w : List ℕ) → Inside 64 a → one_less (counts_of (a ∷ w)) a ≡ counts_of w
cons-counts a w i =
    let last : counts_of (a ∷ w) ≡ counts_of (w ++ (a ∷ []))
    = counts_same (a ∷ w) (w ++ (a ∷ [])) (λ b. at_end (eqb a b) (count b w) ∙ sym (count_append b w (a ∷ []))) in
    ap (λ (cs : List ℕ). one_less cs a) (last ∙ sym (snoc_counts w a i)) ∙ less_more (counts_of w) a (omega (arith, i, counts_size w))
  where
    at_end : (t : Bool) (c : ℕ) → tick t c ≡ c + tick t 0
    at_end true c = omega arith
    at_end false c = omega arith

-- ---- replies

-- 18: a letter is in the window.
pub empty-judged : (used : ℕ) → Passes (empty_judged used) ↔ (0 < used)
unfolding empty_judged
empty-judged used = passes_test (eqb used 0) 18 0 (λ e. omega (arith, eqb-false used 0 e), λ l. ne_eqb used 0 (λ e. omega arith))

module _ (n used : ℕ) (p : Pair) (cs : List ℕ) where
  -- 1 to 8 and 17 refuse nothing: the used cells are a pair within the limits, with true counts.
  pub window_passing : Passing (window_judgements n used p cs) ↔ WindowAt n used p cs
  window_passing = (there, back)
    where
      there : Passing (window_judgements n used p cs) → WindowAt n used p cs
      there (rank, (short, (held, (letters, (rising, (marks, (counts, (entries, (recording, t))))))))) =
          let xs : List ℕ = take used p.letters in
          let ms : List ℕ = take used p.marks in
          let rs : List ℕ = take used p.recording in
          let (in_letters, (in_marks, (in_recording, t))) = (used_judged_lem used (length p.letters ∷ length p.marks ∷ length p.recording ∷ [])).0 held in
          let as_letters : length xs ≡ used = length-take-le used p.letters in_letters in
          let as_marks : length ms ≡ used = length-take-le used p.marks in_marks in
          let as_recording : length rs ≡ used = length-take-le used p.recording in_recording in
          let alike = (alike-judged (length xs) (length ms ∷ length rs ∷ [])).1 (as_marks ∙ sym as_letters, (as_recording ∙ sym as_letters, tt)) in
          let (cells, right) = (counted_pair_passing n xs ms rs cs).0
          (rank, (rw as_letters short, (alike, (letters, (rising, (marks, (counts, (rw as_letters entries, (recording, tt))))))))) in
          record { cells = cells; counts = right; in_letters = in_letters; in_marks = in_marks; in_recording = in_recording }

      back : WindowAt n used p cs → Passing (window_judgements n used p cs)
      back h =
          let size : length (take used p.letters) ≡ used = length-take-le used p.letters h.in_letters in
          let (rank, (short, (alike, (letters, (rising, (marks, (counts, (entries, (recording, t)))))))))
          = (counted_pair_passing n (take used p.letters) (take used p.marks) (take used p.recording) cs).1 (h.cells, h.counts) in
          let held = (used_judged_lem used (length p.letters ∷ length p.marks ∷ length p.recording ∷ [])).1 (h.in_letters, (h.in_marks, (h.in_recording, tt))) in
          (rank, (rw size at short, (held, (letters, (rising, (marks, (counts, (rw size at entries, (recording, tt)))))))))

  -- From a window that has a letter the oldest departs.
  pub depart_result : WindowAt n used p cs → 0 < used
      → depart_run n used p cs
      ≡ (gives ((used - 1) ∷ []), (written_pair (pair_of (drop 1 (window_word used p))) p, one_less cs (get_or (window_word used p) 0 0)))
  unfolding depart_run depart_says
  depart_result h l = ran_answer (window_judgements n used p cs) (empty_judged used ∷ []) _ _ _ (window_passing.1 h) ((empty-judged used).1 l, tt)

  -- A refused departure changes nothing.
  pub depart_kept : (k i : ℕ) → (depart_run n used p cs).0 ≡ refused k i → depart_run n used p cs ≡ (refused k i, (p, cs))
  unfolding depart_run
  depart_kept k i e = refused_keeps _ k i _ (p, cs) e
