-- One call on a window (document 02, N8): what it says, and that it leaves what inserting the letters afresh would.
--     inside-passes           a letter of the rank is not outside it
--     judged_as_insertion     a window is judged as insertion of a letter of the rank judges it
--     departure_said          a departure from the window of a word: 18, else one cell less
--     departure_afresh        the oldest letter departs: the reply and all memory are those of the pair's operation on the other letters
--     departure_empty         18 where there is none
--     arrival_said            an arrival at the window of a word: 4 at the place after the word, 12, 13, else one cell more
--     arrival_afresh          a letter arrives: those of the pair's operation on the word with it at its end, also where it is refused
--     arrival_full            12 in a window of 1,024 letters
--     call_afresh             so with every accepted call on the window of a word; accepted_afresh: on whatever memory, by its own word
-- Assumes nothing.
use Prim.Native.Nat.{ℕ, suc, ◌+◌, ◌-◌, ◌<◌}
use native.Mathlib.Omega.{arith}
use native.Mathlib.Nat.{add-zero, zero-add}
use mathlib.Core.Path.{◌≡◌, refl, ap, sym, subst, ◌∙◌}
use mathlib.Core.Bool.{false}
use mathlib.Core.List.{List, [], ◌∷◌, ◌++◌}
use lib.ListN.{drop, get_or, length, take}
use lib.Seq.{length-take-le}
use borrow.Author.Tests.{le-ltb}
use Rattle.hypoplactic.specs.Words.{Accepted, Inside, Within}
use Rattle.hypoplactic.specs.Insertion.{Pair, insert, pair_of}
use Rattle.outcomes.specs.Replies.{Passes, Said, first, gives, or_else, ran_to, refuse_if, refused}
use Rattle.outcomes.specs.Counts.{counts_judged, counts_of, one_less, one_more}
use Rattle.outcomes.specs.Judgements.{entries_judged, full_judged, length_judged, letters_from, letters_judged, marks_judged, outside, pair_rooms, rank_judged, recording_judged, rising_judged, used_judged}
use Rattle.outcomes.specs.TableauOperations.{insert_judgements, insert_run, insert_says, pair_run, pair_says, used_cells, written_pair}
use Rattle.outcomes.proofs.Theory.Counts.{snoc_counts}
use Rattle.outcomes.proofs.Theory.Judgements.{full_judged_lem, length-judged, letters-judged, rank_judged_lem}
use Rattle.hypoplactic.proofs.Theory.Layers.{within_snoc}
use Rattle.hypoplactic.proofs.Theory.Pairs.{length_snoc, pair_snoc}
use Rattle.outcomes.proofs.Theory.Passing.{Passing, first_past, passing_before, passing_first, refused_keeps}
use Rattle.windows.specs.Departures.{depart_run, depart_says, empty_judged, window_judgements, window_word}
use Rattle.windows.specs.Windows.{Call, Holds, Window, arrival_judgements, arrive, call_run, leave, on_word}
use Rattle.windows.proofs.Theory.Departures.{cons-counts, depart_kept, depart_result}
use Rattle.windows.proofs.Theory.Holds.{Stored, fits_rest, holds_at, holds_cells, holds_judged, holds_stored, holds_word, judged_holds, pair_fits, pair_written}

-- ---- 4 of one letter more

-- A letter of the rank passes.
pub inside-passes : (n x : ℕ) → Inside n x → outside n x ≡ false
inside-passes n x (low, high) = rw (le-ltb x 1 low, le-ltb n x high)

-- A letter of the rank is no refusal more,
letters-inside : (n i a : ℕ) (xs : List ℕ) → Inside n a → letters_from n i (xs ++ (a ∷ [])) ≡ letters_from n i xs
letters-inside n i a [] h = rw (inside-passes n a h)
letters-inside n i a (x ∷ xs) h = ap (refuse_if (outside n x) 4 i) (letters-inside n (suc i) a xs h)

-- and after letters of the rank only the last is judged.
letters-end : (n i a : ℕ) (xs : List ℕ) → Within n xs → letters_from n i (xs ++ (a ∷ [])) ≡ letters_from n (i + length xs) (a ∷ [])
letters-end n i a [] h = rw (add-zero i)
letters-end n i a (x ∷ xs) h =
    let on : suc i + length xs ≡ i + suc (length xs) = omega arith in
    rw (inside-passes n x (h.0, h.1)) (rw on at (letters-end n (suc i) a xs h.2))

-- A window is judged as insertion judges it.
pub judged_as_insertion : (n used a : ℕ) (p : Pair) (cs : List ℕ) → Inside n a → insert_judgements n used a p cs ≡ window_judgements n used p cs
unfolding letters_judged
judged_as_insertion n used a p cs h = rw (letters-inside n 0 a (take used p.letters) h)

-- ---- departures

-- From the window of a word: 18, else one cell less is used.
pub departure_said : (n : ℕ) (v : Window) (w : List ℕ) → Holds n v w
    → (depart_run n v.used v.pair v.counts).0 ≡ first (empty_judged (length w) ∷ []) (gives ((length w - 1) ∷ []))
unfolding depart_run depart_says
departure_said n v w h =
    first_past (window_judgements n v.used v.pair v.counts) (empty_judged v.used ∷ []) (gives ((v.used - 1) ∷ [])) (holds_judged n v w h)
    ∙ rw ((holds_stored n v w).0 h).size

-- The oldest letter departs: so the others are inserted afresh.
pub departure_afresh : (n : ℕ) (v : Window) (a : ℕ) (w : List ℕ) → Holds n v (a ∷ w)
    → depart_run n v.used v.pair v.counts ≡ pair_run n w v.pair v.counts
departure_afresh n v a w h =
    let f : Stored n v (a ∷ w) = (holds_stored n v (a ∷ w)).0 h in
    let b : Accepted n (a ∷ w) = f.fits.word in
    let word : window_word v.used v.pair ≡ a ∷ w = holds_word n v (a ∷ w) h in
    let size : v.used - 1 ≡ length w = omega (arith, f.size) in
    let counts : one_less v.counts (get_or (window_word v.used v.pair) 0 0) ≡ counts_of w
    = (λ i. one_less (sym f.counts i) (get_or (word i) 0 0)) ∙ cons-counts a w (b.letters.0, omega (arith, b.letters.1, b.rank_high)) in
    depart_result n v.used v.pair v.counts (holds_at n v (a ∷ w) h) (omega (arith, f.size))
    ∙ (λ i. (gives (size i ∷ []), (written_pair (pair_of (drop 1 (word i))) v.pair, counts i)))
    ∙ sym (pair_written n w v.pair v.counts (fits_rest f.fits))

-- 18: no letter is there to depart.
pub departure_empty : (n : ℕ) (v : Window) → Holds n v [] → depart_run n v.used v.pair v.counts ≡ (refused 18 0, (v.pair, v.counts))
unfolding empty_judged
departure_empty n v h = depart_kept n v.used v.pair v.counts 18 0 (departure_said n v [] h)

-- ---- arrivals

-- A chain in which all judgements but one pass before the last ones.
first_between : (js : List Said) (s : Said) (ks ls : List Said) (a : Said) → Passing js → Passing ks → first (js ++ (s ∷ ks ++ ls)) a ≡ or_else s (first ls a)
first_between js s ks ls a p q = first_past js (s ∷ ks ++ ls) a p ∙ ap (or_else s) (first_past ks ls a q)

-- One reply, and one new memory where it gives values.
ran_same : {A : Type 0} (s t : Said) (new new' old : A) → s ≡ t → (Passes t → new ≡ new') → ran_to s new old ≡ ran_to t new' old
ran_same {A} s t new new' old e f = rw e (go t f)
  where
    go : (t : Said) → (Passes t → new ≡ new') → ran_to t new old ≡ ran_to t new' old
    go (gives vs) f = ap (λ (m : A). (gives vs, m)) (f tt)
    go (refused k i) f = refl

module _ (n : ℕ) (v : Window) (w : List ℕ) (h : Holds n v w) (a : ℕ) where
  stored : Stored n v w
  stored = (holds_stored n v w).0 h

  -- 13 of so many cells.
  abbrev rooms : ℕ → List Said
  rooms need = pair_rooms need (length v.pair.letters) (length v.pair.marks) (length v.pair.recording)

  -- At the window of a word: 4 of the new letter, at the place after the word, 12, 13, else one cell more is used.
  pub arrival_said : (insert_run n v.used a v.pair v.counts).0
      ≡ first (arrival_judgements n w a v.pair) (gives (suc (length w) ∷ []))
  unfolding insert_run insert_says letters_judged
  arrival_said =
      let xs : List ℕ = take v.used v.pair.letters in
      let ms : List ℕ = take v.used v.pair.marks in
      let rs : List ℕ = take v.used v.pair.recording in
      let lengths : List ℕ = length v.pair.letters ∷ length v.pair.marks ∷ length v.pair.recording ∷ [] in
      let (rank, (short, (held, (letters, rest)))) = holds_judged n v w h in
      let size : 0 + length xs ≡ v.used = zero-add (length xs) ∙ length-take-le v.used v.pair.letters (holds_at n v w h).in_letters in
      first_between (rank_judged n ∷ length_judged v.used ∷ used_judged v.used lengths ∷ []) (letters_from n 0 (xs ++ (a ∷ [])))
      (rising_judged xs ∷ marks_judged xs ms ∷ counts_judged v.counts xs ∷ entries_judged v.used rs ∷ recording_judged rs ms ∷ [])
      (full_judged v.used ∷ rooms (suc v.used)) (gives (suc v.used ∷ [])) (rank, (short, (held, tt))) rest
      ∙ rw (letters-end n 0 a xs ((letters-judged n xs).0 letters), size, stored.size)

  -- So says the pair's operation on the word with the letter, where that is not too long.
  paired : length w < 1024 → pair_says n (w ++ (a ∷ [])) (length v.pair.letters) (length v.pair.marks) (length v.pair.recording)
      ≡ first (arrival_judgements n w a v.pair) (gives (suc (length w) ∷ []))
  unfolding pair_says letters_judged
  paired few =
      let b : Accepted n w = stored.fits.word in
      let size : length (w ++ (a ∷ [])) ≡ suc (length w) = length_snoc w a in
      let full = first_past (full_judged (length w) ∷ []) (rooms (suc (length w))) (gives (suc (length w) ∷ [])) ((full_judged_lem (length w)).1 few, tt) in
      first_between (rank_judged n ∷ length_judged (length (w ++ (a ∷ []))) ∷ []) (letters_from n 0 (w ++ (a ∷ []))) []
      (rooms (length (w ++ (a ∷ [])))) (gives (length (w ++ (a ∷ [])) ∷ []))
      ((rank_judged_lem n).1 (b.rank_low, b.rank_high), ((length-judged (length (w ++ (a ∷ [])))).1 (omega arith), tt)) tt
      ∙ rw (letters-end n 0 a w b.letters, zero-add (length w), size)
      (ap (or_else (letters_from n (length w) (a ∷ []))) (sym full))

  -- A letter arrives: so all letters are inserted afresh.
  pub arrival_afresh : length w < 1024 → insert_run n v.used a v.pair v.counts ≡ pair_run n (w ++ (a ∷ [])) v.pair v.counts
  unfolding insert_run pair_run
  arrival_afresh few = ran_same _ _ _ _ (v.pair, v.counts) (arrival_said ∙ sym (paired few)) afresh
    where
      afresh : Passes (pair_says n (w ++ (a ∷ [])) (length v.pair.letters) (length v.pair.marks) (length v.pair.recording))
          → ◌≡◌ {A = Pair × List ℕ} (written_pair (insert a (used_cells v.used v.pair)) v.pair, one_more v.counts a)
          (written_pair (pair_of (w ++ (a ∷ []))) v.pair, counts_of (w ++ (a ∷ [])))
      afresh p =
          let b : Accepted n (w ++ (a ∷ [])) = (pair_fits n (w ++ (a ∷ [])) v.pair v.counts p).word in
          let (within, low, high) = within_snoc n a w b.letters in
          let pair : insert a (used_cells v.used v.pair) ≡ pair_of (w ++ (a ∷ [])) = ap (insert a) (holds_cells n v w h) ∙ sym (pair_snoc w a) in
          let counts : one_more v.counts a ≡ counts_of (w ++ (a ∷ []))
          = ap (λ (cs : List ℕ). one_more cs a) (sym stored.counts) ∙ snoc_counts w a (low, omega (arith, b.rank_high)) in
          λ i. (written_pair (pair i) v.pair, counts i)

  -- 12: the window is full.
  pub arrival_full : length w ≡ 1024 → Inside n a → insert_run n v.used a v.pair v.counts ≡ (refused 12 1024, (v.pair, v.counts))
  unfolding insert_run full_judged
  arrival_full full i = refused_keeps _ 12 1024 _ (v.pair, v.counts) (arrival_said ∙ rw (full, inside-passes n a i))

-- ---- accepted calls

-- Only a call on a window is accepted.
call-judged : (n : ℕ) (c : Call) (v : Window) → Passes (call_run n c v).0 → Passing (window_judgements n v.used v.pair v.counts)
unfolding depart_run depart_says insert_run insert_says
call-judged n leave v p = passing_before (window_judgements n v.used v.pair v.counts) (empty_judged v.used ∷ []) ((v.used - 1) ∷ []) p
call-judged n (arrive a) v p =
    let xs : List ℕ = take v.used v.pair.letters in
    let checks : List Said = insert_judgements n v.used a v.pair v.counts in
    let rooms : List Said = pair_rooms (suc v.used) (length v.pair.letters) (length v.pair.marks) (length v.pair.recording) in
    let pass : Passing checks = passing_before checks (full_judged v.used ∷ rooms) (suc v.used ∷ []) p in
    let (within, low, high) = within_snoc n a xs ((letters-judged n (xs ++ (a ∷ []))).0 pass.1.1.1.0) in
    subst Passing (judged_as_insertion n v.used a v.pair v.counts (low, high)) pass

-- On the window of a word it leaves that of the word after it.
pub call_afresh : (n : ℕ) (c : Call) (v : Window) (w : List ℕ) → Holds n v w → Passes (call_run n c v).0
    → call_run n c v ≡ pair_run n (on_word c w) v.pair v.counts
call_afresh n leave v [] h p = absurd (subst (λ (r : Said × (Pair × List ℕ)). Passes r.0) (departure_empty n v h) p)
call_afresh n leave v (a ∷ w) h p = departure_afresh n v a w h
call_afresh n (arrive a) v w h p =
    let (letter, (few, rest)) = passing_first (arrival_judgements n w a v.pair) (suc (length w) ∷ []) (subst Passes (arrival_said n v w h a) p) in
    arrival_afresh n v w h a ((full_judged_lem (length w)).0 few)

-- So with whatever memory: its word is the one that it yields.
pub accepted_afresh : (n : ℕ) (c : Call) (v : Window) → length v.counts ≡ 64 → Passes (call_run n c v).0
    → call_run n c v ≡ pair_run n (on_word c (window_word v.used v.pair)) v.pair v.counts
accepted_afresh n c v e p = call_afresh n c v (window_word v.used v.pair) (judged_holds n v e (call-judged n c v p)) p
