-- What the operations on Young tableaux reply and leave in lent memory: from word to pair and back, and one letter more.
--     Room k f                  lent lists with room for k cells and 64 row lengths
--     left_of k f                so many cells of lent lists, with 64 row lengths
--     young_result              an accepted word, with outputs long enough, gets its pair
--     young_left                which is what is left of it in the lent lists
--     word_young_result         the pair of an accepted word, with an output long enough, gets the word
--     insert_young_result       one letter inserted into the pair of an accepted word, with outputs long enough, leaves the pair of the word with the letter at its end
--     word_young_word           the pair left of an accepted word, given back, leaves the word
--     young_word_young          the word left of a pair that the checks let through, given back, leaves the pair
--     insert_after              one letter inserted into the pair left of a word leaves what the word with the letter at its end does
-- Assumes nothing.
use Prim.Native.Nat.{ℕ, suc, ◌+◌, ◌-◌, ◌≤◌, ◌<◌}
use native.Mathlib.Omega.{arith}
use mathlib.Core.Path.{◌≡◌, refl, sym, ap, ◌∙◌}
use mathlib.Core.List.{List, [], ◌∷◌, ◌++◌, append-nil}
use mathlib.Core.Option.{some}
use lib.ListN.{length, take, drop, drop_of_length-le, length-append}
use lib.Seq.{drop-append-add, drop-drop, length-take-le, take_at}
use Rattle.hypoplactic.specs.Words.{Accepted, Inside, Within}
use Rattle.hypoplactic.proofs.Theory.Contents.{within_snoc}
use Rattle.outcomes.specs.Replies.{Said, gives, written}
use Rattle.outcomes.specs.Judgements.{full_judged, room_judged, word_judgements}
use Rattle.outcomes.proofs.Theory.Judged.{word_passing}
use Rattle.outcomes.proofs.Theory.Judgements.{alike-judged, full_judged_lem, letters-judged, room_judged_lem, used_judged_lem}
use Rattle.outcomes.proofs.Theory.Memory.{written-length}
use Rattle.outcomes.proofs.Theory.Passing.{Passing, ran_answer}
use Rattle.plactic.specs.Young.{Rows, young_entries, young_letters}
use Rattle.plactic.specs.FlatForm.{Flat, flat_of, flat_with, lengths_of, rows_in}
use Rattle.plactic.specs.Schensted.{insert, young_of}
use Rattle.plactic.specs.WayBack.{word_of_young}
use Rattle.plactic.proofs.Theory.Contents.{young_entries_lem, young_length, young_snoc}
use Rattle.plactic.proofs.Theory.Correspondence.{young_back}
use Rattle.plactic.proofs.Theory.FlatForm.{flat_lengths}
use Rattle.plactic_outcomes.specs.Judgements.{young_judgements, young_rooms}
use Rattle.plactic_outcomes.specs.Operations.{insert_young_judgements, insert_young_run, insert_young_says, used_flat, word_young_run, word_young_says, written_flat, young_run, young_says}
use Rattle.plactic_outcomes.proofs.Theory.Judged.{YoungAt, at_rows, young_passing}

-- ---- lent memory

-- Room for k cells and 64 row lengths.
pub record Room (k : ℕ) (f : Flat) : Type 0 where
  pub letters : k ≤ length f.letters
  pub standard : k ≤ length f.standard
  pub lengths : 64 ≤ length f.lengths

-- The first k letters and standard entries, and the first 64 row lengths.
abbrev pub left_of : ℕ → Flat → Flat
left_of k f = flat_with (take k f.letters) (take k f.standard) (take 64 f.lengths)

-- Values written over others, at least as many.
written_over : (us vs old : List ℕ) → length vs ≤ length us → written us (written vs old) ≡ written us old
written_over us vs old l =
    let m : ℕ = length us - length vs in
    let whole : length vs + m ≡ length us = omega arith in
    ap (λ (rest : List ℕ). us ++ rest) (rw whole at (drop-append-add vs (drop (length vs) old) m ∙ drop-drop m (length vs) old))

-- Values that fill a list.
written_whole : (vs old : List ℕ) → length old ≤ length vs → written vs old ≡ vs
written_whole vs old l = rw (drop_of_length-le old l) (append-nil vs)

-- So many elements of a list that values were written into are those values.
needed : (k : ℕ) (vs old : List ℕ) → length vs ≡ k → take k (written vs old) ≡ vs
needed k vs old e = take_at vs (drop (length vs) old) k e

-- Three lists that are equal one by one.
same_flat : {xs ys ss us ls ks : List ℕ} → xs ≡ ys → ss ≡ us → ls ≡ ks → flat_with xs ss ls ≡ flat_with ys us ks
same_flat a b c = rw (a, b, c)

-- The pair of a word in lent memory.
left_written : (w : List ℕ) (f : Flat) → left_of (length w) (written_flat (flat_of (young_of w)) f) ≡ flat_of (young_of w)
left_written w f =
    let rows : Rows = young_of w in
    same_flat (needed (length w) (young_letters rows) f.letters (young_length w)) (needed (length w) (young_entries rows) f.standard (young_entries_lem w))
    (needed 64 (lengths_of 64 rows) f.lengths (flat_lengths 64 rows))

-- ---- results

-- The pair of an accepted word, into lists long enough.
pub young_result : (n : ℕ) (w : List ℕ) (f : Flat) → Accepted n w → Room (length w) f
    → young_run n w f ≡ (gives (length w ∷ []), written_flat (flat_of (young_of w)) f)
unfolding young_run young_says
young_result n w f a room =
    ran_answer (word_judgements n w) (young_rooms (length w) (length f.letters) (length f.standard) (length f.lengths)) _ _ _
    ((word_passing n w).1 a) ((room_judged_lem _ _).1 room.letters, ((room_judged_lem _ _).1 room.standard, ((room_judged_lem _ _).1 room.lengths, tt)))

-- The first cells and row lengths are then the flat form of the pair.
pub young_left : (n : ℕ) (w : List ℕ) (f : Flat) → Accepted n w → Room (length w) f → left_of (length w) (young_run n w f).1 ≡ flat_of (young_of w)
young_left n w f a room = rw (young_result n w f a room) (left_written w f)

-- As many cells as the word has letters.
at_length : {n : ℕ} {f : Flat} (h : YoungAt n f) → length h.word ≡ length f.letters
at_length h = sym (young_length h.word) ∙ ap (λ (g : Flat). length g.letters) h.flat

-- The word of its pair, into letters enough.
pub word_young_result : {n : ℕ} {f : Flat} (h : YoungAt n f) (out : List ℕ) → length f.letters ≤ length out
    → word_young_run n f out ≡ (gives (length f.letters ∷ []), written h.word out)
unfolding word_young_run word_young_says
word_young_result {n} {f} h out l =
    let back : word_of_young (rows_in f) ≡ h.word = ap word_of_young (at_rows h) ∙ young_back h.word in
    rw (← back)
    (ran_answer (young_judgements n f) (room_judged (length f.letters) (length out) ∷ []) _ _ _ ((young_passing n f).1 h) ((room_judged_lem _ _).1 l, tt))

-- ---- from word to pair and back

-- The pair left of an accepted word leaves the word.
pub word_young_word : (n : ℕ) (w : List ℕ) (f : Flat) (out : List ℕ) → Accepted n w → Room (length w) f → length w ≤ length out
    → word_young_run n (left_of (length w) (young_run n w f).1) out ≡ (gives (length w ∷ []), written w out)
word_young_word n w f out a room l =
    let h : YoungAt n (flat_of (young_of w)) = record { word = w; accepted = a; flat = refl } in
    let cells : length (young_letters (young_of w)) ≡ length w = young_length w in
    rw (young_left n w f a room) (rw cells at (word_young_result h out (rw cells l)))

-- The word left of a pair that the checks let through leaves the pair.
pub young_word_young : (n : ℕ) (f : Flat) (out : List ℕ) (g : Flat) → Passing (young_judgements n f) → length f.letters ≤ length out
    → Room (length f.letters) g
    → young_run n (take (length f.letters) (word_young_run n f out).1) g ≡ (gives (length f.letters ∷ []), written_flat f g)
young_word_young n f out g p l room =
    let h : YoungAt n f = (young_passing n f).0 p in
    let cells : length h.word ≡ length f.letters = at_length h in
    rw (word_young_result h out l, needed (length f.letters) h.word out cells)
    (rw cells at (young_result n h.word g h.accepted (rw cells room))
    ∙ ap {B = Said × Flat} (λ (k : Flat). (gives (length f.letters ∷ []), written_flat k g)) h.flat)

-- ---- one letter more

-- A letter inserted into the pair of an accepted word that lent lists hold in their first cells, of which not all are used.
pub insert_young_result : (n used a : ℕ) (f : Flat) (h : YoungAt n (used_flat used f)) → Inside n a → used < 1024
    → used < length f.letters → used < length f.standard
    → insert_young_run n used a f ≡ (gives (suc used ∷ []), written_flat (flat_of (young_of (h.word ++ (a ∷ [])))) f)
unfolding insert_young_run insert_young_says
insert_young_result n used a f h i few in_letters in_standard =
    let size : length (take used f.letters) ≡ used = length-take-le used f.letters (omega arith) in
    let many : length h.word ≡ used = at_length h ∙ size in
    let rows : insert (suc used) (rows_in (used_flat used f)) (some a) ≡ young_of (h.word ++ (a ∷ [])) =
    rw (at_rows h) (rw many at (sym (young_snoc h.word a))) in
    let (rank, (short, (alike, (lengths, (sum, (letters, (young, t))))))) = (young_passing n (used_flat used f)).1 h in
    let held = (used_judged_lem used (length f.letters ∷ length f.standard ∷ [])).1 (omega arith, (omega arith, tt)) in
    let all = (letters-judged n (take used f.letters ++ a ∷ [])).1 (within_snoc n a (take used f.letters) ((letters-judged n _).0 letters) i) in
    let whole : length f.lengths ≡ 64 = ((alike-judged 64 (length f.lengths ∷ [])).0 lengths).0 in
    rw (← rows)
    (ran_answer (insert_young_judgements n used a f)
    (full_judged used ∷ young_rooms (suc used) (length f.letters) (length f.standard) (length f.lengths)) _ _ _
    (rank, (rw size at short, (held, (lengths, (rw size at sum, (all, (rw size at young, tt)))))))
    ((full_judged_lem used).1 few, ((room_judged_lem _ _).1 in_letters, ((room_judged_lem _ _).1 in_standard, ((room_judged_lem _ _).1 (omega arith), tt)))))

-- The word without its last letter is accepted, and has one letter less.
accepted_front : (n a : ℕ) (w : List ℕ) → Accepted n (w ++ (a ∷ [])) → Accepted n w × Inside n a × (length w < 1024)
accepted_front n a w h =
    let (front, i) = within_front w h.letters in
    let many = length-append w (a ∷ []) in
    (record { rank_low = h.rank_low; rank_high = h.rank_high; short = omega (arith, many, h.short); letters = front }, i, omega (arith, many, h.short))
  where
    within_front : (w : List ℕ) → Within n (w ++ (a ∷ [])) → Within n w × Inside n a
    within_front [] p = (tt, (p.0, p.1))
    within_front (x ∷ w) p = let r = within_front w p.2 in ((p.0, p.1, r.0), r.1)

-- Row lengths that are 64 in number are all written.
used_written : (w : List ℕ) (f : Flat) → length f.lengths ≡ 64 → used_flat (length w) (written_flat (flat_of (young_of w)) f) ≡ flat_of (young_of w)
used_written w f whole =
    let rows : Rows = young_of w in
    same_flat (needed (length w) (young_letters rows) f.letters (young_length w)) (needed (length w) (young_entries rows) f.standard (young_entries_lem w))
    (written_whole (lengths_of 64 rows) f.lengths (omega (arith, flat_lengths 64 rows)))

-- The pair of a longer word over that of a shorter one.
over_shorter : (u w : List ℕ) (f : Flat) → length w ≤ length u
    → written_flat (flat_of (young_of u)) (written_flat (flat_of (young_of w)) f) ≡ written_flat (flat_of (young_of u)) f
over_shorter u w f l = same_flat
    (written_over (young_letters (young_of u)) (young_letters (young_of w)) f.letters (omega (arith, young_length u, young_length w)))
    (written_over (young_entries (young_of u)) (young_entries (young_of w)) f.standard (omega (arith, young_entries_lem u, young_entries_lem w)))
    (written_over (lengths_of 64 (young_of u)) (lengths_of 64 (young_of w)) f.lengths (omega (arith, flat_lengths 64 (young_of u), flat_lengths 64 (young_of w))))

-- One letter inserted into the pair that was left of w, in lists with room for one cell more, leaves what w with the letter at its end does.
pub insert_after : (n a : ℕ) (w : List ℕ) (f : Flat) → Accepted n (w ++ (a ∷ [])) → Room (suc (length w)) f → length f.lengths ≡ 64
    → insert_young_run n (length w) a (young_run n w f).1 ≡ (gives (suc (length w) ∷ []), (young_run n (w ++ (a ∷ [])) f).1)
insert_after n a w f acc room whole =
    let (front, i, few) = accepted_front n a w acc in
    let many : length (w ++ (a ∷ [])) ≡ suc (length w) = omega (arith, length-append w (a ∷ [])) in
    let rows : Rows = young_of w in
    let h : YoungAt n (used_flat (length w) (written_flat (flat_of rows) f)) = record { word = w; accepted = front; flat = sym (used_written w f whole) } in
    let in_letters : length w < length (written (young_letters rows) f.letters) =
    omega (arith, room.letters, young_length w, written-length (young_letters rows) f.letters (omega (arith, room.letters, young_length w))) in
    let in_standard : length w < length (written (young_entries rows) f.standard) =
    omega (arith, room.standard, young_entries_lem w, written-length (young_entries rows) f.standard (omega (arith, room.standard, young_entries_lem w))) in
    rw (
      young_result n w f front (record { letters = omega (arith, room.letters); standard = omega (arith, room.standard); lengths = room.lengths }),
      young_result n (w ++ (a ∷ [])) f acc (rw many room),
    )
    (insert_young_result n (length w) a (written_flat (flat_of rows) f) h i few in_letters in_standard
    ∙ ap {B = Said × Flat} (λ (k : Flat). (gives (suc (length w) ∷ []), k)) (over_shorter (w ++ (a ∷ [])) w f (omega arith)))
