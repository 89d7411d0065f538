-- An input that keeps the limits, with outputs long enough, gets its result: what each operation but the moves then replies, and lent memory.
--     pair_result                                 tableau, recording ribbon and letter counts of a word
--     insert_result                               one letter inserted
--     word_result, reading_result                 pair back to word, column reading
--     viewer_result, look_result                  the viewer and a look through it
--     junction_result, same_class_result, weights_result           of words
--     repeat_word_result, repeat_tableau_result                    repeat counts
-- Moves are in Theory.MoveResults; that a refusal changes no lent memory is refused_keeps of Theory.Passing. Assumes nothing.
use Prim.Native.Nat.{ℕ, suc, ◌≤◌, ◌<◌}
use native.Mathlib.Omega.{arith}
use mathlib.Core.Path.{◌≡◌}
use mathlib.Core.List.{List, [], ◌∷◌, ◌++◌}
use lib.ListN.{length, take}
use lib.Seq.{length-take-le}
use Rattle.hypoplactic.specs.Words.{Accepted, Inside, tick}
use Rattle.hypoplactic.specs.Ribbons.{PairAt, TableauAt}
use Rattle.hypoplactic.specs.Insertion.{Pair, insert, pair_of, word_of}
use Rattle.hypoplactic.specs.Reading.{column_reading}
use Rattle.quasi_crystal.specs.Moves.{Move, repeat_tableau, repeat_word}
use Rattle.hypoplactic.specs.Junctions.{junction_set, rows_of, same_class}
use Rattle.hypoplactic.specs.Weights.{compare_weights}
use Rattle.outcomes.specs.Replies.{gives, passed, written}
use Rattle.outcomes.specs.Counts.{TrueCounts, counts_of, one_more}
use Rattle.outcomes.specs.Judgements.{counted_judgements, counted_pair_judgements, full_judged, index_judged, letters_judged, pair_rooms, room_judged, tableau_judgements, word_judgements}
use Rattle.outcomes.specs.WordOperations.{comparison_number, junction_says, repeat_word_says, same_class_says, weights_says, words_judgements}
use Rattle.outcomes.specs.TableauOperations.{cell_at, insert_judgements, insert_run, insert_says, look_says, pair_run, pair_says, reading_run, reading_says, repeat_tableau_says, used_cells, viewer_says, word_run, word_says, written_pair}
use Rattle.outcomes.proofs.Theory.Passing.{Passing, first_answer, first-both, passes-further, ran_answer}
use Rattle.hypoplactic.proofs.Theory.Contents.{accepted_snoc}
use Rattle.outcomes.proofs.Theory.Judgements.{full_judged_lem, index_judged_lem, letters-judged, room_judged_lem, used_judged_lem}
use Rattle.outcomes.proofs.Theory.Judged.{counted_pair_passing, counted_passing, tableau_passing, word_passing}

-- ---- of a word

module _ (n : ℕ) (w : List ℕ) (a : Accepted n w) where
  -- The pair, into three lists long enough, and its counts.
  pub pair_result : (p : Pair) (counts : List ℕ) → length w ≤ length p.letters → length w ≤ length p.marks → length w ≤ length p.recording
      → pair_run n w p counts ≡ (gives (length w ∷ []), (written_pair (pair_of w) p, counts_of w))
  unfolding pair_run pair_says
  pair_result p counts x y z =
      ran_answer (word_judgements n w) (pair_rooms (length w) (length p.letters) (length p.marks) (length p.recording)) _ _ _
      ((word_passing n w).1 a) ((room_judged_lem _ _).1 x, ((room_judged_lem _ _).1 y, ((room_judged_lem _ _).1 z, tt)))

  -- The junction set and the rows.
  pub junction_result : junction_says n w ≡ gives (junction_set w ∷ rows_of w ∷ [])
  unfolding junction_says
  junction_result = first_answer (word_judgements n w) _ ((word_passing n w).1 a)

  -- The repeat count of a move with an index of the rank.
  pub repeat_word_result : (m : Move) → 1 ≤ m.index → m.index < n → repeat_word_says n m w ≡ gives (repeat_word m w ∷ [])
  unfolding repeat_word_says
  repeat_word_result m p q = first-both (word_judgements n w) (index_judged n m.index ∷ []) _ ((word_passing n w).1 a) ((index_judged_lem n m.index).1 (p, q), tt)

-- ---- of two words

module _ (n : ℕ) (u : List ℕ) (m : ℕ) (v : List ℕ) (a : Accepted n u) (b : Accepted m v) where
  -- All checks over both words.
  words_passing : Passing (words_judgements n u m v)
  words_passing =
      let (rank, (short, (letters, t))) = (word_passing n u).1 a in
      let (rank', (short', (letters', t'))) = (word_passing m v).1 b in
      (rank, (rank', (short, (short', (letters, (passes-further _ (letters_judged m v) letters', tt))))))

  -- Whether they are of one class: 1 or 0.
  pub same_class_result : same_class_says n u m v ≡ gives (tick (same_class u v) 0 ∷ [])
  unfolding same_class_says
  same_class_result = first_answer (words_judgements n u m v) _ words_passing

  -- The comparison of their weights: the first word's against the second's.
  pub weights_result : weights_says n u m v ≡ gives (comparison_number (compare_weights u v) ∷ [])
  unfolding weights_says
  weights_result = first_answer (words_judgements n u m v) _ words_passing

-- ---- of a tableau

-- With true counts.
module _ (n : ℕ) (xs ms cs : List ℕ) (h : TableauAt n xs ms) (c : TrueCounts xs cs) where
  -- The column reading, into letters long enough.
  pub reading_result : (out : List ℕ) → length xs ≤ length out → reading_run n xs ms cs out ≡ (gives (length xs ∷ []), written (column_reading xs ms) out)
  unfolding reading_run reading_says
  reading_result out p =
      ran_answer (counted_judgements n xs ms cs) (room_judged (length xs) (length out) ∷ []) _ _ _ ((counted_passing n xs ms cs).1 (h, c)) ((room_judged_lem _ _).1 p, tt)

  -- The repeat count of a move with an index of the rank.
  pub repeat_tableau_result : (m : Move) → 1 ≤ m.index → m.index < n → repeat_tableau_says n m xs ms cs ≡ gives (repeat_tableau m xs ms ∷ [])
  unfolding repeat_tableau_says
  repeat_tableau_result m p q =
      first-both (counted_judgements n xs ms cs) (index_judged n m.index ∷ []) _ ((counted_passing n xs ms cs).1 (h, c)) ((index_judged_lem n m.index).1 (p, q), tt)

module _ (n : ℕ) (xs ms : List ℕ) (h : TableauAt n xs ms) where
  -- A viewer is made.
  pub viewer_result : viewer_says n xs ms ≡ passed
  unfolding viewer_says
  viewer_result = first_answer (tableau_judgements n xs ms) _ ((tableau_passing n xs ms).1 h)

  -- A look at a cell through it.
  pub look_result : (k : ℕ) → look_says n xs ms k ≡ gives (cell_at xs ms k)
  unfolding look_says
  look_result k = first_answer (tableau_judgements n xs ms) _ ((tableau_passing n xs ms).1 h)

-- ---- of a pair

-- The word of a pair with true counts, into letters long enough.
pub word_result : (n : ℕ) (xs ms rs cs out : List ℕ) → PairAt n xs ms rs → TrueCounts xs cs → length xs ≤ length out
    → word_run n xs ms rs cs out ≡ (gives (length xs ∷ []), written (word_of xs rs) out)
unfolding word_run word_says
word_result n xs ms rs cs out h c p =
    ran_answer (counted_pair_judgements n xs ms rs cs) (room_judged (length xs) (length out) ∷ []) _ _ _
    ((counted_pair_passing n xs ms rs cs).1 (h, c)) ((room_judged_lem _ _).1 p, tt)

-- One letter inserted into fewer than 1,024 used cells with true counts, with room for one more.
pub insert_result : (n used a : ℕ) (p : Pair) (cs : List ℕ) → PairAt n (take used p.letters) (take used p.marks) (take used p.recording)
    → TrueCounts (take used p.letters) cs → used < 1024 → Inside n a
    → used < length p.letters → used < length p.marks → used < length p.recording
    → insert_run n used a p cs ≡ (gives (suc used ∷ []), (written_pair (insert a (used_cells used p)) p, one_more cs a))
unfolding insert_run insert_says
insert_result n used a p cs h c few i as_letters as_marks as_recording =
    let xs : List ℕ = take used p.letters in
    let ms : List ℕ = take used p.marks in
    let rs : List ℕ = take used p.recording in
    let size : length xs ≡ used = length-take-le used p.letters (omega arith) in
    let lengths : List ℕ = length p.letters ∷ length p.marks ∷ length p.recording ∷ [] in
    let (rank, (short, (alike, (letters, (rising, (marks, (counts, (entries, (recording, t))))))))) = (counted_pair_passing n xs ms rs cs).1 (h, c) in
    let held = (used_judged_lem used lengths).1 (omega arith) in
    let all = (letters-judged n (xs ++ a ∷ [])).1 (accepted_snoc h.word (omega arith) i).letters in
    ran_answer (insert_judgements n used a p cs)
    (full_judged used ∷ pair_rooms (suc used) (length p.letters) (length p.marks) (length p.recording)) _ _ _
    (rank, (rw size at short, (held, (all, (rising, (marks, (counts, (rw size at entries, (recording, tt)))))))))
    ((full_judged_lem used).1 few, ((room_judged_lem _ _).1 as_letters, ((room_judged_lem _ _).1 as_marks, ((room_judged_lem _ _).1 as_recording, tt))))
