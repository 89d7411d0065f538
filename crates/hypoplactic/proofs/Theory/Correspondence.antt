-- The correspondence (paper, section 4): words and valid pairs of a tableau and a recording ribbon tell each other.
--     pair_valid           the pair of a word is valid
--     word_of_pair         the word of a word's pair is that word
--     pair_of_word         the pair of a valid pair's word is that pair
--     word_unique          no other word has it
-- From pair to word and back, the cell with the largest entry is taken out (Theory.Removal), and inserting its letter seats it where it stood.
-- Assumes nothing.
use Prim.Native.Nat.{ℕ, zero, suc, ◌<◌}
use native.Mathlib.Omega.{arith}
use mathlib.Core.Path.{◌≡◌, refl, ap, ap₂, sym, ◌∙◌}
use mathlib.Core.List.{List, [], ◌∷◌, ◌++◌}
use lib.ListN.{length}
use Rattle.hypoplactic.specs.Words.{count}
use Rattle.hypoplactic.specs.Ribbons.{ValidPair}
use Rattle.hypoplactic.specs.Insertion.{letters_of, marks_of, pair_of, put_at, recording_of, seat, word_of}
use Rattle.hypoplactic.proofs.Theory.Boundary.{tableau_of_word}
use Rattle.hypoplactic.proofs.Theory.Pairs.{length-letters, length_recording, letters_snoc, recording_snoc, snoc_ind}
use Rattle.hypoplactic.proofs.Theory.Placing.{Once, Placed, Without, length_placed, placed_out, word_placed}
use Rattle.hypoplactic.proofs.Theory.Recordings.{descents, marks_are_descents, marks_of_recording, placed_snoc, recording_of_word, under_of_word}
use Rattle.hypoplactic.proofs.Theory.Removal.{Ordered, once_without, ordered_lengths, ordered_ribbon, ordered_without, put_back, under_once}
use Rattle.hypoplactic.proofs.Theory.Seating.{Under}

-- The pair of a word is valid.
pub pair_valid : (w : List ℕ) → ValidPair (letters_of w) (marks_of w) (recording_of w)
pair_valid w = record { tableau = tableau_of_word w; recording = recording_of_word w }

-- The word of the pair of w is w.
pub word_of_pair : (w : List ℕ) → word_of (letters_of w) (recording_of w) ≡ w
unfolding pair_of word_of
word_of_pair = snoc_ind (λ w. word_of (letters_of w) (recording_of w) ≡ w) refl step
  where
    step : (w : List ℕ) (a : ℕ) → word_of (letters_of w) (recording_of w) ≡ w
        → word_of (letters_of (w ++ (a ∷ []))) (recording_of (w ++ (a ∷ []))) ≡ w ++ (a ∷ [])
    step w a ih =
        word_placed (length-letters w) (placed_snoc w a) (under_of_word w) ∙ ap (λ (u : List ℕ). u ++ (a ∷ [])) ih

-- ---- from pair to word and back

-- One cell more, that with the largest entry.
lists_placed : {n a : ℕ} {xs rs ys ss : List ℕ} → Placed a (suc n) xs rs ys ss → Under (suc n) rs → Ordered 0 0 ys ss
    → length xs ≡ n → length rs ≡ n
    → (letters_of (word_of xs rs) ≡ xs) × (recording_of (word_of xs rs) ≡ rs)
    → (letters_of (word_of ys ss) ≡ ys) × (recording_of (word_of ys ss) ≡ ss)
lists_placed {n} {a} {xs} {rs} {ys} {ss} p u h l k ih =
    let w : List ℕ = word_of xs rs in
    let longer : word_of ys ss ≡ w ++ (a ∷ []) = word_placed l p u in
    let many : length w ≡ n = sym (length_recording w) ∙ ap length ih.1 ∙ k in
    let back : (put_at (seat a xs) a xs ≡ ys) × (put_at (seat a xs) (suc n) rs ≡ ss) = put_back 0 0 p u h in
    (rw (longer, letters_snoc w a, ih.0) back.0, rw (longer, recording_snoc w a, ih.0, ih.1, many) back.1)

-- Letters and recording come back, by induction on the number of cells.
lists_back : (n : ℕ) (ys ss : List ℕ) → length ss ≡ n → Once n ss → Ordered 0 0 ys ss
    → (letters_of (word_of ys ss) ≡ ys) × (recording_of (word_of ys ss) ≡ ss)
unfolding pair_of word_of
lists_back zero [] [] l o h = (refl, refl)
lists_back zero [] (s ∷ ss) l o h = absurd h
lists_back zero (y ∷ ys) [] l o h = absurd h
lists_back zero (y ∷ ys) (s ∷ ss) l o h = let z : ⊥ = omega arith in absurd z
lists_back (suc n) ys ss l o h =
    let counted : 0 < count (suc n) ss = omega (arith, o (suc n) (omega arith) (omega arith)) in
    let out : Without (suc n) ys ss = placed_out (suc n) ys ss (ordered_lengths 0 0 ys ss h) counted in
    let xs : List ℕ = out.letters in
    let rs : List ℕ = out.entries in
    let k : length rs ≡ n = omega (arith, (length_placed out.placed).1) in
    let once : Once n rs = once_without n out.placed o in
    let u : Under (suc n) rs = under_once n rs k once in
    let rest : Ordered 0 0 xs rs = ordered_without 0 0 out.placed u h in
    lists_placed out.placed u h (ordered_lengths 0 0 xs rs rest ∙ k) k (lists_back n xs rs k once rest)

-- The pair of a valid pair's word is that pair.
pub pair_of_word : {xs ms rs : List ℕ} → ValidPair xs ms rs
    → (letters_of (word_of xs rs) ≡ xs) × (marks_of (word_of xs rs) ≡ ms) × (recording_of (word_of xs rs) ≡ rs)
pair_of_word {xs} {ms} {rs} v =
    let w : List ℕ = word_of xs rs in
    let cells : Ordered 0 0 xs rs = ordered_ribbon xs ms rs v.tableau v.recording.steps in
    let lists : (letters_of w ≡ xs) × (recording_of w ≡ rs) = lists_back (length rs) xs rs refl v.recording.once cells in
    (lists.0, marks_of_recording w ∙ ap descents lists.1 ∙ sym (marks_are_descents rs ms v.recording.steps), lists.1)

-- No other word has that pair.
pub word_unique : {xs rs : List ℕ} (w : List ℕ) → letters_of w ≡ xs → recording_of w ≡ rs → w ≡ word_of xs rs
word_unique w h k = sym (word_of_pair w) ∙ ap₂ word_of h k
