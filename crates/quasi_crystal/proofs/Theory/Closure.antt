-- Closure (document 01): what the operations make of inputs within the limits is within the limits.
--     move_accepted         a defined move on an accepted word gives an accepted word
--     chain_accepted        every word on a chain from an accepted word is accepted
--     word_tableau_at       the tableau of an accepted word is within the limits; word_pair_at the pair
--     pair_word_accepted    the word of a pair within the limits is accepted
--     reading_accepted      so is the column reading of a tableau
--     move_tableau_at       a defined move on a tableau within the limits gives one
--     insert_at             so does one letter more in a pair of fewer than 1,024 cells
-- Assumes nothing.
use Prim.Native.Nat.{ℕ, zero, suc, ◌<◌}
use native.Mathlib.Omega.{arith}
use mathlib.Core.Path.{◌≡◌, refl, ap, sym, subst, ◌∙◌}
use mathlib.Core.Bool.{Bool, true, false, and-eq-true_iff, cond}
use mathlib.Core.Option.{Option, none, some, none-ne-some}
use mathlib.Core.List.{List, [], ◌∷◌, ◌++◌}
use lib.Dec.{ltb}
use lib.ListN.{length, length-set, set}
use borrow.Author.Tests.{ltb-true}
use Rattle.hypoplactic.specs.Words.{Accepted, Inside, Within, count}
use Rattle.hypoplactic.specs.Rewriting.{Joined}
use Rattle.hypoplactic.specs.Ribbons.{PairAt, TableauAt}
use Rattle.hypoplactic.specs.Insertion.{Pair, insert, letters_of, marks_of, pair_of, recording_of, word_of}
use Rattle.hypoplactic.specs.Reading.{column_reading}
use Rattle.quasi_crystal.specs.Moves.{Side, raising, lowering, Move, below, changed_place, given, guarded, index_of, inverted, moved, moved_tableau, move_tableau, move_word, replaced}
use Rattle.hypoplactic.proofs.Theory.Pairs.{length-letters, pair_snoc}
use Rattle.hypoplactic.proofs.Theory.Letters.{count-letters}
use Rattle.hypoplactic.proofs.Theory.Invariants.{joined_count}
use Rattle.hypoplactic.proofs.Theory.Boundary.{tableau_of_word}
use Rattle.hypoplactic.proofs.Theory.ReadBack.{read_back}
use Rattle.hypoplactic.proofs.Theory.Correspondence.{pair_of_word, pair_valid}
use Rattle.quasi_crystal.proofs.Theory.MoveValid.{moved_valid}
use Rattle.hypoplactic.proofs.Theory.Contents.{accepted_content, accepted_snoc}
use Rattle.quasi_crystal.proofs.Theory.Targets.{unguarded}

-- ---- words and their pairs

-- Every word on a chain from an accepted word is accepted.
pub chain_accepted : {n : ℕ} {u v : List ℕ} → Accepted n u → Joined u v → Accepted n v
chain_accepted a p = accepted_content (joined_count p) a

-- The letters of a tableau are accepted with its word, and conversely.
letters_accepted : {n : ℕ} (w : List ℕ) → Accepted n w → Accepted n (letters_of w)
letters_accepted w a = accepted_content (λ c. sym (count-letters c w)) a

word_accepted : {n : ℕ} {xs : List ℕ} (w : List ℕ) → letters_of w ≡ xs → Accepted n xs → Accepted n w
word_accepted w e a = accepted_content (λ c. ap (count c) (sym e) ∙ count-letters c w) a

-- The tableau of an accepted word is within the limits,
pub word_tableau_at : {n : ℕ} {w : List ℕ} → Accepted n w → TableauAt n (letters_of w) (marks_of w)
word_tableau_at {n} {w} a = record { word = letters_accepted w a; tableau = tableau_of_word w }

-- and so is its pair.
pub word_pair_at : {n : ℕ} {w : List ℕ} → Accepted n w → PairAt n (letters_of w) (marks_of w) (recording_of w)
word_pair_at {n} {w} a = record { word = letters_accepted w a; pair = pair_valid w }

-- The word of a pair within the limits is accepted.
pub pair_word_accepted : {n : ℕ} {xs ms rs : List ℕ} → PairAt n xs ms rs → Accepted n (word_of xs rs)
pair_word_accepted {n} {xs} {ms} {rs} h = word_accepted (word_of xs rs) (pair_of_word h.pair).0 h.word

-- The column reading of a tableau within the limits is accepted.
pub reading_accepted : {n : ℕ} {xs ms : List ℕ} → TableauAt n xs ms → Accepted n (column_reading xs ms)
reading_accepted {n} {xs} {ms} h = word_accepted (column_reading xs ms) (read_back xs ms h.tableau).0 h.word

-- One letter of 1 to n inserted into a pair of fewer than 1,024 cells within the limits gives a pair within the limits.
pub insert_at : (n a : ℕ) (p : Pair) → PairAt n p.letters p.marks p.recording → length p.letters < 1024 → Inside n a
    → PairAt n (insert a p).letters (insert a p).marks (insert a p).recording
insert_at n a p h few i =
    let w : List ℕ = word_of p.letters p.recording in
    let (letters, marks, recording) = pair_of_word h.pair in
    let whole : pair_of w ≡ p = λ j. record { letters = letters j; marks = marks j; recording = recording j } in
    let longer : pair_of (w ++ a ∷ []) ≡ insert a p = pair_snoc w a ∙ ap (insert a) whole in
    let size : length p.letters ≡ length w = ap length (sym letters) ∙ length-letters w in
    subst (λ (q : Pair). PairAt n q.letters q.marks q.recording) longer (word_pair_at (accepted_snoc (pair_word_accepted h) (omega arith) i))

-- ---- moves

within-set : (n a k : ℕ) (w : List ℕ) → Inside n a → Within n w → Within n (set w k a)
within-set n a k [] i h = h
within-set n a zero (x ∷ w) i h = (i.0, i.1, h.2)
within-set n a (suc k) (x ∷ w) i h = (h.0, h.1, within-set n a k w i h.2)

given_inside : (n : ℕ) (s : Side) (i : ℕ) → index_of n i ≡ true → Inside n (given s i)
given_inside n s i e = let (low, high) = (and-eq-true_iff (ltb 0 i) (ltb i n)).0 e in go s (ltb-true 0 i low) (ltb-true i n high)
  where
    go : (s : Side) → 0 < i → i < n → Inside n (given s i)
    go raising low high = omega arith
    go lowering low high = omega arith

-- A move under the test b for an inversion keeps a word accepted.
moved_accepted : {n : ℕ} {v : List ℕ} (m : Move) (b : Bool) (w : List ℕ) → Accepted n w → guarded n m (moved b m w) ≡ some v → Accepted n v
moved_accepted {n} {v} m b w a e = go (index_of n m.index) refl (changed_place b m w) e
  where
    go : (t : Bool) → index_of n m.index ≡ t → (k : Option ℕ) → cond t (replaced (given m.side m.index) w k) none ≡ some v → Accepted n v
    go false p k e = absurd (none-ne-some v e)
    go true p none e = absurd (none-ne-some v e)
    go true p (some k) e =
        let x : ℕ = given m.side m.index in
        let same : set w k x ≡ v = cc in
        subst (Accepted n) same (record {
          rank_low = a.rank_low;
          rank_high = a.rank_high;
          short = omega (arith, a.short, length-set w k x);
          letters = within-set n x k w (given_inside n m.side m.index p) a.letters;
        })

-- A defined move on an accepted word gives an accepted word.
pub move_accepted : {n : ℕ} {w v : List ℕ} (m : Move) → Accepted n w → move_word n m w ≡ some v → Accepted n v
unfolding move_word
move_accepted {n} {w} m a e = moved_accepted m (inverted m.index w) w a e

-- A defined move on a tableau within the limits gives a tableau within the limits; its marks stay.
pub move_tableau_at : {n : ℕ} {xs ms ys : List ℕ} (m : Move) → TableauAt n xs ms → move_tableau n m xs ms ≡ some ys → TableauAt n ys ms
unfolding move_tableau
move_tableau_at {n} {xs} {ms} {ys} m h e = record {
  word = moved_accepted m (below m.index xs ms) xs h.word e;
  tableau = (moved_valid m xs ys ms h.tableau (unguarded n m (moved_tableau m xs ms) e)).0;
}
