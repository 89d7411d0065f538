-- The oldest letter of a word and its cell, the one with the entry 1, in the pair of the word.
--     placed_insert      insertion of a letter keeps one cell more, wherever it stands
--     placed_cons        a letter before a word is one cell more in its pair, with the entry 1, and every entry one more
--     placed_drop        taking out the cell with an entry that no other has leaves the cells without it
--     descents_drop      the descents without an entry are those left, with the one after it set anew
--     oldest_leaves      the pair of a word without its first letter is its pair with the cell of that letter taken out
-- Assumes nothing.
use Prim.Native.Nat.{ℕ, zero, suc, ◌≤◌, ◌<◌}
use native.Mathlib.Omega.{arith}
use mathlib.Core.Path.{◌≡◌, refl, ap, ap₂, sym, ◌∙◌}
use mathlib.Core.Logic.{◌⊎◌, inl, inr}
use mathlib.Core.List.{List, [], ◌∷◌, ◌++◌, map}
use lib.Dec.{leb-suc-suc, ltb}
use lib.ListN.{drop, get_or, length, set}
use Rattle.hypoplactic.specs.Words.{count, tick}
use Rattle.hypoplactic.specs.Insertion.{insert, letters_of, marks_of, pair_of, put_at, recording_of, seat}
use Rattle.hypoplactic.proofs.Theory.Letters.{count_at, count_head}
use Rattle.hypoplactic.proofs.Theory.Occurrences.{count_tail}
use Rattle.hypoplactic.proofs.Theory.Pairs.{Rising, le-or-lt, length_recording, letters-rising, letters_snoc, recording_snoc, seat_high, seat_low, snoc_ind}
use Rattle.hypoplactic.proofs.Theory.Placing.{Placed, here, later, count_placed}
use Rattle.hypoplactic.proofs.Theory.Recordings.{descents, descents_after, marks_of_recording, recording_of_word}
use Rattle.windows.specs.Gaps.{closed, joint, lowered, without}

-- ---- a letter before a word

-- Of two lists of cells one has one cell more; a letter is inserted into both.
pub placed_insert : {a e : ℕ} {xs rs ys ss : List ℕ} (b d k : ℕ) → Placed a e xs rs ys ss → Rising k xs → Rising k ys
    → Placed a e (put_at (seat b xs) b xs) (put_at (seat b xs) d rs) (put_at (seat b ys) b ys) (put_at (seat b ys) d ss)
placed_insert {a} {e} b d k (here {xs = xs} {rs = rs}) r s = go (le-or-lt a b)
  where
    go : (a ≤ b) ⊎ (b < a)
        → Placed a e (put_at (seat b xs) b xs) (put_at (seat b xs) d rs) (put_at (seat b (a ∷ xs)) b (a ∷ xs)) (put_at (seat b (a ∷ xs)) d (e ∷ rs))
    go (inl l) = rw (seat_low b a xs l) here
    go (inr l) = rw (seat_high b a (a ∷ xs) l (omega arith, s.1), seat_high b a xs l s.1) (later here)
placed_insert {a} {e} b d k (later {x = x} {r = t} {xs = xs} {rs = rs} {ys = ys} {ss = ss} p) r s = go (le-or-lt x b) (placed_insert b d x p r.1 s.1)
  where
    go : (x ≤ b) ⊎ (b < x)
        → Placed a e (put_at (seat b xs) b xs) (put_at (seat b xs) d rs) (put_at (seat b ys) b ys) (put_at (seat b ys) d ss)
        → Placed a e (put_at (seat b (x ∷ xs)) b (x ∷ xs)) (put_at (seat b (x ∷ xs)) d (t ∷ rs)) (put_at (seat b (x ∷ ys)) b (x ∷ ys)) (put_at (seat b (x ∷ ys)) d (t ∷ ss))
    go (inl l) rest = rw (seat_low b x xs l, seat_low b x ys l) (later rest)
    go (inr l) rest = rw (seat_high b x (x ∷ xs) l (omega arith, r.1), seat_high b x (x ∷ ys) l (omega arith, s.1)) (later (later p))

map_put : (k e : ℕ) (rs : List ℕ) → map suc (put_at k e rs) ≡ put_at k (suc e) (map suc rs)
map_put zero e rs = refl
map_put (suc k) e [] = refl
map_put (suc k) e (r ∷ rs) = ap (λ (ss : List ℕ). suc r ∷ ss) (map_put k e rs)

-- A letter before a word: its cell has the entry 1, and every other entry is one more.
pub placed_cons : (a : ℕ) (w : List ℕ) → Placed a 1 (letters_of w) (map suc (recording_of w)) (letters_of (a ∷ w)) (recording_of (a ∷ w))
unfolding pair_of insert
placed_cons a = snoc_ind (λ w. Placed a 1 (letters_of w) (map suc (recording_of w)) (letters_of (a ∷ w)) (recording_of (a ∷ w))) here step
  where
    step : (w : List ℕ) (b : ℕ) → Placed a 1 (letters_of w) (map suc (recording_of w)) (letters_of (a ∷ w)) (recording_of (a ∷ w))
        → Placed a 1 (letters_of (w ++ (b ∷ []))) (map suc (recording_of (w ++ (b ∷ [])))) (letters_of (a ∷ w ++ (b ∷ []))) (recording_of (a ∷ w ++ (b ∷ [])))
    step w b p =
        rw (letters_snoc w b, recording_snoc w b, letters_snoc (a ∷ w) b, recording_snoc (a ∷ w) b, map_put (seat b (letters_of w)) (suc (length w)) (recording_of w))
        (placed_insert b (suc (suc (length w))) 0 p (letters-rising w) (letters-rising (a ∷ w)))

-- ---- the cell taken out

-- The place of an entry that no other cell has is that of the one cell more.
pub placed_drop : (k : ℕ) {a e : ℕ} {xs rs ys ss : List ℕ} → Placed a e xs rs ys ss → count e rs ≡ 0 → k < length ss → get_or ss k 0 ≡ e
    → (without k ys ≡ xs) × (without k ss ≡ rs) × (get_or ys k 0 ≡ a)
placed_drop zero here n l q = (refl, refl, refl)
placed_drop (suc k) {e = e} (here {rs = rs}) n l q =
    let c : 1 ≤ count e rs = rw q at (count_at rs k (omega arith)) in let z : ⊥ = omega arith in absurd z
placed_drop zero {e = e} (later {r = r} {rs = rs} p) n l q =
    let none : count r (r ∷ rs) ≡ 0 = ap (λ (z : ℕ). count z (r ∷ rs)) q ∙ n in let z : ⊥ = omega (arith, count_head r rs, none) in absurd z
placed_drop (suc k) {e = e} (later {x = x} {r = r} {rs = rs} p) n l q =
    let rest = placed_drop k p (omega (arith, count_tail e r rs)) (omega arith) q in
    (ap (λ (zs : List ℕ). x ∷ zs) rest.0, ap (λ (zs : List ℕ). r ∷ zs) rest.1, rest.2)

lowered_raised : (rs : List ℕ) → lowered (map suc rs) ≡ rs
lowered_raised [] = refl
lowered_raised (r ∷ rs) = ap₂ ◌∷◌ (omega arith) (lowered_raised rs)

-- ---- marks

descents_after_raised : (r : ℕ) (rs : List ℕ) → descents_after (suc r) (map suc rs) ≡ descents_after r rs
descents_after_raised r [] = refl
descents_after_raised r (s ∷ ss) = rw (leb-suc-suc (suc s) r) (ap (λ (ms : List ℕ). tick (ltb s r) 0 ∷ ms) (descents_after_raised s ss))

descents_raised : (rs : List ℕ) → descents (map suc rs) ≡ descents rs
descents_raised [] = refl
descents_raised (r ∷ rs) = ap (λ (ms : List ℕ). 0 ∷ ms) (descents_after_raised r rs)

descents_after_drop : (r k : ℕ) (rs : List ℕ)
    → descents_after r (without k rs) ≡ set (without k (descents_after r rs)) k (tick (ltb (get_or rs (suc k) 0) (get_or (r ∷ rs) k 0)) 0)
descents_after_drop r zero [] = refl
descents_after_drop r zero (s ∷ []) = refl
descents_after_drop r zero (s ∷ t ∷ ss) = refl
descents_after_drop r (suc k) [] = refl
descents_after_drop r (suc k) (s ∷ ss) = ap (λ (ms : List ℕ). tick (ltb s r) 0 ∷ ms) (descents_after_drop s k ss)

-- The descents of a list without one entry: only the mark of the next one changes.
pub descents_drop : (k : ℕ) (rs : List ℕ) → descents (without k rs) ≡ set (without k (descents rs)) k (joint k rs)
unfolding joint
descents_drop zero [] = refl
descents_drop zero (r ∷ []) = refl
descents_drop zero (r ∷ s ∷ ss) = refl
descents_drop (suc k) [] = refl
descents_drop (suc k) (r ∷ rs) = ap (λ (ms : List ℕ). 0 ∷ ms) (descents_after_drop r k rs)

-- ---- the first letter leaves

-- The pair of a word without its first letter: the cell with the entry 1, which has that letter, is taken out.
pub oldest_leaves : (w : List ℕ) (k : ℕ) → k < length (recording_of w) → get_or (recording_of w) k 0 ≡ 1
    → (pair_of (drop 1 w) ≡ closed k (pair_of w)) × (get_or w 0 0 ≡ get_or (letters_of w) k 0)
unfolding closed
oldest_leaves [] k l q = let z : ⊥ = omega (arith, length_recording []) in absurd z
oldest_leaves (a ∷ w) k l q =
    let rs : List ℕ = recording_of (a ∷ w) in
    let p : Placed a 1 (letters_of w) (map suc (recording_of w)) (letters_of (a ∷ w)) rs = placed_cons a w in
    let once : count 1 rs ≡ 1 = (recording_of_word (a ∷ w)).once 1 (omega arith) (omega arith) in
    let none : count 1 (map suc (recording_of w)) ≡ 0 = omega (arith, count_placed 1 p) in
    let (letters, entries, letter) = placed_drop k p none l q in
    let recording : recording_of w ≡ lowered (without k rs) = sym (ap lowered entries ∙ lowered_raised (recording_of w)) in
    let marks : marks_of w ≡ set (without k (marks_of (a ∷ w))) k (joint k rs) =
    marks_of_recording w ∙ sym (descents_raised (recording_of w)) ∙ ap descents (sym entries) ∙ descents_drop k rs
    ∙ ap (λ (ms : List ℕ). set (without k ms) k (joint k rs)) (sym (marks_of_recording (a ∷ w))) in
    (λ i. record { letters = sym letters i; marks = marks i; recording = recording i }, sym letter)
