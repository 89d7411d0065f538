-- One cell more in a pair of letters and recording entries, at any place, and what it does to the word of the pair.
--     Placed a e xs rs ys ss     ys and ss are xs and rs with the letter a and the entry e put in at one place
--     placed_at                  put_at at one place in both lists does so
--     Once n rs                  each of 1 to n stands once
--     placed_out                 a cell whose entry is counted can be taken out
--     count_placed, length_placed, under_placed     counts, lengths and bounds of the entries
--     word_at                    the letter at a place of a pair's word is that of the cell whose entry is the place plus 1
--     word_placed                if e is the largest entry, the word gets a at its end
-- Assumes nothing.
use Prim.Native.Nat.{ℕ, zero, suc, ◌+◌, ◌≤◌, ◌<◌}
use native.Mathlib.Nat.{add-zero, add-suc, suc-add}
use native.Mathlib.Numerals.{one-add}
use native.Mathlib.Omega.{arith}
use mathlib.Core.Path.{◌≡◌, refl, ap, ap₂, ◌∙◌}
use mathlib.Core.List.{List, [], ◌∷◌, ◌++◌}
use mathlib.Core.Bool.{Bool, true, false, cond}
use lib.Dec.{eqb}
use lib.ListN.{length, get_or}
use borrow.Author.Tests.{eq-eqb, eqb-true, ne_eqb}
use Rattle.hypoplactic.specs.Words.{count, tick}
use Rattle.hypoplactic.specs.Insertion.{letter_with, put_at, word_from, word_of}
use Rattle.hypoplactic.proofs.Theory.Seating.{Under}

-- The cells of ys and ss are those of xs and rs and one more, with the letter a and the entry e.
pub data Placed (a e : ℕ) : List ℕ → List ℕ → List ℕ → List ℕ → Type 0 where
  here : {xs rs : List ℕ} → Placed a e xs rs (a ∷ xs) (e ∷ rs)
  later : {x r : ℕ} {xs rs ys ss : List ℕ} → Placed a e xs rs ys ss → Placed a e (x ∷ xs) (r ∷ rs) (x ∷ ys) (r ∷ ss)

-- A cell put into both lists at one place.
pub placed_at : (a e k : ℕ) (xs rs : List ℕ) → length xs ≡ length rs → Placed a e xs rs (put_at k a xs) (put_at k e rs)
placed_at a e zero xs rs h = here
placed_at a e (suc k) [] [] h = here
placed_at a e (suc k) [] (r ∷ rs) h = let z : ⊥ = omega arith in absurd z
placed_at a e (suc k) (x ∷ xs) [] h = let z : ⊥ = omega arith in absurd z
placed_at a e (suc k) (x ∷ xs) (r ∷ rs) h = later (placed_at a e k xs rs (omega arith))

-- ---- taking a cell out

-- A pair out of which the cell with the entry e was taken.
pub record Without (e : ℕ) (ys ss : List ℕ) : Type 0 where
  pub taken : ℕ
  pub letters : List ℕ
  pub entries : List ℕ
  pub placed : Placed taken e letters entries ys ss

-- The first cell with a counted entry can be taken out.
pub placed_out : (e : ℕ) (ys ss : List ℕ) → length ys ≡ length ss → 0 < count e ss → Without e ys ss
placed_out e [] [] l h = let z : ⊥ = omega arith in absurd z
placed_out e [] (s ∷ ss) l h = let z : ⊥ = omega arith in absurd z
placed_out e (y ∷ ys) [] l h = let z : ⊥ = omega arith in absurd z
placed_out e (y ∷ ys) (s ∷ ss) l h = go (eqb s e) refl h (placed_out e ys ss (omega arith))
  where
    go : (b : Bool) → eqb s e ≡ b → 0 < tick b (count e ss) → (0 < count e ss → Without e ys ss) → Without e (y ∷ ys) (s ∷ ss)
    go true q k rest = record { taken = y; letters = ys; entries = ss; placed = rw (eqb-true s e q) here }
    go false q k rest =
        let r : Without e ys ss = rest k in
        record { taken = r.taken; letters = y ∷ r.letters; entries = s ∷ r.entries; placed = later r.placed }

-- ---- counts, lengths, bounds

-- Each of 1 to n stands once.
abbrev pub Once : ℕ → List ℕ → Type 0
Once n rs = (e : ℕ) → 1 ≤ e → e ≤ n → count e rs ≡ 1

-- The new entry is counted once more, and no other.
pub count_placed : (d : ℕ) {a e : ℕ} {xs rs ys ss : List ℕ} → Placed a e xs rs ys ss → count d ss ≡ tick (eqb e d) (count d rs)
count_placed d here = refl
count_placed d {e = e} (later {r = r} {rs = rs} p) = rw (count_placed d p) (swap (eqb r d) (eqb e d) (count d rs))
  where
    swap : (b c : Bool) (n : ℕ) → tick b (tick c n) ≡ tick c (tick b n)
    swap true true n = refl
    swap true false n = refl
    swap false true n = refl
    swap false false n = refl

-- Both lists are one longer.
pub length_placed : {a e : ℕ} {xs rs ys ss : List ℕ} → Placed a e xs rs ys ss → (length ys ≡ suc (length xs)) × (length ss ≡ suc (length rs))
length_placed here = (refl, refl)
length_placed (later p) = (ap suc (length_placed p).0, ap suc (length_placed p).1)

-- A bound of the entries that the new one keeps.
pub under_placed : (n : ℕ) {a e : ℕ} {xs rs ys ss : List ℕ} → Placed a e xs rs ys ss → e < n → Under n rs → Under n ss
under_placed n here h u = (h, u)
under_placed n (later p) h u = (u.0, under_placed n p h u.1)

pub under_larger : (m n : ℕ) (rs : List ℕ) → m ≤ n → Under m rs → Under n rs
under_larger m n [] h u = tt
under_larger m n (r ∷ rs) h u = let k : r < m = u.0 in (omega arith, under_larger m n rs h u.1)

-- ---- the word of the pair

from_at : (k e : ℕ) (xs rs : List ℕ) (p : ℕ) → p < k → get_or (word_from k e xs rs) p 0 ≡ letter_with (e + p) xs rs
from_at zero e xs rs p l = let z : ⊥ = omega arith in absurd z
from_at (suc k) e xs rs zero l = rw (add-zero e)
from_at (suc k) e xs rs (suc p) l = from_at k (suc e) xs rs p (omega arith) ∙ rw (suc-add e p, add-suc e p)

-- The letter at a place of a pair's word.
pub word_at : (xs rs : List ℕ) (p : ℕ) → p < length xs → get_or (word_of xs rs) p 0 ≡ letter_with (suc p) xs rs
unfolding word_of
word_at xs rs p l = from_at (length xs) 1 xs rs p l ∙ rw (one-add p)

-- An entry other than e has the letter it had,
letter_other : (d : ℕ) {a e : ℕ} {xs rs ys ss : List ℕ} → Placed a e xs rs ys ss → d < e → letter_with d ys ss ≡ letter_with d xs rs
letter_other d {a} {e} here h = rw (ne_eqb e d (omega arith))
letter_other d (later {x = x} {r = r} p) h = ap (cond (eqb r d) x) (letter_other d p h)

-- and e has the letter a, if the others are below it.
letter_placed : {a e : ℕ} {xs rs ys ss : List ℕ} → Placed a e xs rs ys ss → Under e rs → letter_with e ys ss ≡ a
letter_placed {e = e} here u = rw (eq-eqb e e refl)
letter_placed {e = e} (later {r = r} p) u = let h : r < e = u.0 in rw (ne_eqb r e (omega arith)) (letter_placed p u.1)

word_from_snoc : (k e : ℕ) (xs rs : List ℕ) → word_from (suc k) e xs rs ≡ word_from k e xs rs ++ (letter_with (e + k) xs rs ∷ [])
word_from_snoc zero e xs rs = rw (add-zero e)
word_from_snoc (suc k) e xs rs =
    ap (λ (w : List ℕ). letter_with e xs rs ∷ w) (word_from_snoc k (suc e) xs rs ∙ rw (suc-add e k, add-suc e k))

word_from_other : (k d : ℕ) {a e : ℕ} {xs rs ys ss : List ℕ} → Placed a e xs rs ys ss → d + k ≤ e → word_from k d ys ss ≡ word_from k d xs rs
word_from_other zero d p h = refl
word_from_other (suc k) d p h = ap₂ ◌∷◌ (letter_other d p (omega arith)) (word_from_other k (suc d) p (omega arith))

-- The letter of a new largest entry is the last of the word.
pub word_placed : {a n : ℕ} {xs rs ys ss : List ℕ} → length xs ≡ n → Placed a (suc n) xs rs ys ss → Under (suc n) rs
    → word_of ys ss ≡ word_of xs rs ++ (a ∷ [])
unfolding word_of
word_placed {n = n} {ys = ys} {ss = ss} h p u =
    rw ((length_placed p).0, h) (word_from_snoc n 1 ys ss ∙ rw (one-add n, letter_placed p u, word_from_other n 1 p (omega arith)))
