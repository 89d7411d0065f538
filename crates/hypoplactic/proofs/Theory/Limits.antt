-- Words within a rank, and what is not in them.
--     count-outside       in a word within n each letter outside 1 to n is counted 0 times
--     occurs_none         a letter that is not counted does not occur
--     letters-within      the tableau of a word within n has letters within n
--     within_more         a word within n is within every larger rank
--     accepted_within     the letters of an accepted word are 1 to 64
--     and_both            two tests that pass together pass each
-- Assumes nothing.
use Prim.Native.Nat.{ℕ, ◌≤◌}
use mathlib.Core.Path.{◌≡◌, refl, ap, ◌∙◌}
use mathlib.Core.Logic.{⊎_elim}
use mathlib.Core.Bool.{Bool, true, false, ◌&&◌, false≢true}
use mathlib.Core.List.{List, [], ◌∷◌}
use native.Mathlib.Nat.{eq-zero-or-pos}
use native.Mathlib.Omega.{arith}
use lib.Dec.{ltb}
use Rattle.hypoplactic.specs.Words.{Accepted, Inside, Within, count, occurs}
use Rattle.hypoplactic.specs.Insertion.{letters_of}
use Rattle.hypoplactic.proofs.Theory.Contents.{within-counts}
use Rattle.hypoplactic.proofs.Theory.Letters.{count-letters}
use Rattle.hypoplactic.proofs.Theory.Occurrences.{occurs_count}

-- Two tests that pass together pass each.
pub and_both : (a b : Bool) → (a && b) ≡ true → (a ≡ true) × (b ≡ true)
and_both true b e = (refl, e)
and_both false b e = absurd (false≢true e)

-- A letter that is not counted does not occur.
pub occurs_none : (a : ℕ) (w : List ℕ) → count a w ≡ 0 → occurs a w ≡ false
occurs_none a w e = occurs_count a w ∙ ap (ltb 0) e

-- A letter outside 1 to n is not in a word within n.
pub count-outside : {n : ℕ} (a : ℕ) (w : List ℕ) → Within n w → ¬ Inside n a → count a w ≡ 0
count-outside {n} a w h o = ⊎_elim (λ e. e) (λ c. absurd (o ((within-counts n w).0 h a c))) (eq-zero-or-pos (count a w))

-- The letters of a word's tableau are within the same rank.
pub letters-within : (n : ℕ) (w : List ℕ) → Within n w → Within n (letters_of w)
letters-within n w h = (within-counts n (letters_of w)).1 (λ a c. (within-counts n w).0 h a (rw (count-letters a w) at c))

-- Letters of one rank are letters of every larger one.
pub within_more : {n m : ℕ} (w : List ℕ) → n ≤ m → Within n w → Within m w
within_more [] h i = tt
within_more (x ∷ w) h i = (i.0, omega arith, within_more w h i.2)

-- The letters of an accepted word are 1 to 64.
pub accepted_within : {n : ℕ} {w : List ℕ} → Accepted n w → Within 64 w
accepted_within {w = w} a = within_more w a.rank_high a.letters
