-- Counts, occurrences and precedence in two words written one after the other.
--     count_append, occurs-append, before_append     count, occurs and before of u ++ v, from those of u and v
--     count_tail           a list has each letter at least as often as its tail
--     count-length         no letter stands in a list more often than the list has letters
--     up_to-append, up_to-length     the same two of the count of letters up to a
--     before_snoc          before of w with one letter more at its end
--     occurs_count         a letter occurs where its count is not 0; occurs_same: counted as often in two words, it occurs in both or in neither
--     before_absent        no absent letter stands left of another
-- Assumes nothing.
use Prim.Native.Nat.{ℕ, suc, ◌+◌, ◌≤◌}
use mathlib.Core.Path.{◌≡◌, refl, sym}
use mathlib.Core.List.{List, [], ◌∷◌, ◌++◌}
use mathlib.Core.Bool.{Bool, true, false, ◌&&◌, ◌||◌, and-false, or_assoc, or-false}
use native.Mathlib.Omega.{arith}
use lib.Dec.{eqb, leb, ltb}
use lib.ListN.{length}
use borrow.Author.Tests.{lt-ltb}
use Rattle.hypoplactic.specs.Words.{tick, count, count_up_to, occurs, before}

tick-add : (b : Bool) (m n : ℕ) → tick b (m + n) ≡ tick b m + n
tick-add true m n = omega arith
tick-add false m n = refl

pub count_append : (a : ℕ) (u v : List ℕ) → count a (u ++ v) ≡ count a u + count a v
count_append a [] v = omega arith
count_append a (x ∷ u) v = rw (count_append a u v, tick-add)

-- A list has each letter at least as often as its tail.
pub count_tail : (a x : ℕ) (w : List ℕ) → count a w ≤ count a (x ∷ w)
count_tail a x w = go (eqb x a)
  where
    go : (t : Bool) → count a w ≤ tick t (count a w)
    go true = omega arith
    go false = omega arith

tick_less : (b : Bool) {m n : ℕ} → m ≤ n → tick b m ≤ suc n
tick_less true h = omega arith
tick_less false h = omega arith

-- No letter stands in a list more often than the list has letters.
pub count-length : (a : ℕ) (w : List ℕ) → count a w ≤ length w
count-length a [] = omega arith
count-length a (x ∷ w) = tick_less (eqb x a) (count-length a w)

-- The same of the count of letters up to a.
pub up_to-append : (a : ℕ) (u v : List ℕ) → count_up_to a (u ++ v) ≡ count_up_to a u + count_up_to a v
up_to-append a [] v = omega arith
up_to-append a (x ∷ u) v = rw (up_to-append a u v, tick-add)

pub up_to-length : (a : ℕ) (w : List ℕ) → count_up_to a w ≤ length w
up_to-length a [] = omega arith
up_to-length a (x ∷ w) = tick_less (leb x a) (up_to-length a w)

pub occurs-append : (a : ℕ) (u v : List ℕ) → occurs a (u ++ v) ≡ (occurs a u || occurs a v)
occurs-append a [] v = refl
occurs-append a (x ∷ u) v = rw (occurs-append a u v, or_assoc)

-- The first letter of u taken to the other parts.
regroup : (x p p' u q v : Bool) → (x && (p || p') || (u || q && p' || v)) ≡ ((x && p || u) || (x || q) && p' || v)
regroup false p p' u q v = refl
regroup true true p' u q v = refl
regroup true false true true q v = refl
regroup true false true false q v = refl
regroup true false false u q v = rw (and-false q)

-- Some q stands left of some p in u, in v, or across.
pub before_append : (u v : List ℕ) (p q : ℕ) → before (u ++ v) p q ≡ (before u p q || occurs q u && occurs p v || before v p q)
before_append [] v p q = refl
before_append (x ∷ u) v p q =
    rw (before_append u v p q, occurs-append p u v) (regroup (eqb x q) (occurs p u) (occurs p v) (before u p q) (occurs q u) (before v p q))

-- One letter more at the end has every letter of the word left of it.
pub before_snoc : (w : List ℕ) (a p q : ℕ) → before (w ++ (a ∷ [])) p q ≡ (before w p q || occurs q w && eqb a p)
before_snoc w a p q = rw (before_append w (a ∷ []) p q) (simp (or-false, and-false))

-- A letter occurs where it is counted.
pub occurs_count : (a : ℕ) (w : List ℕ) → occurs a w ≡ ltb 0 (count a w)
occurs_count a [] = refl
occurs_count a (x ∷ w) = go (eqb x a) (occurs_count a w)
  where
    go : (b : Bool) → occurs a w ≡ ltb 0 (count a w) → (b || occurs a w) ≡ ltb 0 (tick b (count a w))
    go true e = sym (lt-ltb 0 (suc (count a w)) (omega arith))
    go false e = e

-- A letter counted as often in both occurs in both or in neither.
pub occurs_same : (a : ℕ) (u v : List ℕ) → count a u ≡ count a v → occurs a u ≡ occurs a v
occurs_same a u v e = rw (occurs_count a u, occurs_count a v, e)

-- An absent letter stands left of none.
pub before_absent : (w : List ℕ) (p q : ℕ) → occurs q w ≡ false → before w p q ≡ false
before_absent [] p q e = refl
before_absent (x ∷ w) p q e = go (eqb x q) (before_absent w p q) e
  where
    go : (b : Bool) → (occurs q w ≡ false → before w p q ≡ false) → (b || occurs q w) ≡ false → (b && occurs p w || before w p q) ≡ false
    go true rest e = cc
    go false rest e = rest e
