-- Each judgement on numbers and on one list passes exactly when its fact holds. Those on the steps of a ribbon, 5, 6 and 8, are in
-- Theory.StepJudgements.
--     rank_judged_lem, length-judged, alike-judged, used_judged_lem        1, 2, 3, and 3 in insertion
--     letters-judged, entries_judged_lem                               4, 7
--     index_judged_lem, inversion_judged_lem, letter_judged_lem                9, 10, 11
--     full_judged_lem, room_judged_lem                                     12, 13
--     exchange             two pairs of facts, taken the other way
-- Assumes nothing.
use Prim.Native.Nat.{ℕ, suc, ◌≤◌, ◌<◌}
use native.Mathlib.Omega.{arith}
use mathlib.Core.Path.{◌≡◌, refl}
use mathlib.Core.Bool.{Bool, true, false, ◌||◌, not, and-eq-true_iff}
use mathlib.Core.List.{List, [], ◌∷◌}
use mathlib.Core.Logic.Iff
use mathlib.Core.Logic.{◌↔◌}
use mathlib.Mathlib.Data.Bool.Basic.{or-eq-false-eq-eq-false-and-eq-false as or_false_iff}
use lib.Dec.{eqb, ltb, leb}
use borrow.Author.Tests.{ltb-true, ltb-false, le-ltb, leb-false, lt-leb, lt-ltb, eqb-true, eqb-false, eq-eqb, ne_eqb, not-false}
use Rattle.hypoplactic.specs.Words.{All, Inside, Within, count, occurs, tick}
use Rattle.hypoplactic.specs.Ribbons.{Simple}
use Rattle.quasi_crystal.specs.Moves.{index_of}
use Rattle.outcomes.specs.Replies.{Passes}
use Rattle.outcomes.specs.Judgements.{outside, rank_judged, length_judged, alike_judged, used_judged, letters_from, letters_judged, entries_from, entries_judged, index_judged, inversion_judged, letter_judged, full_judged, room_judged}
use Rattle.outcomes.proofs.Theory.Passing.{passes_then, passes_test}

-- ---- tests

at_most : (a b : ℕ) → (ltb a b ≡ false) ↔ (b ≤ a)
at_most a b = (ltb-false a b, le-ltb a b)

outside-inside : (n x : ℕ) → (outside n x ≡ false) ↔ Inside n x
outside-inside n x = Iff.trans (or_false_iff (ltb x 1) (ltb n x)) (Iff.and (at_most x 1) (at_most n x))

-- Two pairs of facts, taken the other way.
pub exchange : {A B C D : Type 0} → ((A × B) × (C × D)) ↔ ((A × C) × (B × D))
exchange = (λ h. ((h.0.0, h.1.0), (h.0.1, h.1.1)), λ h. ((h.0.0, h.1.0), (h.0.1, h.1.1)))

-- ---- numbers alone

-- 1: the rank is one of 1 to 64.
pub rank_judged_lem : (n : ℕ) → Passes (rank_judged n) ↔ Inside 64 n
unfolding rank_judged
rank_judged_lem n = passes_test (outside 64 n) 1 0 (outside-inside 64 n)

-- 2: at most 1,024 letters or used cells.
pub length-judged : (k : ℕ) → Passes (length_judged k) ↔ (k ≤ 1024)
unfolding length_judged
length-judged k = passes_test (ltb 1024 k) 2 0 (at_most 1024 k)

-- 9: the index is one of 1 to rank - 1.
pub index_judged_lem : (n i : ℕ) → Passes (index_judged n i) ↔ ((1 ≤ i) × (i < n))
unfolding index_judged
index_judged_lem n i = passes_test (not (index_of n i)) 9 0 (
  λ e. let (low, high) = (and-eq-true_iff (ltb 0 i) (ltb i n)).0 (not-false (index_of n i) e) in (ltb-true 0 i low, ltb-true i n high),
  λ h. rw (lt-ltb 0 i h.0, lt-ltb i n h.1),
)

-- 10: there is no inversion.
pub inversion_judged_lem : (b : Bool) → Passes (inversion_judged b) ↔ (b ≡ false)
unfolding inversion_judged
inversion_judged_lem b = passes_test b 10 0 Iff.rfl

-- 11: there is a letter to change.
pub letter_judged_lem : (a : ℕ) (w : List ℕ) → Passes (letter_judged a w) ↔ (1 ≤ count a w)
unfolding letter_judged
letter_judged_lem a w = passes_test (eqb (count a w) 0) 11 0 (λ e. omega (arith, eqb-false (count a w) 0 e), λ h. ne_eqb (count a w) 0 (λ e. omega arith))

-- 12: fewer than 1,024 cells.
pub full_judged_lem : (k : ℕ) → Passes (full_judged k) ↔ (k < 1024)
unfolding full_judged
full_judged_lem k = passes_test (leb 1024 k) 12 1024 (leb-false 1024 k, lt-leb 1024 k)

-- 13: the output is long enough.
pub room_judged_lem : (need have : ℕ) → Passes (room_judged need have) ↔ (need ≤ have)
unfolding room_judged
room_judged_lem need have = passes_test (ltb have need) 13 need (at_most have need)

-- ---- lists of numbers

-- 3: every part is as long as the letters.
pub alike-judged : (k : ℕ) (ls : List ℕ) → Passes (alike_judged k ls) ↔ All (λ l. l ≡ k) ls
unfolding alike_judged
alike-judged k [] = Iff.rfl
alike-judged k (l ∷ ls) = passes_then (not (eqb l k)) 3 0 _ (λ e. eqb-true l k (not-false _ e), λ e. rw (eq-eqb l k e)) (alike-judged k ls)

-- 3 in insertion: the used count is above none of the lengths.
pub used_judged_lem : (k : ℕ) (ls : List ℕ) → Passes (used_judged k ls) ↔ All (λ l. k ≤ l) ls
unfolding used_judged
used_judged_lem k [] = Iff.rfl
used_judged_lem k (l ∷ ls) = passes_then (ltb l k) 3 0 _ (at_most l k) (used_judged_lem k ls)

within-cons : (n x : ℕ) (xs : List ℕ) → ((outside n x ≡ false) × Within n xs) ↔ Within n (x ∷ xs)
within-cons n x xs =
    (λ h. let (low, high) = (outside-inside n x).0 h.0 in (low, high, h.1), λ h. ((outside-inside n x).1 (h.0, h.1), h.2))

letters_from_lem : (n i : ℕ) (xs : List ℕ) → Passes (letters_from n i xs) ↔ Within n xs
letters_from_lem n i [] = Iff.rfl
letters_from_lem n i (x ∷ xs) = Iff.trans (passes_then (outside n x) 4 i _ Iff.rfl (letters_from_lem n (suc i) xs)) (within-cons n x xs)

-- 4: each letter is one of 1 to rank.
pub letters-judged : (n : ℕ) (xs : List ℕ) → Passes (letters_judged n xs) ↔ Within n xs
unfolding letters_judged
letters-judged n xs = letters_from_lem n 0 xs

-- Neither met nor twice in what is left.
abbrev New : List ℕ → List ℕ → Type 0
New met rs = (e : ℕ) → tick (occurs e met) (count e rs) ≤ 1

new_cons : (r : ℕ) (met rs : List ℕ) → ((occurs r met ≡ false) × New (r ∷ met) rs) ↔ New met (r ∷ rs)
new_cons r met rs = (λ h e. there e h.0 (eqb r e) refl (h.1 e), λ h. (head (occurs r met) (rw (eq-eqb r r refl) at (h r)), λ e. back e (eqb r e) (occurs e met) (h e)))
  where
    there : (e : ℕ) → occurs r met ≡ false → (c : Bool) → eqb r e ≡ c → tick (c || occurs e met) (count e rs) ≤ 1 → tick (occurs e met) (tick c (count e rs)) ≤ 1
    there e o true p h = let q : occurs e met ≡ false = rw (eqb-true r e p) at o in rw q h
    there e o false p h = h

    head : (b : Bool) → tick b (suc (count r rs)) ≤ 1 → b ≡ false
    head true h = let z : ⊥ = omega arith in absurd z
    head false h = refl

    back : (e : ℕ) (c b : Bool) → tick b (tick c (count e rs)) ≤ 1 → tick (c || b) (count e rs) ≤ 1
    back e true true h = omega arith
    back e true false h = h
    back e false b h = h

entries_from_lem : (L : ℕ) (met : List ℕ) (i : ℕ) (rs : List ℕ) → Passes (entries_from L met i rs) ↔ (Within L rs × New met rs)
entries_from_lem L met i [] = (λ h. (tt, λ e. tick-nil (occurs e met)), λ h. tt)
  where
    tick-nil : (b : Bool) → tick b 0 ≤ 1
    tick-nil true = omega arith
    tick-nil false = omega arith
entries_from_lem L met i (r ∷ rs) = Iff.trans
    (passes_then (outside L r || occurs r met) 7 i _ (or_false_iff (outside L r) (occurs r met)) (entries_from_lem L (r ∷ met) (suc i) rs))
    (Iff.trans exchange (Iff.and (within-cons L r rs) (new_cons r met rs)))

-- 7: each entry is one of 1 to L, and none stands twice.
pub entries_judged_lem : (L : ℕ) (rs : List ℕ) → Passes (entries_judged L rs) ↔ (Within L rs × Simple rs)
unfolding entries_judged
entries_judged_lem L rs = entries_from_lem L [] 0 rs
