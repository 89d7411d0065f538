-- 14 comes from the grammar alone: no other check refuses with that number.
--     Other s, Others js       no refusal, or one with another number than 14; so of each of a list
--     test_other               a test that refuses with another number; first_other: so of the first refusal of a list
--     rank_other, length_other, alike_other, letters_other, rising_other, marks_other, entries_other, recording_other, room_other     1 to 8, 13
-- Assumes nothing.
use Prim.Native.Nat.{ℕ, suc}
use mathlib.Core.Path.{◌≡◌}
use mathlib.Core.Bool.{Bool, true, false, not, ◌&&◌, ◌||◌}
use mathlib.Core.List.{List, [], ◌∷◌}
use native.Mathlib.Omega.{arith}
use lib.Dec.{eqb, ltb}
use Rattle.hypoplactic.specs.Words.{occurs}
use Rattle.outcomes.specs.Replies.{Said, gives, refused, first, passed, refuse_if}
use Rattle.outcomes.specs.Judgements.{outside, rank_judged, length_judged, alike_judged, letters_from, letters_judged, rising_from, rising_judged, marks_from, marks_judged, entries_from, entries_judged, step_broken, steps_from, recording_judged, room_judged}

-- No refusal, or one with another number than 14.
abbrev pub Other : Said → Type 0
Other (gives vs) = Unit {0}
Other (refused k p) = k ≡ 14 → ⊥

pub test_other : (b : Bool) (k p : ℕ) (s : Said) → (k ≡ 14 → ⊥) → Other s → Other (refuse_if b k p s)
test_other true k p s l h = l
test_other false k p s l h = h

abbrev pub Others : List Said → Type 0
Others [] = Unit {0}
Others (j ∷ js) = Other j × Others js

pub first_other : (js : List Said) (vs : List ℕ) → Others js → Other (first js (gives vs))
first_other [] vs h = tt
first_other (gives us ∷ js) vs h = first_other js vs h.1
first_other (refused k p ∷ js) vs h = h.0

pub rank_other : (n : ℕ) → Other (rank_judged n)
unfolding rank_judged
rank_other n = test_other (outside 64 n) 1 0 passed (λ e. omega arith) tt

pub length_other : (k : ℕ) → Other (length_judged k)
unfolding length_judged
length_other k = test_other (ltb 1024 k) 2 0 passed (λ e. omega arith) tt

pub alike_other : (k : ℕ) (ls : List ℕ) → Other (alike_judged k ls)
unfolding alike_judged
alike_other k [] = tt
alike_other k (l ∷ ls) = test_other (not (eqb l k)) 3 0 (alike_judged k ls) (λ e. omega arith) (alike_other k ls)

letters_from_lem : (n i : ℕ) (xs : List ℕ) → Other (letters_from n i xs)
letters_from_lem n i [] = tt
letters_from_lem n i (x ∷ xs) = test_other (outside n x) 4 i (letters_from n (suc i) xs) (λ e. omega arith) (letters_from_lem n (suc i) xs)

pub letters_other : (n : ℕ) (xs : List ℕ) → Other (letters_judged n xs)
unfolding letters_judged
letters_other n xs = letters_from_lem n 0 xs

rising_from_lem : (i x : ℕ) (xs : List ℕ) → Other (rising_from i x xs)
rising_from_lem i x [] = tt
rising_from_lem i x (y ∷ ys) = test_other (ltb y x) 5 i (rising_from (suc i) y ys) (λ e. omega arith) (rising_from_lem (suc i) y ys)

pub rising_other : (xs : List ℕ) → Other (rising_judged xs)
unfolding rising_judged
rising_other [] = tt
rising_other (x ∷ xs) = rising_from_lem 1 x xs

marks_from_lem : (i x : ℕ) (xs ms : List ℕ) → Other (marks_from i x xs ms)
marks_from_lem i x [] ms = tt
marks_from_lem i x (y ∷ ys) [] = tt
marks_from_lem i x (y ∷ ys) (m ∷ ms) = test_other (ltb 1 m || eqb m 1 && eqb x y) 6 i (marks_from (suc i) y ys ms) (λ e. omega arith) (marks_from_lem (suc i) y ys ms)

pub marks_other : (xs ms : List ℕ) → Other (marks_judged xs ms)
unfolding marks_judged
marks_other [] ms = tt
marks_other (x ∷ xs) [] = tt
marks_other (x ∷ xs) (m ∷ ms) = test_other (ltb 0 m) 6 0 (marks_from 1 x xs ms) (λ e. omega arith) (marks_from_lem 1 x xs ms)

entries_from_lem : (L i : ℕ) (met rs : List ℕ) → Other (entries_from L met i rs)
entries_from_lem L i met [] = tt
entries_from_lem L i met (r ∷ rs) = test_other (outside L r || occurs r met) 7 i (entries_from L (r ∷ met) (suc i) rs) (λ e. omega arith) (entries_from_lem L (suc i) (r ∷ met) rs)

pub entries_other : (L : ℕ) (rs : List ℕ) → Other (entries_judged L rs)
unfolding entries_judged
entries_other L rs = entries_from_lem L 0 [] rs

steps_from_lem : (i r : ℕ) (ss ms : List ℕ) → Other (steps_from i r ss ms)
steps_from_lem i r [] ms = tt
steps_from_lem i r (s ∷ ss) [] = tt
steps_from_lem i r (s ∷ ss) (m ∷ ms) = test_other (step_broken m r s) 8 i (steps_from (suc i) s ss ms) (λ e. omega arith) (steps_from_lem (suc i) s ss ms)

pub recording_other : (rs ms : List ℕ) → Other (recording_judged rs ms)
unfolding recording_judged
recording_other [] ms = tt
recording_other (r ∷ rs) [] = tt
recording_other (r ∷ rs) (m ∷ ms) = steps_from_lem 1 r rs ms

pub room_other : (need have : ℕ) → Other (room_judged need have)
unfolding room_judged
room_other need have = test_other (ltb have need) 13 need passed (λ e. omega arith) tt
