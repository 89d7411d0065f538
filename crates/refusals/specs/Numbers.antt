-- What the checks on numbers come to: each is a refusal by one test: it refuses where the test holds, and passes where it does not.
--     rank_said, length_said, alike_said, parts_said, used_said, index_said, full_said, room_said      what each says, from its test
--     together_said                                                                                     2 of a sum, from numbers cut to 1,025
--     rank_refused, rank_passed, and so for length, alike, parts, used, index, full, room               what each says, from the comparisons that the test makes
--     checking                                                                                          the ruleset of these checks
-- Assumes nothing.
use Rattle.std.specs.Prelude.{ℕ, ◌+◌, ◌≤◌, ◌<◌, min, ◌≡◌, refl, ◌⊎◌, [], ◌∷◌, Bool, true, false, ◌||◌, not, eqb, leb}
use Rattle.std.proofs.Common.{sym, ◌∙◌, inl, inr, arith, rules, lt-ltb, le-ltb, le-leb, eq-eqb}
use Rattle.std.proofs.Math.Dec.{ltb}
use Rattle.std.proofs.lemmas.Bool.{lt-leb}
use borrow.Author.Tests.{ne_eqb}
use Rattle.quasi_crystal.specs.Moves.{index_of}
use Rattle.outcomes.specs.Replies.{Said, gives, passed, refused, refuse_if}
use Rattle.outcomes.specs.Judgements.{outside, rank_judged, length_judged, alike_judged, used_judged, index_judged, full_judged, room_judged}
use Rattle.hypoplactic.proofs.Theory.Pairs.{le-or-lt}

-- A refusal by one of two tests.
one_or_other : (a b : Bool) (k p : ℕ) (s : Said) → refuse_if (a || b) k p s ≡ refuse_if a k p (refuse_if b k p s)
one_or_other true b k p s = refl
one_or_other false b k p s = refl

-- An index is 1 to rank - 1, unless it is below 1 or from the rank on.
no_index : (n i : ℕ) → not (index_of n i) ≡ (ltb i 1 || leb n i)
no_index n i = low (le-or-lt 1 i)
  where
    high : 1 ≤ i → (n ≤ i) ⊎ (i < n) → not (index_of n i) ≡ (ltb i 1 || leb n i)
    high h (inl l) = rw (lt-ltb 0 i h, le-ltb i n l, le-ltb i 1 h, le-leb n i l)
    high h (inr l) = rw (lt-ltb 0 i h, lt-ltb i n l, le-ltb i 1 h, lt-leb n i l)

    low : (1 ≤ i) ⊎ (i < 1) → not (index_of n i) ≡ (ltb i 1 || leb n i)
    low (inl h) = high h (le-or-lt n i)
    low (inr h) = let none : i ≤ 0 = omega arith in rw (lt-ltb i 1 h, le-ltb 0 i none)

-- A sum is above 1,024 exactly where it is with each number cut to 1,025.
cut_sum : (a b : ℕ) → ltb 1024 (min a 1025 + min b 1025) ≡ ltb 1024 (a + b)
cut_sum a b = go (le-or-lt (a + b) 1024)
  where
    go : (a + b ≤ 1024) ⊎ (1024 < a + b) → ltb 1024 (min a 1025 + min b 1025) ≡ ltb 1024 (a + b)
    go (inl l) = le-ltb 1024 (min a 1025 + min b 1025) (omega arith) ∙ sym (le-ltb 1024 (a + b) l)
    go (inr l) = lt-ltb 1024 (min a 1025 + min b 1025) (omega arith) ∙ sym (lt-ltb 1024 (a + b) l)

-- ---- what each check says, from its test

module _ {r : Said} {b : Bool} where
  pub rank_said : (n : ℕ) → r ≡ refuse_if b 1 0 passed → b ≡ outside 64 n → r ≡ rank_judged n
  unfolding rank_judged
  rank_said n h e = rw (← e) h

  pub parts_said : (k l m : ℕ) → r ≡ refuse_if b 3 0 passed → b ≡ (not (eqb l k) || not (eqb m k)) → r ≡ alike_judged k (l ∷ m ∷ [])
  unfolding alike_judged
  parts_said k l m h e = rw e at h ∙ one_or_other (not (eqb l k)) (not (eqb m k)) 3 0 passed

  pub index_said : (n i : ℕ) → r ≡ refuse_if b 9 0 passed → b ≡ (ltb i 1 || leb n i) → r ≡ index_judged n i
  unfolding index_judged
  index_said n i h e = rw (no_index n i, ← e) h

pub length_said : {r : Said} (k : ℕ) → r ≡ refuse_if (ltb 1024 k) 2 0 passed → r ≡ length_judged k
unfolding length_judged
length_said k h = h

pub together_said : {r : Said} {x y : ℕ} (a b : ℕ) → r ≡ length_judged (x + y) → x ≡ min a 1025 → y ≡ min b 1025 → r ≡ length_judged (a + b)
unfolding length_judged
together_said a b h e f = rw (← cut_sum a b, ← e, ← f) h

pub alike_said : {r : Said} (k l : ℕ) → r ≡ refuse_if (not (eqb l k)) 3 0 passed → r ≡ alike_judged k (l ∷ [])
unfolding alike_judged
alike_said k l h = h

pub used_said : {r : Said} (k x y z : ℕ) → r ≡ refuse_if ((ltb x k || ltb y k) || ltb z k) 3 0 passed → r ≡ used_judged k (x ∷ y ∷ z ∷ [])
unfolding used_judged
used_said k x y z h =
    h ∙ one_or_other (ltb x k || ltb y k) (ltb z k) 3 0 passed ∙ one_or_other (ltb x k) (ltb y k) 3 0 (refuse_if (ltb z k) 3 0 passed)

pub full_said : {r : Said} (k : ℕ) → r ≡ refuse_if (leb 1024 k) 12 1024 passed → r ≡ full_judged k
unfolding full_judged
full_said k h = h

pub room_said : {r : Said} (need have : ℕ) → r ≡ refuse_if (ltb have need) 13 need passed → r ≡ room_judged need have
unfolding room_judged
room_said need have h = h

-- ---- what each check says, from the comparisons that its test makes

pub rank_refused : (n : ℕ) → (n < 1) ⊎ ((1 ≤ n) × (64 < n)) → refused 1 0 ≡ rank_judged n
unfolding rank_judged
rank_refused n (inl h) = rw (lt-ltb n 1 h)
rank_refused n (inr h) = rw (le-ltb n 1 h.0, lt-ltb 64 n h.1)

pub rank_passed : (n : ℕ) → 1 ≤ n → n ≤ 64 → gives [] ≡ rank_judged n
unfolding rank_judged
rank_passed n h l = rw (le-ltb n 1 h, le-ltb 64 n l)

pub length_refused : (k : ℕ) → 1024 < k → refused 2 0 ≡ length_judged k
unfolding length_judged
length_refused k h = rw (lt-ltb 1024 k h)

pub length_passed : (k : ℕ) → k ≤ 1024 → gives [] ≡ length_judged k
unfolding length_judged
length_passed k h = rw (le-ltb 1024 k h)

pub alike_refused : (k l : ℕ) → (l ≡ k → ⊥) → refused 3 0 ≡ alike_judged k (l ∷ [])
unfolding alike_judged
alike_refused k l h = rw (ne_eqb l k h)

pub alike_passed : (k l : ℕ) → l ≡ k → gives [] ≡ alike_judged k (l ∷ [])
unfolding alike_judged
alike_passed k l e = rw (eq-eqb l k e)

pub parts_refused : (k l m : ℕ) → (l ≡ k → ⊥) ⊎ ((l ≡ k) × (m ≡ k → ⊥)) → refused 3 0 ≡ alike_judged k (l ∷ m ∷ [])
unfolding alike_judged
parts_refused k l m (inl h) = rw (ne_eqb l k h)
parts_refused k l m (inr h) = rw (eq-eqb l k h.0, ne_eqb m k h.1)

pub parts_passed : (k l m : ℕ) → l ≡ k → m ≡ k → gives [] ≡ alike_judged k (l ∷ m ∷ [])
unfolding alike_judged
parts_passed k l m e h = rw (eq-eqb l k e, eq-eqb m k h)

pub used_refused : (k x y z : ℕ) → (x < k) ⊎ (((k ≤ x) × (y < k)) ⊎ ((k ≤ x) × (k ≤ y) × (z < k))) → refused 3 0 ≡ used_judged k (x ∷ y ∷ z ∷ [])
unfolding used_judged
used_refused k x y z (inl h) = rw (lt-ltb x k h)
used_refused k x y z (inr (inl h)) = rw (le-ltb x k h.0, lt-ltb y k h.1)
used_refused k x y z (inr (inr h)) = rw (le-ltb x k h.0, le-ltb y k h.1, lt-ltb z k h.2)

pub used_passed : (k x y z : ℕ) → k ≤ x → k ≤ y → k ≤ z → gives [] ≡ used_judged k (x ∷ y ∷ z ∷ [])
unfolding used_judged
used_passed k x y z h i j = rw (le-ltb x k h, le-ltb y k i, le-ltb z k j)

pub index_refused : (n i : ℕ) → (i < 1) ⊎ ((1 ≤ i) × (n ≤ i)) → refused 9 0 ≡ index_judged n i
unfolding index_judged
index_refused n i (inl h) = let none : i ≤ 0 = omega arith in rw (le-ltb 0 i none)
index_refused n i (inr h) = rw (lt-ltb 0 i h.0, le-ltb i n h.1)

pub index_passed : (n i : ℕ) → 1 ≤ i → i < n → gives [] ≡ index_judged n i
unfolding index_judged
index_passed n i h l = rw (lt-ltb 0 i h, lt-ltb i n l)

pub full_refused : (k : ℕ) → 1024 ≤ k → refused 12 1024 ≡ full_judged k
unfolding full_judged
full_refused k h = rw (le-leb 1024 k h)

pub full_passed : (k : ℕ) → k < 1024 → gives [] ≡ full_judged k
unfolding full_judged
full_passed k h = rw (lt-leb 1024 k h)

pub room_refused : (need have : ℕ) → have < need → refused 13 need ≡ room_judged need have
unfolding room_judged
room_refused need have h = rw (lt-ltb have need h)

pub room_passed : (need have : ℕ) → need ≤ have → gives [] ≡ room_judged need have
unfolding room_judged
room_passed need have h = rw (le-ltb have need h)

pub ruleset checking = (
  rank_said,
  length_said,
  together_said,
  alike_said,
  parts_said,
  used_said,
  index_said,
  full_said,
  room_said,
  rank_refused,
  rank_passed,
  length_refused,
  length_passed,
  alike_refused,
  alike_passed,
  parts_refused,
  parts_passed,
  used_refused,
  used_passed,
  index_refused,
  index_passed,
  full_refused,
  full_passed,
  room_refused,
  room_passed,
  rules,
)
