-- The check 4: as a scan for the first letter outside 1 to rank, and by the least and the largest letter, since where both are inside, so is every
-- letter, and the check passes.
--     letters_scanned                        the check is the search for the first letter that is outside
--     Confirmed n xs b                       b is true only where each letter is inside 1 to n
--     Bounding xs least largest i            the loop's invariant: the letters before i are from least to largest
--     bounds_start, bounds_turn, bounds_end  where it begins, after one more letter, past the last one
--     unconfirmed                            false confirms nothing
--     confirmed_passed                       confirmed letters pass the check
--     bounding                               the ruleset of the check by bounds
-- Assumes nothing.
use Rattle.std.specs.Prelude.{ℕ, suc, ◌+◌, ◌<◌, ◌≤◌, max, min, ◌≡◌, refl, Bool, true, false, List, [], ◌∷◌, ◌⊎◌, leb, length, get_or, cond, Option, Some}
use Rattle.std.proofs.Common.{not-suc-le-zero, add-one, arith, sym, ap, ◌∙◌, true≢false, inl, inr, rules, le-ltb, leb-true}
use Rattle.hypoplactic.specs.Words.{Within}
use Rattle.outcomes.specs.Replies.{Said, gives, refuse_if}
use Rattle.outcomes.specs.Judgements.{letters_from, letters_judged, outside}
use Rattle.hypoplactic.proofs.Theory.Pairs.{le-or-lt}
use Rattle.refusals.specs.Said.{said_fault}
use Rattle.std.specs.List.{position, position_from}
use Rattle.std.proofs.lemmas.Iterator.Adapters.{position_from-zero}

-- ---- the scan

-- One more letter of the scan.
one_more : (b : Bool) (i : ℕ) (r : Option ℕ) (s : Said) → said_fault 4 r ≡ s → said_fault 4 (cond b (Some i) r) ≡ refuse_if b 4 i s
one_more true i r s h = refl
one_more false i r s h = h

scan_letters : (n i : ℕ) (xs : List ℕ) → said_fault 4 (position_from (outside n) i xs) ≡ letters_from n i xs
scan_letters n i [] = refl
scan_letters n i (x ∷ xs) = one_more (outside n x) i _ _ (rw (add-one i) (scan_letters n (suc i) xs))

-- The check is the search for the first letter that is outside.
pub letters_scanned : {f : Option ℕ} (n : ℕ) (xs : List ℕ) → f ≡ position (outside n) xs → said_fault 4 f ≡ letters_judged n xs
unfolding letters_judged
letters_scanned n xs e = ap (said_fault 4) (e ∙ position_from-zero (outside n) xs) ∙ scan_letters n 0 xs

-- ---- the bounds

-- What a test of all letters at once shows where it is true. Of false nothing is said: the scan for the first place then decides.
pub record Confirmed (n : ℕ) (xs : List ℕ) (b : Bool) : Type 0 where
  pub inside : b ≡ true → Within n xs

-- Bounds of the letters so far.
pub record Bounding (xs : List ℕ) (least largest i : ℕ) : Type 0 where
  pub bounds : (k : ℕ) → k < i → (least ≤ get_or xs k 0) × (get_or xs k 0 ≤ largest)

-- No letter before the first place.
pub bounds_start : (xs : List ℕ) (least largest : ℕ) → Bounding xs least largest 0
bounds_start xs least largest = record { bounds = λ k l. absurd (not-suc-le-zero l) }

-- One more letter.
pub bounds_turn : {xs : List ℕ} {least largest i low high : ℕ} → Bounding xs least largest i → low ≡ min least (get_or xs i 0)
    → high ≡ max largest (get_or xs i 0) → Bounding xs low high (i + 1)
bounds_turn {xs} {least} {largest} {i} {low} {high} b l h = record { bounds = λ k s. at k (le-or-lt i k) s }
  where
    at : (k : ℕ) → (i ≤ k) ⊎ (k < i) → k < i + 1 → (low ≤ get_or xs k 0) × (get_or xs k 0 ≤ high)
    at k (inl f) s = let e : k ≡ i = omega arith in rw e (omega arith, omega arith)
    at k (inr f) s = let (p, q) = b.bounds k f in (omega arith, omega arith)

-- A list whose letters are inside at every place.
all_within : (n : ℕ) (xs : List ℕ) → ((k : ℕ) → k < length xs → (1 ≤ get_or xs k 0) × (get_or xs k 0 ≤ n)) → Within n xs
all_within n [] h = tt
all_within n (x ∷ xs) h = let (low, high) = h 0 (omega arith) in (low, high, all_within n xs (λ k l. h (suc k) (omega arith)))

-- Past the last letter, where the least is no 0: all are inside if the largest is at most n.
pub bounds_end : {xs : List ℕ} {least largest i x : ℕ} (n : ℕ) → Bounding xs least largest i → length xs ≤ i → 1 ≤ least → x ≡ largest
    → Confirmed n xs (leb x n)
bounds_end {xs} {least} {largest} {i} {x} n b e low is = record { inside = λ t. all_within n xs (at (leb-true x n t)) }
  where
    at : x ≤ n → (k : ℕ) → k < length xs → (1 ≤ get_or xs k 0) × (get_or xs k 0 ≤ n)
    at h k l = let (p, q) = b.bounds k (omega arith) in (omega arith, omega arith)

-- False confirms nothing.
pub unconfirmed : (n : ℕ) (xs : List ℕ) → Confirmed n xs false
unconfirmed n xs = record { inside = λ e. absurd (true≢false (sym e)) }

-- Letters inside 1 to n pass the check, from any place on.
passed_from : (n i : ℕ) (xs : List ℕ) → Within n xs → gives [] ≡ letters_from n i xs
passed_from n i [] h = refl
passed_from n i (x ∷ xs) (low, high, rest) = rw (le-ltb x 1 low, le-ltb n x high) (passed_from n (suc i) xs rest)

-- Confirmed letters pass the check.
pub confirmed_passed : {n : ℕ} {xs : List ℕ} {b : Bool} → Confirmed n xs b → b ≡ true → gives [] ≡ letters_judged n xs
unfolding letters_judged
confirmed_passed {n} {xs} c e = passed_from n 0 xs (c.inside e)

pub ruleset bounding = (bounds_start, bounds_turn, bounds_end, unconfirmed, confirmed_passed, letters_scanned, rules)
