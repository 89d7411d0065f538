-- The faults that the checks 5 and 6 look for at a place, and that each check is the scan for its fault.
--     fall_fault, mark_fault (outcomes, FirstPlaces)      5, 6
--     shorter_size                                         how many places two lists have in common
--     largest_mark x y                                      the largest mark of a step between two letters
--     start-rising, start-marks                            where the two scans begin
--     marking                                              the ruleset of the fault of a mark
-- Assumes nothing.
use Rattle.std.specs.Prelude.{ℕ, zero, suc, ◌+◌, ◌-◌, min, ◌≡◌, refl, Bool, true, false, cond, ◌&&◌, ◌||◌, List, [], ◌∷◌, eqb, ltb, length, get_or}
use Rattle.std.proofs.Common.{ap, sym, ◌∙◌, arith, rules, eq-eqb, lt-ltb, ne_eqb}
use Rattle.std.proofs.Math.Bool.{and-false, or-false}
use Rattle.outcomes.specs.Judgements.{rising_judged, marks_judged}
use Rattle.outcomes.specs.FirstPlaces.{mark_fault, shorter}
use Rattle.outcomes.proofs.Theory.FirstPlaces.{rising-scan, marks-scan}
use Rattle.refusals.specs.Scanning.{Scanning, scan_from, scan_from_lem, start}

-- ---- letters

-- 5: the letter is smaller than the one before it.
abbrev pub fall_fault : List ℕ → ℕ → Bool
fall_fault xs p = ltb (get_or xs p 0) (get_or xs (p - 1) 0)

pub start-rising : (xs : List ℕ) → Scanning 5 (fall_fault xs) (length xs) (rising_judged xs) 1
unfolding rising_judged scan_from
start-rising [] = start 0 refl refl
start-rising (x ∷ xs) =
    start (length xs)
    (rising-scan x xs
    ∙ scan_from_lem 5 1 (length xs) _ (fall_fault (x ∷ xs))
    (λ q l. let e : 1 + q - 1 ≡ q = omega arith in let f : 1 + q ≡ suc q = omega arith in rw (e, f)))
    (omega arith)

-- ---- marks

-- Two lists have as many places in common as the shorter one has.
pub shorter_size : (xs ms : List ℕ) → shorter xs ms ≡ min (length xs) (length ms)
shorter_size [] ms = omega arith
shorter_size (x ∷ xs) [] = omega arith
shorter_size (x ∷ xs) (m ∷ ms) = omega (arith, shorter_size xs ms)

-- The largest mark of a step between two letters: none goes down between equals.
unfoldable pub largest_mark : ℕ → ℕ → ℕ
largest_mark x y = cond (eqb x y) 0 1

pub largest_level : {x y : ℕ} → x ≡ y → 0 ≡ largest_mark x y
unfolding largest_mark
largest_level {x} {y} e = rw (eq-eqb x y e)

pub largest_apart : {x y : ℕ} → (x ≡ y → ⊥) → 1 ≡ largest_mark x y
unfolding largest_mark
largest_apart {x} {y} ne = rw (ne_eqb x y ne)

-- The faults of a mark: at the first place,
pub mark_first : (xs ms : List ℕ) (p : ℕ) → p ≡ 0 → ltb 0 (get_or ms p 0) ≡ mark_fault xs ms p
mark_first xs ms p e = rw e

mark_later : (xs ms : List ℕ) (p : ℕ) → (p ≡ 0 → ⊥)
    → mark_fault xs ms p ≡ (ltb 1 (get_or ms p 0) || eqb (get_or ms p 0) 1 && eqb (get_or xs (p - 1) 0) (get_or xs p 0))
mark_later xs ms zero h = absurd (h refl)
mark_later xs ms (suc p) h = let e : suc p - 1 ≡ p = omega arith in rw e

-- A mark above 0 is above 1, or it is 1.
above-none : (m : ℕ) → ltb 0 m ≡ (ltb 1 m || eqb m 1 && true)
above-none zero = refl
above-none (suc zero) = refl
above-none (suc (suc m)) =
    lt-ltb 0 (suc (suc m)) (omega arith) ∙ ap (λ (b : Bool). b || eqb (suc (suc m)) 1 && true) (sym (lt-ltb 1 (suc (suc m)) (omega arith)))

-- Later, where the mark is above the largest that the two letters allow.
pub mark_later_fault : (xs ms : List ℕ) (p : ℕ) {k : ℕ} → (p ≡ 0 → ⊥) → k ≡ largest_mark (get_or xs (p - 1) 0) (get_or xs p 0)
    → ltb k (get_or ms p 0) ≡ mark_fault xs ms p
unfolding largest_mark
mark_later_fault xs ms p h e = rw (e, mark_later xs ms p h) (go (eqb (get_or xs (p - 1) 0) (get_or xs p 0)) (get_or ms p 0))
  where
    go : (b : Bool) (m : ℕ) → ltb (cond b 0 1) m ≡ (ltb 1 m || eqb m 1 && b)
    go true m = above-none m
    go false m = rw (and-false, or-false)

pub start-marks : {size : ℕ} (xs ms : List ℕ) → size ≡ min (length xs) (length ms) → Scanning 6 (mark_fault xs ms) size (marks_judged xs ms) 0
start-marks {size} xs ms e =
    start (shorter xs ms) (marks-scan xs ms ∙ scan_from_lem 6 0 (shorter xs ms) _ (mark_fault xs ms) (λ q l. let e : 0 + q ≡ q = omega arith in rw e))
    (omega (arith, shorter_size xs ms))

pub ruleset marking = (
  largest_level,
  largest_apart,
  mark_first,
  mark_later_fault,
  rules,
)
