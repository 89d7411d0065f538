-- How large the numbers of a tally grow. A count of orders sums up the tallies of at most 19 marks and makes that of 20: none of these numbers passes 20 factorial,
-- which is 2,432,902,008,176,640,000 and below 2^63.
--     tally_bound              the numbers of the tally of n marks add up to at most (n + 1) factorial; tally_19: of at most 19 marks, to at most 20 factorial
--     tally_each               each of them is at most n factorial; tally_20: of at most 20 marks, at most 20 factorial
--     orders_19, orders_20     at most 19 marks have at most 19 factorial orders, at most 20 marks at most 20 factorial
--     class_bound              so the size of a class of at most 20 cells is below 2^63
-- Assumes nothing.
use Prim.Native.Nat.{ℕ, zero, suc, ◌+◌, ◌*◌, ◌≤◌, ◌<◌}
use mathlib.Core.List.{List, [], ◌∷◌}
use native.Mathlib.Decide.{le_ind}
use native.Mathlib.Nat.{le_refl, le_trans, mul-le-mul, suc-mul}
use native.Mathlib.Omega.{arith}
use mathlib.Core.Path.{◌≡◌, ◌∙◌}
use lib.ListN.{length}
use Rattle.hypoplactic.specs.Words.{Within}
use Rattle.hypoplactic.specs.Ribbons.{LetterStep, Tableau}
use Rattle.outcomes.proofs.Theory.StepJudgements.{ribbon-length}
use Rattle.numbering.specs.Dictionary.{class_size}
use Rattle.numbering.specs.Compositions.{factorial, total}
use Rattle.numbering.specs.Orders.{across, allowed, freed, head_of, orders, tally}
use Rattle.numbering.proofs.Theory.Each.{Every, every_map}
use Rattle.numbering.proofs.Theory.ClassSize.{class_size_lem}
use Rattle.numbering.proofs.Theory.Counting.{length-freed, length-tally}

factorial-le : (n k : ℕ) → n ≤ k → factorial n ≤ factorial k
factorial-le n k = le_ind (λ (k : ℕ). factorial n ≤ factorial k) (le_refl (factorial n)) (λ k l h. omega (arith, h, suc-mul k (factorial k))) k

-- No step allows more than all.
allowed-le : (m before after : ℕ) → allowed m before after ≤ before + after
allowed-le zero before after = omega arith
allowed-le (suc zero) before after = omega arith
allowed-le (suc (suc m)) before after = omega arith

across_bound : (m before : ℕ) (xs : List ℕ) → total (across m before xs) ≤ suc (length xs) * (before + total xs)
across_bound m before [] = omega (arith, allowed-le m before 0)
across_bound m before (x ∷ xs) =
    let e : (before + x) + total xs ≡ before + (x + total xs) = omega arith in
    let rest : total (across m (before + x) xs) ≤ suc (length xs) * (before + (x + total xs)) = rw e at (across_bound m (before + x) xs) in
    omega (arith, rest, allowed-le m before (x + total xs), suc-mul (suc (length xs)) (before + (x + total xs)))

pub tally_bound : (ms : List ℕ) → total (tally ms) ≤ factorial (suc (length ms))
tally_bound [] = omega arith
tally_bound (m ∷ ms) =
    let none : 0 + total (tally ms) ≤ factorial (suc (length ms)) = omega (arith, tally_bound ms) in
    let size : suc (length (tally ms)) ≤ suc (suc (length ms)) = omega (arith, length-tally ms) in
    le_trans (across_bound m 0 (tally ms)) (mul-le-mul size none)

pub tally_19 : (ms : List ℕ) → length ms ≤ 19 → total (tally ms) ≤ 2432902008176640000
tally_19 ms l = le_trans (tally_bound ms) (factorial-le (suc (length ms)) 20 (omega arith))

-- Across a step each number is at most the sum before it.
across_each : (m before : ℕ) (xs : List ℕ) → Every (λ (k : ℕ). k ≤ before + total xs) (across m before xs)
across_each m before [] = (allowed-le m before 0, tt)
across_each m before (x ∷ xs) =
    (allowed-le m before (x + total xs), every_map _ _ (across m (before + x) xs) (λ k l. omega arith) (across_each m (before + x) xs))

pub tally_each : (ms : List ℕ) → Every (λ (k : ℕ). k ≤ factorial (length ms)) (tally ms)
tally_each [] = (omega arith, tt)
tally_each (m ∷ ms) = every_map _ _ (across m 0 (tally ms)) (λ k l. omega (arith, tally_bound ms)) (across_each m 0 (tally ms))

pub tally_20 : (ms : List ℕ) → length ms ≤ 20 → Every (λ (k : ℕ). k ≤ 2432902008176640000) (tally ms)
tally_20 ms l = every_map _ _ (tally ms) (λ k h. le_trans h (factorial-le (length ms) 20 l)) (tally_each ms)

-- The orders are the first of them.
orders_bound : (ms : List ℕ) → orders ms ≤ factorial (length ms)
unfolding orders
orders_bound ms = first (tally ms) (tally_each ms)
  where
    first : (xs : List ℕ) → Every (λ (k : ℕ). k ≤ factorial (length ms)) xs → head_of xs ≤ factorial (length ms)
    first [] h = omega arith
    first (x ∷ xs) h = h.0

pub orders_19 : (ms : List ℕ) → length ms ≤ 19 → orders ms ≤ 121645100408832000
orders_19 ms l = le_trans (orders_bound ms) (factorial-le (length ms) 19 l)

pub orders_20 : (ms : List ℕ) → length ms ≤ 20 → orders ms ≤ 2432902008176640000
orders_20 ms l = le_trans (orders_bound ms) (factorial-le (length ms) 20 l)

-- The size of a class of at most 20 cells is below 2^63.
pub class_bound : (n : ℕ) (xs ms : List ℕ) → Within n xs → Tableau xs ms → length xs ≤ 20 → class_size n xs ms < 9223372036854775808
class_bound n xs ms w h l =
    let cells : length (freed ms) ≡ length xs = length-freed ms ∙ ribbon-length LetterStep xs ms h in
    omega (arith, class_size_lem n xs ms w h, orders_20 (freed ms) (omega arith))
