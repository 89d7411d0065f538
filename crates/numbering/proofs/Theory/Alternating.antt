-- Theorem 8.2 of the paper: how many words a class has, by multinomial coefficients of the compositions coarser than its tableau's shape. Those made by an even
-- number of merges give as much as those made by an odd number and the words together; the paper writes the difference.
--     binomial_sum k n xs    the sum of xs, its numbers multiplied by choose n k, choose (n + 1) k, ..
--     sum_right             of a tally across a right step: it is that of the tally itself for k + 1, so rows of any length need no tally of their own
--     sum_free              across a free step: those across a right and across a down step together
--     sum_constant          and, the numbers of such a tally being equal, one binomial coefficient times the tally's sum
--     alternating           the orders of a ribbon with marks 0 and 1
--     theorem_8_2           the size of a tableau's class
-- Assumes nothing.
use Prim.Native.Nat.{ℕ, zero, suc, ◌+◌, ◌*◌, ◌≤◌}
use native.Mathlib.Nat.{add-suc, zero-add}
use native.Mathlib.Numerals.{add-one}
use native.Mathlib.Omega.{arith}
use mathlib.Core.Path.{◌≡◌, refl, sym, ap, ap₂, ◌∙◌}
use mathlib.Core.Bool.{Bool, true, false, not}
use mathlib.Core.List.{List, [], ◌∷◌, ◌++◌, map}
use lib.ListN.{length}
use Rattle.hypoplactic.specs.Words.{All, Within}
use Rattle.hypoplactic.specs.Ribbons.{Along, LetterStep, Tableau}
use Rattle.hypoplactic.proofs.Theory.Boundary.{along_of_tableau}
use Rattle.numbering.specs.Dictionary.{class_size}
use Rattle.numbering.specs.Compositions.{choose, coarser, multinomials, row_lengths, shape_of, total}
use Rattle.numbering.specs.Orders.{across, freed, head_of, orders, tally}
use Rattle.numbering.proofs.Theory.ClassSize.{class_size_lem}
use Rattle.numbering.proofs.Theory.Counting.{across_free, length-tally}
use Rattle.numbering.proofs.Theory.Multinomials.{choose-none, coarser_totals, multinomials-append, multinomials-before}

-- ---- tallies, summed with binomial coefficients

abbrev binomial_sum : ℕ → ℕ → List ℕ → ℕ
binomial_sum k n [] = 0
binomial_sum k n (x ∷ xs) = choose n k * x + binomial_sum k (suc n) xs

-- For k = 0 it is the sum.
sum_of_ones : (n : ℕ) (xs : List ℕ) → binomial_sum 0 n xs ≡ total xs
sum_of_ones n [] = refl
sum_of_ones n (x ∷ xs) = omega (arith, sum_of_ones (suc n) xs)

-- Across a right step. The second term is 0 where n is k.
right_from : (k n b : ℕ) (xs : List ℕ) → binomial_sum k n (across 0 b xs) + choose n (suc k) * total xs ≡ binomial_sum (suc k) (suc n) xs
right_from k n b [] = omega arith
right_from k n b (x ∷ xs) = omega (arith, right_from k (suc n) (b + x) xs)

sum_right : (k : ℕ) (xs : List ℕ) → binomial_sum k k (across 0 0 xs) ≡ binomial_sum (suc k) (suc k) xs
sum_right k xs = omega (arith, right_from k k 0 xs, ap (λ (c : ℕ). c * total xs) (choose-none k (suc k) (omega arith)))

-- A free step allows what a right step allows and what a down step allows.
sum_free : (k n b : ℕ) (xs : List ℕ) → binomial_sum k n (across 2 b xs) ≡ binomial_sum k n (across 1 b xs) + binomial_sum k n (across 0 b xs)
sum_free k n b [] = omega arith
sum_free k n b (x ∷ xs) = omega (arith, sum_free k (suc n) (b + x) xs)

-- Across a free step. The second term is 0 where n is k.
free_from : (k n b : ℕ) (xs : List ℕ)
    → binomial_sum k n (across 2 b xs) + choose n (suc k) * (b + total xs) ≡ choose (length xs + suc n) (suc k) * (b + total xs)
free_from k n b [] = rw (zero-add (suc n)) (omega arith)
free_from k n b (x ∷ xs) =
    let q : suc (length xs) + suc n ≡ length xs + suc (suc n) = omega arith in rw q (omega (arith, free_from k (suc n) (b + x) xs))

sum_constant : (k : ℕ) (xs : List ℕ) → binomial_sum k k (across 2 0 xs) ≡ choose (length xs + suc k) (suc k) * total xs
sum_constant k xs = omega (arith, free_from k k 0 xs, ap (λ (c : ℕ). c * total xs) (choose-none k (suc k) (omega arith)))

-- So a binomial coefficient times the sum is what a down step and what one more right step give.
down_and_right : (k : ℕ) (xs : List ℕ)
    → choose (length xs + suc k) (suc k) * binomial_sum 0 0 xs ≡ binomial_sum k k (across 1 0 xs) + binomial_sum (suc k) (suc k) xs
down_and_right k xs =
    omega (arith, sum_free k k 0 xs, sum_right k xs, sum_constant k xs, ap (λ (t : ℕ). choose (length xs + suc k) (suc k) * t) (sum_of_ones 0 xs))

-- ---- rows

-- The cells of all rows.
rows-total : (c : ℕ) (ms : List ℕ) → total (row_lengths c ms) ≡ c + length ms
rows-total c [] = refl
rows-total c (zero ∷ ms) = rows-total (suc c) ms ∙ omega arith
rows-total c (suc m ∷ ms) = omega (arith, rows-total 1 ms)

-- A row of c cells before these rows stays apart from the first of them, or is merged with it.
coarser-rows : (even : Bool) (c d : ℕ) (ms : List ℕ)
    → coarser even (c ∷ row_lengths d ms)
    ≡ map (λ (bs : List ℕ). c ∷ bs) (coarser even (row_lengths d ms)) ++ coarser (not even) (row_lengths (c + d) ms)
coarser-rows even c d [] = refl
coarser-rows even c d (zero ∷ ms) = rw (← add-suc c d) (coarser-rows even c (suc d) ms)
coarser-rows even c d (suc m ∷ ms) = refl

-- The sum over the compositions coarser than rows of which the first has c cells.
abbrev row_sum : Bool → ℕ → List ℕ → ℕ
row_sum even c ms = multinomials (coarser even (row_lengths c ms))

-- At a down step: the compositions that keep the row apart, and those that merge it with the next one.
rows_step : (even : Bool) (k : ℕ) (ms : List ℕ)
    → row_sum even (suc k) (1 ∷ ms) ≡ choose (length (tally ms) + suc k) (suc k) * row_sum even 1 ms + row_sum (not even) (suc (suc k)) ms
rows_step even k ms =
    ap multinomials (coarser-rows even (suc k) 1 ms)
    ∙ multinomials-append (map (λ (bs : List ℕ). suc k ∷ bs) (coarser even (row_lengths 1 ms))) (coarser (not even) (row_lengths (suc k + 1) ms))
    ∙ ap₂ ◌+◌ apart (ap (λ (c : ℕ). row_sum (not even) c ms) (add-one (suc k)))
  where
    cells : total (row_lengths 1 ms) ≡ length (tally ms)
    cells = omega (arith, rows-total 1 ms, length-tally ms)

    apart : multinomials (map (λ (bs : List ℕ). suc k ∷ bs) (coarser even (row_lengths 1 ms)))
        ≡ choose (length (tally ms) + suc k) (suc k) * row_sum even 1 ms
    apart = multinomials-before (suc k) (length (tally ms)) (coarser even (row_lengths 1 ms)) (rw cells at (coarser_totals even (row_lengths 1 ms)))

-- ---- the theorem

-- A down step after a row. E and O are the sums for even and odd of the rows below it, F and P those of the rows where it is merged with the next one,
-- N and M the orders of these two, L those of all rows, and C the binomial coefficient.
signs : (C E O N F P M L : ℕ) → E ≡ N + O → F ≡ M + P → C * N ≡ L + M → C * E + P ≡ L + (C * O + F)
signs C E O N F P M L e f g = omega (arith, ap (λ (x : ℕ). C * x) e)

-- The theorem for rows of which the first has k + 1 cells before these steps.
row_by_row : (k : ℕ) (ms : List ℕ) → All (λ (m : ℕ). m ≤ 1) ms → row_sum true (suc k) ms ≡ binomial_sum k k (tally ms) + row_sum false (suc k) ms
row_by_row k [] h = rw (zero-add (suc k)) (omega (arith, choose-none k (suc k) (omega arith)))
row_by_row k (zero ∷ ms) (l, h) = rw (sum_right k (tally ms)) (row_by_row (suc k) ms h)
row_by_row k (suc zero ∷ ms) (l, h) =
    rw (rows_step true k ms, rows_step false k ms)
    (signs (choose (length (tally ms) + suc k) (suc k)) (row_sum true 1 ms) (row_sum false 1 ms) (binomial_sum 0 0 (tally ms))
    (row_sum true (suc (suc k)) ms) (row_sum false (suc (suc k)) ms) (binomial_sum (suc k) (suc k) (tally ms)) (binomial_sum k k (across 1 0 (tally ms)))
    (row_by_row 0 ms h) (row_by_row (suc k) ms h) (down_and_right k (tally ms)))
row_by_row k (suc (suc m) ∷ ms) (l, h) = let z : ⊥ = omega arith in absurd z

-- The orders of a ribbon with marks 0 and 1.
pub alternating : (ms : List ℕ) → All (λ (m : ℕ). m ≤ 1) ms
    → multinomials (coarser true (shape_of ms)) ≡ orders (freed ms) + multinomials (coarser false (shape_of ms))
unfolding orders
alternating [] h = refl
alternating (m ∷ ms) (l, h) = omega (arith, row_by_row 0 ms h, sum_of_ones 0 (tally ms), ap head_of (across_free 0 0 (tally ms)))

-- The marks of a tableau are 0 and 1.
steps-marks : (x : ℕ) (ys ms : List ℕ) → Along LetterStep x ys ms → All (λ (m : ℕ). m ≤ 1) ms
steps-marks x [] [] h = tt
steps-marks x [] (m ∷ ms) h = absurd h
steps-marks x (y ∷ ys) [] h = absurd h
steps-marks x (y ∷ ys) (zero ∷ ms) (s, h) = (omega arith, steps-marks y ys ms h)
steps-marks x (y ∷ ys) (suc zero ∷ ms) (s, h) = (omega arith, steps-marks y ys ms h)
steps-marks x (y ∷ ys) (suc (suc m) ∷ ms) (s, h) = absurd s

-- Theorem 8.2: the size of a class.
pub theorem_8_2 : (n : ℕ) (xs ms : List ℕ) → Within n xs → Tableau xs ms
    → multinomials (coarser true (shape_of ms)) ≡ class_size n xs ms + multinomials (coarser false (shape_of ms))
theorem_8_2 n xs ms w h =
    alternating ms (steps-marks 0 xs ms (along_of_tableau xs ms h))
    ∙ ap (λ (k : ℕ). k + multinomials (coarser false (shape_of ms))) (sym (class_size_lem n xs ms w h))
