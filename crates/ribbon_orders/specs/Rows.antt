-- The tally of a ribbon's marks in a row of 21 numbers, one more mark for each turn, from the last mark to the first.
--     orders_given ms                the orders of at most 20 marks, and 0 of more
--     Rowing ms row numbers left     the row has the tally of the marks behind those left, so many numbers, and zeros after it
--     rowing                        the ruleset of the count
-- Assumes nothing.
use Rattle.std.specs.Prelude.{ℕ, suc, ◌+◌, ◌-◌, ◌^◌, ◌≤◌, ◌<◌, ◌≡◌, refl, cond, List, [], ◌∷◌, ◌++◌, ltb, length, get_or, set, sum, take, drop, replicate}
use Rattle.std.proofs.Common.{sym, ap, ap₂, ◌∙◌, add-one, append_assoc, append-nil, arith, length-append, Fits, rules, le-ltb, lt-ltb}
use Rattle.std.proofs.lemmas.List.{length-replicate, nil_from_length}
use Rattle.std.proofs.Math.Seq.{drop-append-add, take-append-add}
use Rattle.std.specs.Int.{w64}
use Rattle.numbering.specs.Compositions.{total}
use Rattle.numbering.specs.Orders.{head_of, orders, tally}
use Rattle.numbering.proofs.Theory.Counting.{length-tally}
use Rattle.numbering.proofs.Theory.Bounds.{tally_19}
use Rattle.ribbon_orders.specs.Sweeps.{swept, swept_across, total_told, total_zero}

unfoldable pub orders_given : List ℕ → ℕ
orders_given ms = cond (ltb 20 (length ms)) 0 (orders ms)

-- More marks than 20.
pub orders-none : (ms : List ℕ) → 20 < length ms → 0 ≡ orders_given ms
unfolding orders_given
orders-none ms l = rw (lt-ltb 20 (length ms) l)

-- At most 20.
pub orders-some : (ms : List ℕ) → length ms ≤ 20 → orders_given ms ≡ orders ms
unfolding orders_given
orders-some ms l = rw (le-ltb 20 (length ms) l)

-- Of marks of which `left` are still to pass: the tally of those behind them, and zeros.
pub record Rowing (ms row : List ℕ) (numbers : ℕ) (left : List ℕ) : Type 0 where
  pub passed : List ℕ
  pub short : length ms ≤ 20
  pub whole : ms ≡ left ++ passed
  pub counted : numbers ≡ suc (length passed)
  pub is : row ≡ tally passed ++ replicate (21 - numbers) 0

pub rowing_start : (ms : List ℕ) → length ms ≤ 20 → Rowing ms (set (replicate 21 0) 0 1) 1 ms
rowing_start ms l = record { passed = []; short = l; whole = sym (append-nil ms); counted = refl; is = refl }

module _ {ms row left : List ℕ} {numbers : ℕ} (h : Rowing ms row numbers left) where
  reached : numbers + length left ≡ suc (length ms)
  reached = omega (arith, ap length h.whole, length-append left h.passed, h.counted)

  tallied : length (tally h.passed) ≡ numbers
  tallied = length-tally h.passed ∙ sym h.counted

  pub row_long : length row ≡ 21
  row_long =
      ap length h.is ∙ length-append (tally h.passed) _ ∙ omega (arith, tallied, length-replicate {A = ℕ} (21 - numbers) 0, reached, h.short)

  -- One mark more is to pass.
  module _ (more : List ℕ) (m : ℕ) (e : left ≡ more ++ (m ∷ [])) where
    below : numbers ≤ 20
    below = omega (arith, reached, h.short, ap length e, length-append more (m ∷ []))

    pub numbers_fit : Fits w64 (numbers + 1)
    numbers_fit = record { fits = omega (arith, below) }

    pub part_within : numbers + 1 ≤ length row
    part_within = omega (arith, row_long, below)

    zeros : replicate {A = ℕ} (21 - numbers) 0 ≡ 0 ∷ replicate (21 - suc numbers) 0
    zeros = let n : 21 - numbers ≡ suc (21 - suc numbers) = omega (arith, below) in ap (λ (k : ℕ). replicate {A = ℕ} k 0) n

    -- The part that a sweep is lent is the tally and an unused 0.
    lent : take (numbers + 1) row ≡ tally h.passed ++ (0 ∷ [])
    lent =
        ap₂ take (ap (λ (k : ℕ). k + 1) (sym tallied)) (h.is ∙ ap (λ (zs : List ℕ). tally h.passed ++ zs) zeros)
        ∙ take-append-add (tally h.passed) (0 ∷ replicate (21 - suc numbers) 0) 1

    -- Its sum fits 64 bits.
    pub part_fits : sum (take (numbers + 1) row) < 2 ^ 64
    part_fits =
        let all : total (take (numbers + 1) row) ≡ total (tally h.passed) = ap total lent ∙ total_zero (tally h.passed) in
        let few : length h.passed ≤ 19 = omega (arith, h.counted, below) in
        omega (arith, total_told (take (numbers + 1) row), all, tally_19 h.passed few)

    -- Swept, it is the tally of one mark more.
    pub rowing_turn : {ys : List ℕ} → ys ≡ swept m 0 (take (numbers + 1) row) → Rowing ms (ys ++ drop (numbers + 1) row) (numbers + 1) more
    rowing_turn {ys} s = record {
      passed = m ∷ h.passed;
      short = h.short;
      whole = h.whole ∙ ap (λ (xs : List ℕ). xs ++ h.passed) e ∙ append_assoc more (m ∷ []) h.passed;
      counted = omega (arith, h.counted);
      is = ap₂ ◌++◌ (s ∙ ap (swept m 0) lent ∙ swept_across m 0 (tally h.passed)) rest;
    }
      where
        rest : drop (numbers + 1) row ≡ replicate (21 - (numbers + 1)) 0
        rest =
            ap₂ drop (ap (λ (k : ℕ). k + 1) (sym tallied)) (h.is ∙ ap (λ (zs : List ℕ). tally h.passed ++ zs) zeros)
            ∙ drop-append-add (tally h.passed) (0 ∷ replicate (21 - suc numbers) 0) 1
            ∙ rw (add-one numbers) refl

-- All marks are passed.
pub rowing_end : {ms row left : List ℕ} {numbers : ℕ} → Rowing ms row numbers left → length left ≡ 0 → get_or row 0 0 ≡ orders_given ms
unfolding orders
rowing_end {ms} {row} {left} {numbers} h l =
    let all : ms ≡ h.passed = h.whole ∙ ap (λ (xs : List ℕ). xs ++ h.passed) (nil_from_length left l) in
    ap (λ (xs : List ℕ). get_or xs 0 0) (h.is ∙ ap (λ (xs : List ℕ). tally xs ++ replicate (21 - numbers) 0) (sym all))
    ∙ begins (tally ms) (replicate (21 - numbers) 0) (length-tally ms) ∙ sym (orders-some ms h.short)
  where
    begins : (xs ys : List ℕ) → length xs ≡ suc (length ms) → get_or (xs ++ ys) 0 0 ≡ head_of xs
    begins [] ys e = let z : ⊥ = omega arith in absurd z
    begins (x ∷ xs) ys e = refl

pub ruleset rowing = (orders-none, rowing_start, row_long, numbers_fit, part_within, part_fits, rowing_turn, rowing_end, rules)
