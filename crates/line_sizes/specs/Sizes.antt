-- How many bytes the field of a number has, and a line that begins with one. A number of one digit or two is looked at alone; of any other the digits are
-- counted by dividing by ten.
--     Counted most vs r                          r is how many values vs there are, and at most so many
--     size_one, size_two                         the size for one digit and for two
--     Shrinking value size left                  the loop that counts: the digits of what is left are not counted yet
--     shrink_start, shrink_fits, shrink_turn, shrink_end     its laws
--     line_size n rest                            the bytes of a line whose first field is of the number n, with so many after it before the line feed
--     size_is                                    the sum that gives them
--     sizing                                     the ruleset of the functions on sizes
-- Assumes nothing.
use Rattle.std.specs.Prelude.{ℕ, ◌+◌, ◌/◌, ◌≤◌, ◌<◌, min, ◌≡◌, List, length}
use Rattle.std.proofs.Common.{ap, lt_of_lt_of_le, arith, Fits, rules}
use Rattle.std.proofs.Math.Nat.{div-div-eq-div-mul}
use Rattle.std.specs.Int.{w64}
use Rattle.grammar.specs.Lines.{field}
use Rattle.grammar.specs.Numbers.{decimal}
use Rattle.line_sizes.specs.Digits.{decimal-short, decimal_two, length-digit, length_more}

-- How many values there are, and at most so many.
pub record Counted (most : ℕ) (vs : List ℕ) (r : ℕ) : Type 0 where
  pub is : r ≡ length vs
  pub few : r ≤ most

-- ---- the size of a field

-- The digits of what is left are not counted yet.
pub record Shrinking (value size left : ℕ) : Type 0 where
  pub whole : 2 + length (decimal value) ≡ size + length (decimal left)
  pub short : length (decimal value) ≤ 20

-- One digit, two,
pub size_one : (value : ℕ) → value < 10 → Counted 21 (field value) 2
size_one value l = record { is = omega (arith, length-digit value l); few = omega arith }

pub size_two : (value : ℕ) → 10 ≤ value → value < 100 → Counted 21 (field value) 3
size_two value l h = record { is = omega (arith, ap length (decimal_two value l h)); few = omega arith }

-- and more.
pub shrink_start : (value : ℕ) → Fits w64 value → 100 ≤ value → Shrinking value 4 (value / 100)
shrink_start value f l =
    let tenth : value / 10 / 10 ≡ value / 100 = div-div-eq-div-mul value 10 10 in
    record {
      whole = omega (arith, length_more value (omega arith), length_more (value / 10) (omega arith), ap (λ (n : ℕ). length (decimal n)) tenth);
      short = decimal-short 19 value (lt_of_lt_of_le f.fits (omega arith));
    }

-- One digit more is counted, and at the last all are.
module _ {value size left : ℕ} (h : Shrinking value size left) where
  pub shrink_fits : 10 ≤ left → Fits w64 (size + 1)
  shrink_fits l = record { fits = omega (arith, h.whole, h.short, length_more left l) }

  pub shrink_turn : 10 ≤ left → Shrinking value (size + 1) (left / 10)
  shrink_turn l = record { whole = omega (arith, h.whole, length_more left l); short = h.short }

  pub shrink_end : left < 10 → Counted 21 (field value) size
  shrink_end l = record { is = omega (arith, h.whole, length-digit left l); few = omega (arith, h.whole, h.short, length-digit left l) }

-- ---- the size of a line

-- The letter of its kind, the first field, what follows, and the line feed.
unfoldable pub line_size : ℕ → ℕ → ℕ
line_size n rest = 2 + length (field n) + rest

-- The sum of these.
pub size_is : {size more : ℕ} (n rest : ℕ) → Counted 21 (field n) size → more ≡ min rest 65536 → 2 + size + more ≡ line_size n (min rest 65536)
unfolding line_size
size_is n rest h e = rw (h.is, e)

pub ruleset sizing = (size_one, size_two, shrink_start, shrink_fits, shrink_turn, shrink_end, size_is, rules)
