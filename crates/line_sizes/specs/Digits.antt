-- How many digits a number has.
--     length-digit, length_more   one below ten; one more than its tenth has
--     decimal_two                 the two digits of a number from 10 to 99
--     decimal-short               at most k below the k-th power of ten
--     decimal-some                at least one
-- Assumes nothing.
use Rattle.std.specs.Prelude.{ℕ, zero, suc, ◌+◌, ◌*◌, ◌^◌, ◌/◌, ◌%◌, ◌≤◌, ◌<◌, ◌≡◌, refl, Bool, true, false, [], ◌∷◌, leb, length}
use Rattle.std.proofs.Math.Nat.{pow-succ'}
use Rattle.std.proofs.Common.{arith, length-append, leb-true, leb-false}
use Rattle.grammar.specs.Numbers.{decimal}
use Rattle.grammar.proofs.Theory.Decimal.{decimal_digit, decimal_more}

-- A number of one digit, and of more.
pub length-digit : (n : ℕ) → n < 10 → length (decimal n) ≡ 1
length-digit n h = rw (decimal_digit n h)

pub length_more : (n : ℕ) → 10 ≤ n → length (decimal n) ≡ length (decimal (n / 10)) + 1
length_more n h = rw (decimal_more n h, length-append)

-- A number of two digits.
pub decimal_two : (n : ℕ) → 10 ≤ n → n < 100 → decimal n ≡ (48 + n / 10) ∷ (48 + n % 10) ∷ []
decimal_two n l h = rw (decimal_more n l, decimal_digit (n / 10) (omega arith))

-- A number below the k-th power of ten has at most k digits.
pub decimal-short : (k n : ℕ) → n < 10 ^ suc k → length (decimal n) ≤ suc k
decimal-short zero n h = let one : n < 10 = h in omega (arith, length-digit n one)
decimal-short (suc k) n h = go (leb 10 n) refl (λ l. decimal-short k (n / 10) l)
  where
    go : (t : Bool) → leb 10 n ≡ t → (n / 10 < 10 ^ suc k → length (decimal (n / 10)) ≤ suc k) → length (decimal n) ≤ suc (suc k)
    go true e fewer =
        let power : 10 ^ suc (suc k) ≡ 10 * 10 ^ suc k = pow-succ' 10 (suc k) in
        let less : n / 10 < 10 ^ suc k = omega (arith, power) in
        omega (arith, length_more n (leb-true 10 n e), fewer less)
    go false e fewer = omega (arith, length-digit n (leb-false 10 n e))

-- Every number has a digit.
pub decimal-some : (n : ℕ) → 1 ≤ length (decimal n)
decimal-some n = go (leb 10 n) refl
  where
    go : (t : Bool) → leb 10 n ≡ t → 1 ≤ length (decimal n)
    go true e = omega (arith, length_more n (leb-true 10 n e))
    go false e = omega (arith, length-digit n (leb-false 10 n e))
