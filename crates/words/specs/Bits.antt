-- Numbers of 64 bits under shifts, masks and the count of ones: laws of `number f n k`, whose n digits are f k, f (k + 1), .., lowest first.
--     number_digit       digit j is the test j
--     number-none        no digit where no test passes
--     number_more        one digit more below
--     under_power        a number of i bits fits more bits
--     or_bit             a bit set below a number that is shifted by one
--     ones_fit, ones_more_fit     the count of ones, and one more, fit 64 bits
-- Assumes nothing.
use Rattle.std.specs.Prelude.{ℕ, zero, suc, ◌+◌, ◌*◌, ◌^◌, ◌/◌, ◌%◌, ◌≤◌, ◌<◌, ◌≡◌, refl, Bool, true, false}
use Rattle.std.proofs.Common.{ap, ◌∙◌, add-zero, suc-add, add-suc, mod-eq_of_lt, lt_of_lt_of_le, arith, Fits}
use Rattle.std.proofs.Math.Nat.{div-div-eq-div-mul, pow-succ', pow-le-pow_right}
use Rattle.std.specs.Int.Bits.{bit_or}
use Rattle.std.proofs.lemmas.Nat.{or_shifted, ones-le}
use Rattle.std.specs.Int.Count.{ones}
use Rattle.std.specs.Int.{w64}
use Rattle.hypoplactic.specs.Words.{tick}
use Rattle.hypoplactic.specs.Junctions.{number}

-- The lowest digit, and the rest.
digit : (b : Bool) (x : ℕ) → tick b (2 * x) % 2 ≡ tick b 0
digit true x = omega arith
digit false x = omega arith

half : (b : Bool) (x : ℕ) → tick b (2 * x) / 2 ≡ x
half true x = omega arith
half false x = omega arith

-- The digit j of a number is its test j.
pub number_digit : (f : ℕ → Bool) (n k j : ℕ) → j < n → number f n k / 2 ^ j % 2 ≡ tick (f (k + j)) 0
unfolding number
number_digit f zero k j h = let z : ⊥ = omega arith in absurd z
number_digit f (suc n) k zero h = rw (add-zero k) (ap (λ (x : ℕ). x % 2) (omega arith) ∙ digit (f k) (number f n (suc k)))
number_digit f (suc n) k (suc j) h =
    rw (add-suc k j, ← suc-add k j, pow-succ' 2 j, ← div-div-eq-div-mul (number f (suc n) k) 2 (2 ^ j), half (f k) (number f n (suc k)))
    (number_digit f n (suc k) j (omega arith))

-- A test that never passes from k on gives no bit.
pub number-none : (f : ℕ → Bool) (n k : ℕ) → ((a : ℕ) → k ≤ a → f a ≡ false) → number f n k ≡ 0
unfolding number
number-none f zero k e = refl
number-none f (suc n) k e = rw (e k (omega arith), number-none f n (suc k) (λ a h. e a (omega arith)))

-- One bit more below.
pub number_more : (f : ℕ → Bool) (n k a : ℕ) → n ≡ suc k → tick (f a) (2 * number f k (suc a)) ≡ number f n a
unfolding number
number_more f n k a e = rw e

-- A number of i bits has at most j bits.
pub under_power : (x i j : ℕ) → x < 2 ^ i → i ≤ j → x < 2 ^ j
under_power x i j h l = lt_of_lt_of_le h (pow-le-pow_right {n = 2} (omega arith) {i = i} {j = j} l)

-- A bit below a set that is shifted by one.
pub or_bit : (x : ℕ) (b : Bool) → x < 2 ^ 63 → bit_or (x * 2 ^ 1 % 2 ^ 64) (tick b 0) ≡ tick b (2 * x)
or_bit x b h = rw (mod-eq_of_lt {n = x * 2 ^ 1} {m = 2 ^ 64} (omega arith), or_shifted x 1 (tick b 0) (go b)) (sum b)
  where
    go : (b : Bool) → tick b 0 < 2 ^ 1
    go true = omega arith
    go false = omega arith

    sum : (b : Bool) → x * 2 ^ 1 + tick b 0 ≡ tick b (2 * x)
    sum true = omega arith
    sum false = omega arith

-- At most 64 bits are set.
pub ones_fit : (set : ℕ) → Fits w64 set → Fits w64 (ones set)
ones_fit set f = omega (arith, ones-le 64 set f.fits)

pub ones_more_fit : (set : ℕ) → Fits w64 set → Fits w64 (ones set + 1)
ones_more_fit set f = omega (arith, ones-le 64 set f.fits)
