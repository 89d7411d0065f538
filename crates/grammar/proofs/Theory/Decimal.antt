-- The laws of decimal numbers.
--     decimal_digit     a number below ten is its one digit
--     decimal_more      another is the digits of its tenth, then its last digit
-- Assumes nothing.
use Prim.Native.Nat.{ℕ, zero, suc, ◌+◌, ◌/◌, ◌%◌, ◌≤◌, ◌<◌}
use mathlib.Core.Path.{◌≡◌, refl}
use mathlib.Core.List.{[], ◌∷◌, ◌++◌}
use native.Mathlib.Omega.{arith}
use borrow.Author.Tests.{lt-ltb, le-ltb}
use Rattle.grammar.specs.Numbers.{decimal, digits}

digits-digit : (k n : ℕ) → n < 10 → digits k n ≡ (48 + n) ∷ []
digits-digit zero n h = refl
digits-digit (suc k) n h = rw (lt-ltb n 10 h)

digits_more : (k n : ℕ) → 10 ≤ n → digits (suc k) n ≡ digits k (n / 10) ++ ((48 + n % 10) ∷ [])
digits_more k n h = rw (le-ltb n 10 h)

-- More room than a number has digits changes nothing.
digits_room : (k l n : ℕ) → n ≤ k → n ≤ l → digits k n ≡ digits l n
digits_room zero l n h g = rw (digits-digit l n (omega arith))
digits_room (suc k) zero n h g = digits-digit (suc k) n (omega arith)
digits_room (suc k) (suc l) n h g = rw (digits_room k l (n / 10) (omega arith) (omega arith))

-- A number below ten is its one digit.
pub decimal_digit : (n : ℕ) → n < 10 → decimal n ≡ (48 + n) ∷ []
unfolding decimal
decimal_digit n h = digits-digit n n h

-- Another is the digits of its tenth, then its last digit.
pub decimal_more : (n : ℕ) → 10 ≤ n → decimal n ≡ decimal (n / 10) ++ ((48 + n % 10) ∷ [])
unfolding decimal
decimal_more zero h = let z : ⊥ = omega arith in absurd z
decimal_more (suc n) h = rw (digits_more n (suc n) h, digits_room n (suc n / 10) (suc n / 10) (omega arith) (omega arith))
