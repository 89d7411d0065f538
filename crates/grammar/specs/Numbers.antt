-- Decimal numbers as bytes.
--     decimal n     the digits of n, most significant first, no leading zero; 0 is the one digit 0
-- What a reader of bytes takes for a number is in Reading. Assumes nothing.
use Rattle.std.specs.Prelude.{ℕ, zero, suc, ◌+◌, ◌/◌, ◌%◌, List, [], ◌∷◌, ◌++◌, cond, ltb}

-- The digits of n, of which there are at most one more than the first number. The digit 0 is the byte 48.
abbrev pub digits : ℕ → ℕ → List ℕ
digits zero n = (48 + n) ∷ []
digits (suc k) n =
    let more = digits k (n / 10) ++ ((48 + n % 10) ∷ []) in
    cond (ltb n 10) ((48 + n) ∷ []) more

-- The digits of n: a number has no more digits than one and itself.
unfoldable pub decimal : ℕ → List ℕ
decimal n = digits n n
