-- Numbers read back from their digits.
--     number_zero       after a 0 nothing more is taken
--     number_read       a number of at most four digits, by the grammar, where no digit follows
--     decimal_cut       digits that no digit follows determine their number and what follows
-- Assumes nothing.
use Prim.Native.Nat.{ℕ, zero, suc, ◌+◌, ◌-◌, ◌*◌, ◌/◌, ◌%◌, ◌^◌, ◌≤◌, ◌<◌}
use mathlib.Core.Path.{◌≡◌, refl, sym, ap, ◌∙◌}
use mathlib.Core.Bool.{true, false, cond}
use mathlib.Core.List.{List, [], ◌∷◌, ◌++◌, append_assoc}
use native.Mathlib.Decide.{dec_lt}
use native.Mathlib.Omega.{arith}
use borrow.Author.Tests.{le-leb, ne_eqb}
use Rattle.grammar.specs.Numbers.{decimal}
use Rattle.grammar.specs.Values.{Short}
use Rattle.grammar.specs.Reading.{Read, got, digit, further_digits, more_digits, read_number}
use Rattle.grammar.proofs.Theory.Decimal.{decimal_digit, decimal_more}

digit_is : (d : ℕ) → d < 10 → digit (48 + d) ≡ true
digit_is d h = rw (le-leb 48 (48 + d) (omega arith), le-leb (48 + d) 57 (omega arith))

-- A number's digits, read as far as they go: j is how many there are beside the first, k how many more there may be.
number_begun : (j k n : ℕ) (t : List ℕ) → 10 ^ j ≤ n → n < 10 ^ suc j → j + k ≡ further_digits → read_number (decimal n ++ t) ≡ more_digits k n t
number_begun zero k n t low high e =
    let all : k ≡ further_digits = omega arith in
    let back : 48 + n - 48 ≡ n = omega arith in
    rw (all, decimal_digit n high, ne_eqb (48 + n) 48 (omega arith), digit_is n high) (ap (λ (m : ℕ). more_digits further_digits m t) back)
number_begun (suc j) k n t low high e =
    let back : n / 10 * 10 + (48 + n % 10 - 48) ≡ n = omega arith in
    rw (decimal_more n (omega arith), append_assoc)
    (number_begun j (suc k) (n / 10) ((48 + n % 10) ∷ t) (omega arith) (omega arith) (omega arith)
    ∙ rw (digit_is (n % 10) (omega arith), back))

-- A number of more than j digits, read as far as they go.
number_sized : (k j n : ℕ) → j + k ≡ further_digits → 10 ^ j ≤ n → Short n → (l : ℕ) × ((t : List ℕ) → read_number (decimal n ++ t) ≡ more_digits l n t)
number_sized zero j n e low h =
    let all : j ≡ further_digits = omega arith in
    (0, λ t. number_begun further_digits 0 n t (rw all at low) (omega arith) refl)
number_sized (suc k) j n e low h =
    elim (dec_lt n (10 ^ suc j)) [
      | yes p ↦ (suc k, λ t. number_begun j (suc k) n t low p e)
      | no q ↦ number_sized k (suc j) n (omega arith) (omega arith) h
    ]

-- A number but 0, read as far as its digits go: the rest of the text is left to the digits that may still come.
pub number_digits : (n : ℕ) → 0 < n → Short n → (l : ℕ) × ((t : List ℕ) → read_number (decimal n ++ t) ≡ more_digits l n t)
number_digits n p h = number_sized further_digits 0 n refl p h

-- The text goes on with no digit.
abbrev pub Ends : List ℕ → Type 0
Ends [] = Unit
Ends (b ∷ t) = digit b ≡ false

digits_end : (k n : ℕ) (t : List ℕ) → Ends t → more_digits k n t ≡ got n t
digits_end zero n t h = refl
digits_end (suc k) n [] h = refl
digits_end (suc k) n (b ∷ t) h = rw h

-- After a 0 nothing more is taken, whatever follows.
pub number_zero : (t : List ℕ) → read_number (decimal 0 ++ t) ≡ got 0 t
unfolding decimal
number_zero t = refl

-- A number is read back where no digit follows.
pub number_read : (n : ℕ) (t : List ℕ) → Short n → Ends t → read_number (decimal n ++ t) ≡ got n t
number_read zero t h stop = number_zero t
number_read (suc n) t h stop =
    let d : (l : ℕ) × ((t : List ℕ) → read_number (decimal (suc n) ++ t) ≡ more_digits l (suc n) t) = number_digits (suc n) (omega arith) h in
    d.1 t ∙ digits_end d.0 (suc n) t stop

-- All digits there are, after those of a number.
abbrev scan : ℕ → List ℕ → Read ℕ
scan n [] = got n []
scan n (b ∷ t) = cond (digit b) (scan (n * 10 + (b - 48)) t) (got n (b ∷ t))

scan_end : (n : ℕ) (t : List ℕ) → Ends t → scan n t ≡ got n t
scan_end n [] h = refl
scan_end n (b ∷ t) h = rw h

scan-digit : (n : ℕ) (t : List ℕ) → n < 10 → scan 0 (decimal n ++ t) ≡ scan n t
scan-digit n t h =
    let back : 0 * 10 + (48 + n - 48) ≡ n = omega arith in
    rw (decimal_digit n h, digit_is n h, back)

-- The digits of any number, scanned; k bounds it.
scan-decimal : (k n : ℕ) (t : List ℕ) → n ≤ k → scan 0 (decimal n ++ t) ≡ scan n t
scan-decimal zero n t h = scan-digit n t (omega arith)
scan-decimal (suc k) n t h = elim (dec_lt n 10) [ yes p ↦ scan-digit n t p | no q ↦ go (omega arith) (scan-decimal k (n / 10) ((48 + n % 10) ∷ t) (omega arith)) ]
  where
    go : 10 ≤ n → scan 0 (decimal (n / 10) ++ ((48 + n % 10) ∷ t)) ≡ scan (n / 10) ((48 + n % 10) ∷ t) → scan 0 (decimal n ++ t) ≡ scan n t
    go low e =
        let back : n / 10 * 10 + (48 + n % 10 - 48) ≡ n = omega arith in
        rw (decimal_more n low, append_assoc) (e ∙ rw (digit_is (n % 10) (omega arith), back))

-- Digits that no digit follows determine their number and what follows.
pub decimal_cut : (n m : ℕ) (s t : List ℕ) → Ends s → Ends t → decimal n ++ s ≡ decimal m ++ t → (n ≡ m) × (s ≡ t)
decimal_cut n m s t e f h =
    let p : scan 0 (decimal n ++ s) ≡ got n s = scan-decimal n n s (omega arith) ∙ scan_end n s e in
    let q : scan 0 (decimal m ++ t) ≡ got m t = scan-decimal m m t (omega arith) ∙ scan_end m t f in
    let same : got n s ≡ got m t = sym p ∙ ap (scan 0) h ∙ q in
    (cc, cc)
