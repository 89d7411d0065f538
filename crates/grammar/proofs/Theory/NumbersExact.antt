-- Numbers, fields and steps are read exactly: number_exact, field_exact, step_exact; the bytes of digits are 48 to 57: digit_range.
-- Assumes nothing.
use Prim.Native.Nat.{ℕ, zero, suc, ◌+◌, ◌-◌, ◌*◌, ◌/◌, ◌%◌, ◌^◌, ◌≤◌, ◌<◌}
use mathlib.Core.Path.{◌≡◌, refl, sym, ap, ◌∙◌}
use mathlib.Core.Bool.{Bool, true, false, cond, ◌&&◌}
use mathlib.Core.List.{List, [], ◌∷◌, ◌++◌, append_assoc}
use mathlib.Core.Logic.{◌≢◌}
use native.Mathlib.Omega.{arith}
use lib.Dec.{leb, eqb}
use borrow.Author.Tests.{leb-true, eqb-true, eqb-false}
use Rattle.grammar.specs.Numbers.{decimal}
use Rattle.grammar.specs.Lines.{field, step}
use Rattle.grammar.specs.Values.{Short}
use Rattle.grammar.specs.Reading.{Read, got, broken, digit, further_digits, more_digits, read_number, read_field, read_step}
use Rattle.grammar.proofs.Theory.Decimal.{decimal_digit, decimal_more}
use Rattle.grammar.proofs.Theory.Numbers.{number_digits, number_zero}
use Rattle.grammar.proofs.Theory.Exact.{Broke, Exact, not_both, at_once, after_exact}

pub digit_range : (b : ℕ) → digit b ≡ true → (48 ≤ b) × (b ≤ 57)
digit_range b h = go (leb 48 b) (leb b 57) refl refl h
  where
    go : (x y : Bool) → leb 48 b ≡ x → leb b 57 ≡ y → x && y ≡ true → (48 ≤ b) × (b ≤ 57)
    go true true d e h = (leb-true 48 b d, leb-true b 57 e)
    go true false d e h = let z : ◌≡◌ {A = ℕ} 0 1 = cc in absurd (omega arith)
    go false y d e h = let z : ◌≡◌ {A = ℕ} 0 1 = cc in absurd (omega arith)

-- One more digit.
decimal_next : (n b : ℕ) → 0 < n → 48 ≤ b → b ≤ 57 → decimal (n * 10 + (b - 48)) ≡ decimal n ++ (b ∷ [])
decimal_next n b p low high =
    let m : ℕ = n * 10 + (b - 48) in
    let tenth : m / 10 ≡ n = omega arith in
    let last : 48 + m % 10 ≡ b = omega arith in
    decimal_more m (omega arith) ∙ rw (tenth, last)

-- A count of digits that four do not pass.
four : (j k : ℕ) → j + k ≡ 4 → 10 ^ j ≤ 10000
four j zero e = let d : j ≡ 4 = omega arith in rw d (omega arith)
four j (suc k) e = let d : 10 ^ suc j ≤ 10000 = four (suc j) k (omega arith) in omega arith

-- The digits taken after those of n: the text is the digits of a number m and what is left.
record Taken (n : ℕ) (t : List ℕ) (m : ℕ) (rest : List ℕ) : Type 0 where
  short : Short m
  text : decimal n ++ t ≡ decimal m ++ rest

none_taken : (k j n : ℕ) (t : List ℕ) (m : ℕ) (rest : List ℕ) → j + k ≡ 4 → n < 10 ^ j → got n t ≡ got m rest → Taken n t m rest
none_taken k j n t m rest e b h =
    let x : n ≡ m = cc in
    let y : t ≡ rest = cc in
    let z : 10 ^ j ≤ 10000 = four j k e in
    record { short = omega arith; text = rw (x, y) }

more_taken : (k j n : ℕ) (t : List ℕ) (m : ℕ) (rest : List ℕ) → j + k ≡ 4 → 0 < n → n < 10 ^ j → more_digits k n t ≡ got m rest → Taken n t m rest
more_taken zero j n t m rest e p b h = none_taken zero j n t m rest e b h
more_taken (suc k) j n [] m rest e p b h = none_taken (suc k) j n [] m rest e b h
more_taken (suc k) j n (c ∷ t) m rest e p b h = go (digit c) refl (more_taken k (suc j) (n * 10 + (c - 48)) t m rest (omega arith)) h
  where
    go : (x : Bool) → digit c ≡ x
        → (0 < n * 10 + (c - 48) → n * 10 + (c - 48) < 10 ^ suc j → more_digits k (n * 10 + (c - 48)) t ≡ got m rest → Taken (n * 10 + (c - 48)) t m rest)
        → cond x (more_digits k (n * 10 + (c - 48)) t) (got n (c ∷ t)) ≡ got m rest → Taken n (c ∷ t) m rest
    go true d next h =
        let range : (48 ≤ c) × (c ≤ 57) = digit_range c d in
        let r : Taken (n * 10 + (c - 48)) t m rest = next (omega arith) (omega arith) h in
        record {
          short = r.short;
          text = sym (ap (λ (l : List ℕ). l ++ t) (decimal_next n c p range.0 range.1) ∙ append_assoc (decimal n) (c ∷ []) t) ∙ r.text;
        }
    go false d next h = none_taken (suc k) j n (c ∷ t) m rest e b h

number_sound : (t : List ℕ) (n : ℕ) (rest : List ℕ) → read_number t ≡ got n rest → Short n × (t ≡ decimal n ++ rest)
number_sound [] n rest h = absurd (not_both (sym h))
number_sound (b ∷ t) n rest h = go (eqb b 48) (digit b) refl refl h
  where
    go : (x y : Bool) → eqb b 48 ≡ x → digit b ≡ y → cond x (got 0 t) (cond y (more_digits further_digits (b - 48) t) (broken (b ∷ t))) ≡ got n rest → Short n × (b ∷ t ≡ decimal n ++ rest)
    go true y d e h =
        let z : 0 ≡ n = cc in
        let u : t ≡ rest = cc in
        (omega arith, rw (← z, decimal_digit 0 (omega arith), eqb-true b 48 d, u))
    go false true d e h =
        let range : (48 ≤ b) × (b ≤ 57) = digit_range b e in
        let more : b ≢ 48 = eqb-false b 48 d in
        let r : Taken (b - 48) t n rest = more_taken further_digits 1 (b - 48) t n rest refl (omega arith) (omega arith) h in
        let back : 48 + (b - 48) ≡ b = omega arith in
        (r.short, sym (rw (decimal_digit (b - 48) (omega arith), back)) ∙ r.text)
    go false false d e h = absurd (not_both (sym h))

-- No digit makes a number smaller.
more_grown : (k n : ℕ) (t : List ℕ) (m : ℕ) (rest : List ℕ) → more_digits k n t ≡ got m rest → n ≤ m
more_grown zero n t m rest h = let x : n ≡ m = cc in omega arith
more_grown (suc k) n [] m rest h = let x : n ≡ m = cc in omega arith
more_grown (suc k) n (b ∷ t) m rest h = go (digit b) (more_grown k (n * 10 + (b - 48)) t m rest) h
  where
    go : (x : Bool) → (more_digits k (n * 10 + (b - 48)) t ≡ got m rest → n * 10 + (b - 48) ≤ m)
        → cond x (more_digits k (n * 10 + (b - 48)) t) (got n (b ∷ t)) ≡ got m rest → n ≤ m
    go true f h = let g : n * 10 + (b - 48) ≤ m = f h in omega arith
    go false f h = let x : n ≡ m = cc in omega arith

-- What digits may still come is settled by the next byte.
more_steady : (k n : ℕ) (b : ℕ) (s z : List ℕ) → 0 < n → more_digits k n (b ∷ s) ≡ got n (b ∷ s) → more_digits k n (b ∷ z) ≡ got n (b ∷ z)
more_steady zero n b s z p h = refl
more_steady (suc k) n b s z p h = go (digit b) refl h
  where
    go : (x : Bool) → digit b ≡ x → cond x (more_digits k (n * 10 + (b - 48)) s) (got n (b ∷ s)) ≡ got n (b ∷ s) → more_digits (suc k) n (b ∷ z) ≡ got n (b ∷ z)
    go true d h =
        let g : n * 10 + (b - 48) ≤ n = more_grown k (n * 10 + (b - 48)) s n (b ∷ s) h in
        let x : ⊥ = omega arith in
        absurd x
    go false d h = rw d

number_steady : (t : List ℕ) (n b : ℕ) (s z : List ℕ) → read_number t ≡ got n (b ∷ s) → read_number (decimal n ++ (b ∷ z)) ≡ got n (b ∷ z)
number_steady t zero b s z h = number_zero (b ∷ z)
number_steady t (suc n) b s z h =
    let x : Short (suc n) × (t ≡ decimal (suc n) ++ (b ∷ s)) = number_sound t (suc n) (b ∷ s) h in
    let d : (l : ℕ) × ((u : List ℕ) → read_number (decimal (suc n) ++ u) ≡ more_digits l (suc n) u) = number_digits (suc n) (omega arith) x.0 in
    d.1 (b ∷ z) ∙ more_steady d.0 (suc n) b s z (omega arith) (sym (d.1 (b ∷ s)) ∙ ap read_number (sym x.1) ∙ h)

more_gives : (k n : ℕ) (t rest : List ℕ) → more_digits k n t ≡ broken rest → ⊥
more_gives zero n t rest h = not_both h
more_gives (suc k) n [] rest h = not_both h
more_gives (suc k) n (b ∷ t) rest h = go (digit b) (more_gives k (n * 10 + (b - 48)) t rest) h
  where
    go : (x : Bool) → (more_digits k (n * 10 + (b - 48)) t ≡ broken rest → ⊥) → cond x (more_digits k (n * 10 + (b - 48)) t) (got n (b ∷ t)) ≡ broken rest → ⊥
    go true f h = f h
    go false f h = not_both h

number_broke : (t rest : List ℕ) → read_number t ≡ broken rest → Broke Short decimal read_number t rest
number_broke [] rest h = at_once decimal read_number 0 (omega arith) [] rest (cc) (λ b s z e. cc)
number_broke (c ∷ t) rest h = go (eqb c 48) (digit c) refl refl h
  where
    go : (x y : Bool) → eqb c 48 ≡ x → digit c ≡ y → cond x (got 0 t) (cond y (more_digits further_digits (c - 48) t) (broken (c ∷ t))) ≡ broken rest → Broke Short decimal read_number (c ∷ t) rest
    go true y d e h = absurd (not_both h)
    go false true d e h = absurd (more_gives 3 (c - 48) t rest h)
    go false false d e h = at_once decimal read_number 0 (omega arith) (c ∷ t) rest (cc) (λ b s z i. let q : c ≡ b = cc in rw (← q, d, e))

-- Numbers of at most four digits are read exactly.
pub number_exact : Exact Short decimal read_number
number_exact = record { some = 0; fine = omega arith; sound = number_sound; steady = number_steady; broke = number_broke }

pub field_exact : Exact Short field read_field
field_exact = after_exact 44 number_exact

step_sound : (t : List ℕ) (m : ℕ) (rest : List ℕ) → read_step t ≡ got m rest → (m ≤ 1) × (t ≡ step m ∷ rest)
step_sound [] m rest h = absurd (not_both (sym h))
step_sound (b ∷ t) m rest h = go (eqb b 114) (eqb b 100) refl refl h
  where
    go : (x y : Bool) → eqb b 114 ≡ x → eqb b 100 ≡ y → cond x (got 0 t) (cond y (got 1 t) (broken (b ∷ t))) ≡ got m rest → (m ≤ 1) × (b ∷ t ≡ step m ∷ rest)
    go true y d e h = let q : 0 ≡ m = cc in let u : t ≡ rest = cc in (omega arith, rw (← q, eqb-true b 114 d, u))
    go false true d e h = let q : 1 ≡ m = cc in let u : t ≡ rest = cc in (omega arith, rw (← q, eqb-true b 100 e, u))
    go false false d e h = absurd (not_both (sym h))

step_steady : (t : List ℕ) (m b : ℕ) (s z : List ℕ) → read_step t ≡ got m (b ∷ s) → read_step (step m ∷ b ∷ z) ≡ got m (b ∷ z)
step_steady t zero b s z h = refl
step_steady t (suc zero) b s z h = refl
step_steady t (suc (suc m)) b s z h =
    let r : (suc (suc m) ≤ 1) × (t ≡ 100 ∷ b ∷ s) = step_sound t (suc (suc m)) (b ∷ s) h in
    let x : ⊥ = omega arith in
    absurd x

step_broke : (t rest : List ℕ) → read_step t ≡ broken rest → Broke (λ m. m ≤ 1) (λ m. step m ∷ []) read_step t rest
step_broke [] rest h = at_once (λ m. step m ∷ []) read_step 0 (omega arith) [] rest (cc) (λ b s z e. cc)
step_broke (c ∷ t) rest h = go (eqb c 114) (eqb c 100) refl refl h
  where
    go : (x y : Bool) → eqb c 114 ≡ x → eqb c 100 ≡ y → cond {A = Read ℕ} x (got 0 t) (cond y (got 1 t) (broken (c ∷ t))) ≡ broken rest
        → Broke (λ m. m ≤ 1) (λ m. step m ∷ []) read_step (c ∷ t) rest
    go true y d e h = absurd (not_both h)
    go false true d e h = absurd (not_both h)
    go false false d e h = at_once (λ m. step m ∷ []) read_step 0 (omega arith) (c ∷ t) rest (cc) (λ b s z i. let q : c ≡ b = cc in rw (← q, d, e))

-- A step's letter is read exactly.
pub step_exact : Exact (λ m. m ≤ 1) (λ m. step m ∷ []) read_step
step_exact = record { some = 0; fine = omega arith; sound = step_sound; steady = step_steady; broke = step_broke }
