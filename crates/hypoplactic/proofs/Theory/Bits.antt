-- A number by its binary digits: the laws of `number f n k`, whose n digits are f k, f (k + 1), .., lowest first. The number stays shut, and n
-- is a variable in every law, so that 64 digits are never written out.
--     how_many f n k        how many of f k, .., f (k + n - 1) hold
--     how_many_none, how_many_more   of a test that never passes there are none; of one that passes once more there is one more
--     number-below         the number is below 2 ^ n
--     ones_number          its ones are the tests that hold
--     number_bits          equal numbers have equal digits
--     bits_number          and the converse
-- Assumes nothing.
use Prim.Native.Nat.{ℕ, zero, suc, ◌+◌, ◌*◌, ◌^◌, ◌/◌, ◌%◌, ◌≤◌, ◌<◌}
use mathlib.Core.Path.{◌≡◌, refl, ap, ap₂, ◌∙◌}
use mathlib.Core.Logic.{◌⊎◌, inl, inr}
use mathlib.Core.Bool.{Bool, true, false}
use native.Mathlib.Nat.{eq-or-lt_of_le, pow-suc, add-zero, suc-add, add-suc}
use native.Mathlib.Omega.{arith}
use lib.Count.{ones, ones_step}
use Rattle.hypoplactic.specs.Words.{tick}
use Rattle.hypoplactic.specs.Junctions.{number}

-- How many of f k, f (k + 1), .., n of them, hold.
abbrev pub how_many : (ℕ → Bool) → ℕ → ℕ → ℕ
how_many f zero k = 0
how_many f (suc n) k = tick (f k) (how_many f n (suc k))

-- A test that never passes.
pub how_many_none : (n k : ℕ) → how_many (λ a. false) n k ≡ 0
how_many_none zero k = refl
how_many_none (suc n) k = how_many_none n (suc k)

-- Tests that agree from k on.
pub how_many_same : (f g : ℕ → Bool) (n k : ℕ) → ((a : ℕ) → k ≤ a → f a ≡ g a) → how_many f n k ≡ how_many g n k
how_many_same f g zero k e = refl
how_many_same f g (suc n) k e = ap₂ tick (e k (omega arith)) (how_many_same f g n (suc k) (λ a h. e a (omega arith)))

tick-suc : (b : Bool) (n : ℕ) → tick b (suc n) ≡ suc (tick b n)
tick-suc true n = refl
tick-suc false n = refl

-- A test that passes at x besides.
pub how_many_more : (f g : ℕ → Bool) (n k x : ℕ) → k ≤ x → x < k + n → f x ≡ true → g x ≡ false → ((a : ℕ) → (a ≡ x → ⊥) → f a ≡ g a)
    → how_many f n k ≡ suc (how_many g n k)
how_many_more f g zero k x l h at_f at_g e = let z : ⊥ = omega arith in absurd z
how_many_more f g (suc n) k x l h at_f at_g e = go (λ l. how_many_more f g n (suc k) x l (omega arith) at_f at_g e) (eq-or-lt_of_le l)
  where
    go : (k < x → how_many f n (suc k) ≡ suc (how_many g n (suc k))) → (k ≡ x) ⊎ (k < x) → how_many f (suc n) k ≡ suc (how_many g (suc n) k)
    go rest (inl q) = rw (q, at_f, at_g) (ap suc (how_many_same f g n (suc x) (λ a h. e a (λ r. omega arith))))
    go rest (inr l) = ap₂ tick (e k (λ q. omega arith)) (rest l) ∙ tick-suc (g k) (how_many g n (suc k))

tick-below : (b : Bool) (x p : ℕ) → x < p → tick b (2 * x) < p * 2
tick-below true x p h = omega arith
tick-below false x p h = omega arith

-- A number of n digits is below 2 ^ n.
pub number-below : (f : ℕ → Bool) (n k : ℕ) → number f n k < 2 ^ n
unfolding number
number-below f zero k = omega arith
number-below f (suc n) k = rw (pow-suc 2 n) (tick-below (f k) (number f n (suc k)) (2 ^ n) (number-below f n (suc k)))

-- The digit r below the number x: one step of the count.
ones_digit : (n r x : ℕ) → n % 2 ≡ r → n / 2 ≡ x → ones n ≡ r + ones x
ones_digit n r x e q = ones_step n ∙ ap₂ (λ (a b : ℕ). a + ones b) e q

ones_tick : (b : Bool) (x : ℕ) → ones (tick b (2 * x)) ≡ tick b (ones x)
ones_tick true x = ones_digit (suc (2 * x)) 1 x (omega arith) (omega arith) ∙ omega arith
ones_tick false x = ones_digit (2 * x) 0 x (omega arith) (omega arith) ∙ omega arith

-- The ones of the number are the tests that hold.
pub ones_number : (f : ℕ → Bool) (n k : ℕ) → ones (number f n k) ≡ how_many f n k
unfolding number ones
ones_number f zero k = refl
ones_number f (suc n) k = ones_tick (f k) (number f n (suc k)) ∙ ap (tick (f k)) (ones_number f n (suc k))

digits_apart : (a b : Bool) (x y : ℕ) → tick a (2 * x) ≡ tick b (2 * y) → (a ≡ b) × (x ≡ y)
digits_apart true true x y e = (refl, omega arith)
digits_apart true false x y e = let z : ⊥ = omega arith in absurd z
digits_apart false true x y e = let z : ⊥ = omega arith in absurd z
digits_apart false false x y e = (refl, omega arith)

-- Equal numbers have equal digits.
pub number_bits : (f g : ℕ → Bool) (n k : ℕ) → number f n k ≡ number g n k → (j : ℕ) → j < n → f (k + j) ≡ g (k + j)
unfolding number
number_bits f g zero k e j h = let z : ⊥ = omega arith in absurd z
number_bits f g (suc n) k e zero h = rw (add-zero k) (digits_apart (f k) (g k) (number f n (suc k)) (number g n (suc k)) e).0
number_bits f g (suc n) k e (suc j) h =
    let rest : number f n (suc k) ≡ number g n (suc k) = (digits_apart (f k) (g k) (number f n (suc k)) (number g n (suc k)) e).1 in
    rw (add-suc k j, ← suc-add k j) (number_bits f g n (suc k) rest j (omega arith))

-- Numbers with equal digits are equal.
pub bits_number : (f g : ℕ → Bool) (n k : ℕ) → ((j : ℕ) → j < n → f (k + j) ≡ g (k + j)) → number f n k ≡ number g n k
unfolding number
bits_number f g zero k e = refl
bits_number f g (suc n) k e =
    ap₂ (λ (b : Bool) (x : ℕ). tick b (2 * x)) (rw (add-zero k) at (e zero (omega arith)))
    (bits_number f g n (suc k) (λ j h. rw (suc-add k j, ← add-suc k j) (e (suc j) (omega arith))))
