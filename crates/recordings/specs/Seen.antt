-- A table of bits that says which entries have been met: entry e has bit (e - 1) % 64 of word (e - 1) / 64.
--     bit_of, set_bit            the bit of an entry, and the table with that bit set
--     InTable size e           a table of so many words has a bit for e
--     bit_set                  each bit after one is set
--     Seen table met           the bits that are set are those of the entries met
--     seen_none, seen_more     none met, and one more
--     Reaches                  a table with a bit for every 16-bit entry up to the limit
--     Judged                   one entry judged by the limit and the table
--     Met                      the table with one entry more met
--     entering                 the ruleset of judging and meeting an entry
-- Assumes nothing.
use Rattle.std.specs.Prelude.{ℕ, zero, suc, ◌-◌, ◌*◌, ◌/◌, ◌%◌, ◌^◌, ◌<◌, ◌≤◌, ◌≡◌, refl, Bool, true, false, ◌||◌, List, [], ◌∷◌, ◌++◌, eqb, length, get_or, set, replicate}
use Rattle.std.proofs.Common.{ap, sym, ◌∙◌, true≢false, one-mul, div-one, mod-lt, arith, length-set, shl_exact, get_or-set_same, get_or-set_other, Fits, rules, eqb-true, eq-eqb, ne_eqb, lt-ltb, le-ltb}
use Rattle.std.proofs.Math.Bool.{or-true, or-false}
use Rattle.std.proofs.Math.Nat.{zero-div, mul-mod_right, mul-div-mul_left, div-div-eq-div-mul, pow-succ'}
use Rattle.std.specs.Int.Bits.{bit_and, bit_or}
use Rattle.std.proofs.lemmas.Nat.{and_mask, or_shr, or_mod}
use Rattle.std.proofs.Math.Dec.{eqb-zero-suc, eqb-suc-zero, eqb-suc-suc}
use Rattle.std.proofs.lemmas.List.{length-replicate, get_or-replicate}
use Rattle.std.specs.Int.{w16}
use Rattle.std.proofs.lemmas.Bool.{eqb-false}
use Rattle.hypoplactic.specs.Words.{occurs, tick}
use Rattle.outcomes.specs.Judgements.{outside}
use Rattle.hypoplactic.proofs.Theory.Occurrences.{occurs-append}

-- The bit of an entry.
abbrev pub bit_of : List ℕ → ℕ → ℕ
bit_of table e = bit_and (get_or table ((e - 1) / 64) 0 / 2 ^ ((e - 1) % 64)) 1

-- The table with the bit of an entry set.
abbrev pub set_bit : List ℕ → ℕ → List ℕ
set_bit table e = set table ((e - 1) / 64) (bit_or (get_or table ((e - 1) / 64) 0) (1 * 2 ^ ((e - 1) % 64) % 2 ^ 64))

-- A table of so many words has a bit for the entry.
pub record InTable (size entry : ℕ) : Type 0 where
  pub low : 1 ≤ entry
  pub high : entry ≤ 64 * size

-- The word of an entry is in the table.
pub word_in_table : (size e : ℕ) → InTable size e → (e - 1) / 64 < size
word_in_table size e t = omega arith

-- ---- the digits of one word

-- The digits of a power of two.
power_digit : (k j : ℕ) → 2 ^ k / 2 ^ j % 2 ≡ tick (eqb k j) 0
power_digit zero zero = refl
power_digit zero (suc j) = rw (pow-succ' 2 j, ← div-div-eq-div-mul 1 2 (2 ^ j), zero-div (2 ^ j), eqb-zero-suc j)
power_digit (suc k) zero = rw (div-one (2 ^ suc k), pow-succ' 2 k, mul-mod_right 2 (2 ^ k), eqb-suc-zero k)
power_digit (suc k) (suc j) = rw (pow-succ' 2 k, pow-succ' 2 j, mul-div-mul_left {m = 2} (2 ^ k) (2 ^ j) (omega arith), eqb-suc-suc k j) (power_digit k j)

-- A digit 0 or 1 with another or-ed to it.
or_one : (y : ℕ) (b : Bool) → y < 2 → eqb (bit_or y (tick b 0)) 1 ≡ (eqb y 1 || b)
or_one zero true h = refl
or_one zero false h = refl
or_one (suc zero) true h = refl
or_one (suc zero) false h = refl
or_one (suc (suc y)) b h = let z : ⊥ = omega arith in absurd z

low_bit : (y : ℕ) → bit_and y 1 ≡ y % 2
low_bit y = and_mask y 1

low_or : (x y : ℕ) → bit_or x y % 2 ≡ bit_or (x % 2) (y % 2)
low_or x y = or_mod x y 1

-- A digit of a word whose digit k is set.
or_digit : (x k j : ℕ) → eqb (bit_and (bit_or x (2 ^ k) / 2 ^ j) 1) 1 ≡ (eqb (bit_and (x / 2 ^ j) 1) 1 || eqb k j)
or_digit x k j =
    rw (or_shr x (2 ^ k) j, low_bit (bit_or (x / 2 ^ j) (2 ^ k / 2 ^ j)), low_or (x / 2 ^ j) (2 ^ k / 2 ^ j), power_digit k j, low_bit (x / 2 ^ j))
    (or_one (x / 2 ^ j % 2) (eqb k j) (mod-lt (x / 2 ^ j) {m = 2} (omega arith)))

-- A one shifted to a digit of a word.
one_shifted : (k : ℕ) → k < 64 → 1 * 2 ^ k % 2 ^ 64 ≡ 2 ^ k
one_shifted k h = shl_exact 1 k 64 (omega arith) (omega arith) ∙ one-mul (2 ^ k)

-- ---- the bits of the table

same_test : (a b c d : ℕ) → (a ≡ b → c ≡ d) → (c ≡ d → a ≡ b) → eqb a b ≡ eqb c d
same_test a b c d f g = go (eqb c d) refl
  where
    go : (t : Bool) → eqb c d ≡ t → eqb a b ≡ t
    go true q = eq-eqb a b (g (eqb-true c d q))
    go false q = ne_eqb a b (λ p. eqb-false c d q (f p))

-- Each bit after one is set.
bit_set : (table : List ℕ) (r e : ℕ) → InTable (length table) r → 1 ≤ e → eqb (bit_of (set_bit table r) e) 1 ≡ (eqb (bit_of table e) 1 || eqb r e)
bit_set table r e t l = go (eqb ((e - 1) / 64) ((r - 1) / 64)) refl
  where
    v : ℕ
    v = bit_or (get_or table ((r - 1) / 64) 0) (1 * 2 ^ ((r - 1) % 64) % 2 ^ 64)

    bit : ℕ → Bool
    bit w = eqb (bit_and (w / 2 ^ ((e - 1) % 64)) 1) 1

    go : (b : Bool) → eqb ((e - 1) / 64) ((r - 1) / 64) ≡ b → bit (get_or (set table ((r - 1) / 64) v) ((e - 1) / 64) 0) ≡ (bit (get_or table ((e - 1) / 64) 0) || eqb r e)
    go true q =
        let w : (e - 1) / 64 ≡ (r - 1) / 64 = eqb-true ((e - 1) / 64) ((r - 1) / 64) q in
        let s : eqb ((r - 1) % 64) ((e - 1) % 64) ≡ eqb r e = same_test ((r - 1) % 64) ((e - 1) % 64) r e (λ p. omega arith) (λ p. omega arith) in
        rw (w, get_or-set_same table ((r - 1) / 64) v 0 (word_in_table (length table) r t), one_shifted ((r - 1) % 64) (omega arith), ← s)
        (or_digit (get_or table ((r - 1) / 64) 0) ((r - 1) % 64) ((e - 1) % 64))
    go false q =
        let w : (e - 1) / 64 ≡ (r - 1) / 64 → ⊥ = eqb-false ((e - 1) / 64) ((r - 1) / 64) q in
        let s : r ≡ e → ⊥ = λ p. w (ap (λ (x : ℕ). (x - 1) / 64) (sym p)) in
        rw (get_or-set_other table ((r - 1) / 64) ((e - 1) / 64) v 0 w, ne_eqb r e s, or-false)

-- The bits that are set are those of the entries met.
pub record Seen (table met : List ℕ) : Type 0 where
  pub bit : (e : ℕ) → InTable (length table) e → eqb (bit_of table e) 1 ≡ occurs e met

-- No bit is set in a table of zeros.
pub seen_none : (n : ℕ) → Seen (replicate n 0) []
seen_none n = record {
  bit = λ e t.
      let h : (e - 1) / 64 < n = omega (arith, word_in_table _ e t, length-replicate {A = ℕ} n 0) in
      rw (get_or-replicate {A = ℕ} n ((e - 1) / 64) 0 0 h, zero-div (2 ^ ((e - 1) % 64)));
}

-- One entry more at the end of those met.
seen_more : (table met : List ℕ) (r : ℕ) → InTable (length table) r → Seen table met → Seen (set_bit table r) (met ++ (r ∷ []))
seen_more table met r t s = record {
  bit = λ e h.
      let k : InTable (length table) e = rw length-set at h in
      rw (bit_set table r e t k.low, s.bit e k, occurs-append e met (r ∷ []), or-false (eqb r e));
}

-- ---- one entry judged

-- The table has a bit for every 16-bit entry from 1 to the limit.
pub record Reaches (size limit : ℕ) : Type 0 where
  pub covers : (e : ℕ) → 1 ≤ e → e ≤ limit → Fits w16 e → InTable size e

-- An entry is wrong that is 0, above the limit or met before. One that is not has a bit in the table.
pub record Judged (limit : ℕ) (table : List ℕ) (entry : ℕ) (wrong : Bool) : Type 0 where
  pub told : (met : List ℕ) → Seen table met → wrong ≡ (outside limit entry || occurs entry met)
  pub bit : wrong ≡ false → InTable (length table) entry

-- An entry is among those met afterwards.
pub record Met (table : List ℕ) (entry : ℕ) (after : List ℕ) : Type 0 where
  pub more : (met : List ℕ) → Seen table met → Seen after (met ++ (entry ∷ []))
  pub long : length after ≡ length table

pub judged_low : {limit e : ℕ} {table : List ℕ} → e < 1 → Judged limit table e true
judged_low {limit} {e} h = record { told = λ met s. rw (lt-ltb e 1 h); bit = λ f. absurd (true≢false f) }

pub judged_high : {limit e : ℕ} {table : List ℕ} → limit < e → Judged limit table e true
judged_high {limit} {e} h = record { told = λ met s. rw (lt-ltb limit e h, or-true); bit = λ f. absurd (true≢false f) }

pub word_there : {limit e : ℕ} (table : List ℕ) → Reaches (length table) limit → Fits w16 e → 1 ≤ e → e ≤ limit → (e - 1) / 64 < length table
word_there {limit} {e} table r f l h = word_in_table (length table) e (r.covers e l h f)

pub judged_bit : {limit e : ℕ} (table : List ℕ) → Reaches (length table) limit → Fits w16 e → 1 ≤ e → e ≤ limit → Judged limit table e (eqb (bit_of table e) 1)
judged_bit {limit} {e} table r f l h = record {
  told = λ met s. rw (le-ltb e 1 l, le-ltb limit e h, s.bit e (r.covers e l h f));
  bit = λ z. r.covers e l h f;
}

pub met_now : (table : List ℕ) (e : ℕ) → InTable (length table) e → Met table e (set_bit table e)
met_now table e t = record { more = λ met s. seen_more table met e t s; long = length-set table ((e - 1) / 64) _ }

pub ruleset entering = (judged_low, judged_high, word_there, judged_bit, word_in_table, met_now, rules)
