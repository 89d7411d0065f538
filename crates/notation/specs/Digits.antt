-- The numbers of a text.
--     digits_from v text      the digits at the beginning of a text after those that make v, as a number of 64 bits; a text that begins with no digit adds none
--     Reading text v i        the loop over the digits: those before place i make v
--     reading                 its ruleset
-- Assumes nothing.
use Rattle.std.specs.Prelude.{◌≡◌, ℕ, ◌+◌, ◌-◌, ◌*◌, ◌%◌, ◌^◌, ◌<◌, ◌≤◌, cond, List, [], ◌∷◌, length, drop, nat_lt, slice_index, slice_index_or, refl}
use Rattle.std.proofs.Math.Path.{sym, ap}
use Rattle.std.proofs.Common.{◌∙◌, add-one, drop_of_length-le, drop-cons, rules}
use borrow.Author.Tests.{le-ltb, lt-ltb}

-- 48 is the byte of the digit 0, 57 that of 9. Of more digits than 64 bits hold the last count.
unfoldable pub digits_from : ℕ → List ℕ → ℕ
digits_from v [] = v
digits_from v (b ∷ bs) = cond (nat_lt b 48) v (cond (nat_lt 57 b) v (digits_from ((v % 1844674407370955162 * 10 + (b - 48)) % 2 ^ 64) bs))

pub record Reading (text : List ℕ) (v i : ℕ) : Type 0 where
  pub is : digits_from 0 text ≡ digits_from v (drop i text)

pub reading_start : (text : List ℕ) → Reading text 0 0
reading_start text = record { is = refl }

module _ {text : List ℕ} {v i : ℕ} (h : Reading text v i) where
  -- No byte is left,
  pub reading_end : length text ≤ i → v ≡ digits_from 0 text
  unfolding digits_from
  reading_end l = sym (h.is ∙ ap (digits_from v) (drop_of_length-le text l))

  module _ (l : i < length text) where
    next : digits_from 0 text ≡ digits_from v (slice_index text i ∷ drop (i + 1) text)
    next = h.is ∙ ap (digits_from v) (drop-cons text i 0 l ∙ rw (add-one i) refl)

    -- or one that is below the digits,
    pub reading_below : slice_index_or text i 0 < 48 → v ≡ digits_from 0 text
    unfolding digits_from
    reading_below b = sym (next ∙ rw (lt-ltb (slice_index text i) 48 b))

    -- or above them,
    pub reading_above : 48 ≤ slice_index text i → 57 < slice_index text i → v ≡ digits_from 0 text
    unfolding digits_from
    reading_above b a = sym (next ∙ rw (le-ltb (slice_index text i) 48 b, lt-ltb 57 (slice_index text i) a))

    -- or one more digit.
    pub reading_turn : {d w : ℕ} → 48 ≤ slice_index text i → slice_index text i ≤ 57 → d ≡ slice_index text i - 48 → w ≡ (v % 1844674407370955162 * 10 + d) % 2 ^ 64
        → Reading text w (i + 1)
    unfolding digits_from
    reading_turn b a e f = record { is = next ∙ rw (le-ltb (slice_index text i) 48 b, le-ltb 57 (slice_index text i) a, f, e) }

pub ruleset reading = (reading_start, reading_end, reading_below, reading_above, reading_turn, rules)
