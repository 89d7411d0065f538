-- The bytes of the field of a number. A number of one digit or two is looked at alone; of any other the digits are stored from the last to the first. How many
-- bytes there are is counted in line_sizes.
--     one_room, two_room, one_laid, two_laid     one digit or two stored after the comma
--     Digiting value old at now i left           the loop that stores: the digits of what is left are not stored yet
--     digits_start, digit_after, digit_there, digits_turn, first_there, comma_there, digits_end      its laws
--     fielding                                   the ruleset of the functions on fields
-- Assumes nothing.
use Rattle.std.specs.Prelude.{ℕ, suc, ◌+◌, ◌-◌, ◌/◌, ◌%◌, ◌≤◌, ◌<◌, ◌≡◌, refl, List, [], ◌∷◌, ◌++◌, length, set}
use Rattle.std.proofs.Common.{sym, ap, ◌∙◌, append_assoc, append-nil, mod-lt, add-one, arith, length-append, length-set, rules}
use Rattle.std.proofs.lemmas.List.Edits.{sets}
use Rattle.grammar.specs.Lines.{field}
use Rattle.grammar.specs.Numbers.{decimal}
use Rattle.grammar.proofs.Theory.Decimal.{decimal_digit, decimal_more}
use Rattle.line_sizes.specs.Digits.{decimal-some, decimal_two, length-digit, length_more}
use Rattle.line_sizes.specs.Sizes.{Counted}
use Rattle.writers.specs.Laying.{Laid, sets_before}

-- The comma, then one digit or two.
module _ (value : ℕ) (old : List ℕ) (at : ℕ) (h : at + length (field value) ≤ length old) where
  pub one_room : at + 1 < length (set old at 44)
  one_room = omega (arith, length-set old at 44, decimal-some value)

  pub two_room : (d : ℕ) → 10 ≤ value → value < 100 → at + 2 < length (set (set old at 44) (at + 1) d)
  two_room d l m = omega (arith, length-set (set old at 44) (at + 1) d, length-set old at 44, ap length (decimal_two value l m))

  pub one_laid : {d : ℕ} → value < 10 → d ≡ 48 + value → Laid (field value) old at (set (set old at 44) (at + 1) d) (at + 2)
  one_laid {d} l e = record {
    is = rw (decimal_digit value l, ← e, add-one at);
    ends = omega (arith, length-digit value l);
    room = h;
    long = length-set (set old at 44) (at + 1) d ∙ length-set old at 44;
  }

  pub two_laid : {d u : ℕ} → 10 ≤ value → value < 100 → d ≡ 48 + value / 10 → u ≡ 48 + value % 10
      → Laid (field value) old at (set (set (set old at 44) (at + 1) d) (at + 2) u) (at + 3)
  two_laid {d} {u} l m e f =
      let next : at + 2 ≡ suc (suc at) = omega arith in
      record {
        is = rw (decimal_two value l m, ← e, ← f, add-one at, next);
        ends = omega (arith, ap length (decimal_two value l m));
        room = h;
        long = length-set (set (set old at 44) (at + 1) d) (at + 2) u ∙ length-set (set old at 44) (at + 1) d ∙ length-set old at 44;
      }

-- The digits of what is left are not stored yet, and those after them stand from place i on.
pub record Digiting (value : ℕ) (old : List ℕ) (at : ℕ) (now : List ℕ) (i left : ℕ) : Type 0 where
  pub tail : List ℕ
  pub whole : decimal value ≡ decimal left ++ tail
  pub is : now ≡ sets old i tail
  pub place : i ≡ at + 1 + length (decimal left)
  pub room : at + length (field value) ≤ length old
  pub long : length now ≡ length old

-- None is stored yet.
pub digits_start : {size : ℕ} (value : ℕ) (old : List ℕ) (at : ℕ) → Counted 21 (field value) size → at + length (field value) ≤ length old
    → Digiting value old at old (at + size) value
digits_start value old at n h =
    record { tail = []; whole = sym (append-nil (decimal value)); is = refl; place = omega (arith, n.is); room = h; long = refl }

module _ {value : ℕ} {old : List ℕ} {at : ℕ} {now : List ℕ} {i left : ℕ} (h : Digiting value old at now i left) where
  -- No more digits are left than there are.
  left_few : length (decimal left) ≤ length (decimal value)
  left_few = omega (arith, ap length h.whole ∙ length-append (decimal left) h.tail)

  -- The place of the next digit is there,
  pub digit_after : 1 ≤ i
  digit_after = omega (arith, h.place)

  pub digit_there : i - 1 < length now
  digit_there = omega (arith, h.place, h.room, h.long, left_few, decimal-some left)

  -- and once it is stored, fewer are left.
  pub digits_turn : {d : ℕ} → 10 ≤ left → d ≡ 48 + left % 10 → Digiting value old at (set now (i - 1) d) (i - 1) (left / 10)
  digits_turn {d} l e =
      let before : i ≡ suc (i - 1) = omega (arith, h.place) in
      record {
        tail = d ∷ h.tail;
        whole = h.whole ∙ rw (decimal_more left l, e) (append_assoc (decimal (left / 10)) ((48 + left % 10) ∷ []) h.tail);
        is = rw h.is (sets_before h.tail old (i - 1) i d before);
        place = omega (arith, h.place, length_more left l);
        room = h.room;
        long = length-set now (i - 1) d ∙ h.long;
      }

  -- The places of the first one and of the comma are there,
  pub first_there : at + 1 < length now
  first_there = omega (arith, h.room, h.long, decimal-some value)

  pub comma_there : (d : ℕ) → at < length (set now (at + 1) d)
  comma_there d = omega (arith, length-set now (at + 1) d, h.room, h.long)

  -- and with them all is stored.
  pub digits_end : {d size : ℕ} → left < 10 → d ≡ 48 + left → Counted 21 (field value) size → Laid (field value) old at (set (set now (at + 1) d) at 44) (at + size)
  digits_end {d} {size} l e n =
      let last : decimal value ≡ d ∷ h.tail = h.whole ∙ rw (decimal_digit left l, e) in
      let before : i ≡ suc (at + 1) = omega (arith, h.place, length-digit left l) in
      record {
        is =
            rw (h.is, sets_before h.tail old (at + 1) i d before, sets_before (d ∷ h.tail) old at (at + 1) 44 (omega arith)) (rw last);
        ends = rw n.is;
        room = h.room;
        long = length-set (set now (at + 1) d) at 44 ∙ length-set now (at + 1) d ∙ h.long;
      }

-- The last digit of a number.
pub last_digit : (n : ℕ) → n % 10 < 10
last_digit n = mod-lt n (omega arith)

pub ruleset fielding = (one_room, two_room, one_laid, two_laid, digits_start, digit_after, digit_there, digits_turn, first_there, comma_there, digits_end, last_digit, rules)
