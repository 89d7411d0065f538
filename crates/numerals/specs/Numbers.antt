-- Numbers read at a place of the text.
--     Told text x s p          the reading x is what s says, at the place p of the text
--     said_number, number_place  what a number that was read, or a break, says in the grammar's terms, and its place
--     Numbered text x r        r says the reading x
--     passed                   a break that `?` passes on is the same break
--     Digiting                 the loop over further digits: what is left of them gives the whole
-- Single bytes are in Bytes. Assumes nothing.
use Rattle.std.specs.Prelude.{ℕ, IsErrAnd, zero, suc, ◌+◌, ◌-◌, ◌*◌, ◌^◌, ◌≤◌, ◌<◌, ◌≡◌, refl, Bool, true, false, cond, List, [], ◌∷◌, Some, None, Result, Ok, Err, length, get_or, drop}
use Rattle.std.proofs.Common.{sym, ◌∙◌, arith, Fits}
use Rattle.std.specs.Int.{w16}
use Rattle.grammar.specs.Reading.{Read, broken, digit, got, more_digits, read_field, read_number}
use Rattle.grammar.proofs.Theory.NumbersExact.{digit_range}
use Rattle.numerals.specs.Bytes.{after_there, digit_inside, digit_of, left_there, starts_with}
use Rattle.numerals.specs.declared.numbers.Broken.{Broken}
use Rattle.numerals.specs.declared.numbers.Number.{Number}

-- ---- what was read

-- A reading and what is said of it, at a place of the text.
pub record Told {A : Type 0} (text : List ℕ) (reading said : Read A) (place : ℕ) : Type 0 where
  pub says : reading ≡ said
  pub within : place ≤ length text

-- A number that was read, or a break, in the grammar's terms.
abbrev pub said_number : List ℕ → Result Number Broken → Read ℕ
said_number text (Ok n) = got n.value (drop n.next text)
said_number text (Err b) = broken (drop b.place text)

-- The place after it, or of the break.
abbrev pub number_place : Result Number Broken → ℕ
number_place (Ok n) = n.next
number_place (Err b) = b.place

-- It says a reading.
abbrev pub Numbered : List ℕ → Read ℕ → Result Number Broken → Type 0
Numbered text reading r = Told text reading (said_number text r) (number_place r)

-- A break that `?` passes on is the same break.
pub passed : {T E : Type 0} {e : E} (r : Result T E) → IsErrAnd r (λ y. y ≡ e) → r ≡ Err e
passed (Err y) h = rw h
passed (Ok x) h = absurd h

-- ---- digits

-- A digit that stands first.
module _ (b d : ℕ) (t : List ℕ) (is : Some d ≡ digit_of (b ∷ t)) where
  digit_here : (digit b ≡ true) × (b ≡ 48 + d)
  digit_here = go (digit b) refl is
    where
      go : (r : Bool) → digit b ≡ r → Some d ≡ cond r (Some (b - 48)) None → (digit b ≡ true) × (b ≡ 48 + d)
      go true e h = let (low, high) = digit_range b e in let v : d ≡ b - 48 = cc in (e, omega arith)
      go false e h = cc

  pub digit_under : d < 10
  digit_under = let (low, high) = digit_range b digit_here.0 in omega (arith, digit_here.1)

  next_read : (k n : ℕ) → more_digits (suc k) n (b ∷ t) ≡ more_digits k (n * 10 + d) t
  next_read k n = let v : b - 48 ≡ d = omega (arith, digit_here.1) in rw (digit_here.0, v)

-- No digit stands first.
digit_not : (b : ℕ) (t : List ℕ) → None ≡ digit_of (b ∷ t) → digit b ≡ false
digit_not b t h = go (digit b) h
  where
    go : (r : Bool) → None ≡ cond r (Some (b - 48)) None → r ≡ false
    go true h = cc
    go false h = refl

last_read : (k n : ℕ) (t : List ℕ) → None ≡ digit_of t → more_digits k n t ≡ got n t
last_read zero n t h = refl
last_read (suc k) n [] h = refl
last_read (suc k) n (b ∷ t) h = rw (digit_not b t h)

-- ---- further digits

-- What is left of the digits, of which at most so many may follow, gives the whole.
pub record Digiting (text : List ℕ) (whole : Read ℕ) (left n at : ℕ) : Type 0 where
  pub left_over : whole ≡ more_digits left n (drop at text)
  pub within : at ≤ length text
  pub few : left ≤ 3
  pub short : n < 10 ^ (4 - left)

few_digits : (left n : ℕ) → 0 < left → left ≤ 3 → n < 10 ^ (4 - left) → n < 1000
few_digits zero n l f h = let z : ⊥ = omega arith in absurd z
few_digits (suc zero) n l f h = h
few_digits (suc (suc zero)) n l f h = omega arith
few_digits (suc (suc (suc zero))) n l f h = omega arith
few_digits (suc (suc (suc (suc k)))) n l f h = let z : ⊥ = omega arith in absurd z

module _ {text : List ℕ} {whole : Read ℕ} {left n at : ℕ} (g : Digiting text whole left n at) where
  -- Four digits fit 16 bits.
  pub tenfold_fits : 0 < left → Fits w16 (n * 10)
  tenfold_fits l = let h : n < 1000 = few_digits left n l g.few g.short in omega arith

  -- One digit more,
  module _ {d : ℕ} (is : Some d ≡ digit_of (drop at text)) where
    inside : at < length text
    inside = digit_inside text at is

    here : drop at text ≡ get_or text at 0 ∷ drop (at + 1) text
    here = left_there text at inside

    small : d < 10
    small = digit_under (get_or text at 0) d (drop (at + 1) text) (rw here at is)

    pub digit_fits : 0 < left → Fits w16 (n * 10 + d)
    digit_fits l = let h : n < 1000 = few_digits left n l g.few g.short in omega (arith, small)

    pub digits_turn : {less : ℕ} → left ≡ suc less → Digiting text whole less (n * 10 + d) (at + 1)
    digits_turn {less} one =
        let more : 4 - less ≡ suc (4 - left) = omega (arith, g.few) in
        let whole_is : whole ≡ more_digits (suc less) n (get_or text at 0 ∷ drop (at + 1) text) = rw (one, here) at g.left_over in
        record {
          left_over = whole_is ∙ next_read (get_or text at 0) d (drop (at + 1) text) (rw here at is) less n;
          within = omega (arith, inside);
          few = omega (arith, g.few);
          short = rw more (omega (arith, small, g.short));
        }

  -- or none,
  pub digits_stop : None ≡ digit_of (drop at text) → Told text whole (got n (drop at text)) at
  digits_stop is = record { says = g.left_over ∙ last_read left n (drop at text) is; within = g.within }

  -- or as many as there may be.
  pub digits_end : left ≤ 0 → Told text whole (got n (drop at text)) at
  digits_end l = let none : left ≡ 0 = omega arith in record { says = rw none at g.left_over; within = g.within }

-- ---- fields

-- A number after a comma.
pub field_number : (text : List ℕ) (at : ℕ) {s : Read ℕ} {p : ℕ} → true ≡ starts_with 44 (drop at text)
    → Told text (read_number (drop (at + 1) text)) s p → Told text (read_field (drop at text)) s p
field_number text at is t = record { says = after_there text at 44 read_number (sym is) ∙ t.says; within = t.within }
