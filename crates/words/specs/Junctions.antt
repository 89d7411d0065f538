-- The junction set as it is built and tested by shifts and masks, the rows from it, and what the operation over both says.
--     bit_at set a         bit a - 1 of the set
--     bit_junction        of the junction set it is the letter's junction
--     bit_none, bit_above, bit_masked      no bit of the letter 0, none above 64, the others by shift and mask
--     FirstOf w o p       p is the first place of the letter o, or above every place where there is no letter
--     Building            the set of the letters above a, and the first place of the next larger letter that occurs
--     rows_none, rows_some     the rows of the empty word, and of another by the ones of its set
--     opens_junctions     what the operation says, from the check of the word on
--     building            the ruleset of the functions on junctions
-- Assumes nothing.
use Rattle.std.specs.Prelude.{ℕ, zero, suc, ◌+◌, ◌*◌, ◌-◌, ◌^◌, ◌/◌, ◌%◌, ◌≤◌, ◌<◌, ◌≡◌, refl, List, [], ◌∷◌, Bool, true, false, cond, eqb, ltb, length, get_or}
use Rattle.std.proofs.Common.{sym, ap, ◌∙◌, ⊎_elim, eq-or-lt_of_le, add-one, arith, Fits, lt-ltb, le-ltb}
use Rattle.std.proofs.Math.Option.{Option, none, some}
use Rattle.std.proofs.Math.Nat.{div-eq_of_lt}
use Rattle.std.specs.Int.Bits.{bit_or, bit_and}
use Rattle.std.proofs.lemmas.Nat.{and_mask}
use Rattle.std.specs.Int.Count.{ones}
use Rattle.std.specs.Int.{w64}
use mir.Val.{bool_byte}
use Rattle.hypoplactic.specs.Words.{Accepted, Within, count, occurs, tick}
use Rattle.hypoplactic.specs.Places.{first_place, last_place, or_place}
use Rattle.hypoplactic.specs.Junctions.{next_larger, left_of, junction, number, junction_set, rows_of}
use Rattle.outcomes.specs.Replies.{Said, gives, first, passed, or_else}
use Rattle.outcomes.specs.Judgements.{word_judgements}
use Rattle.outcomes.specs.WordOperations.{junction_says}
use Rattle.hypoplactic.proofs.Theory.Bits.{number-below}
use Rattle.hypoplactic.proofs.Theory.Limits.{accepted_within, count-outside, occurs_none}
use Rattle.hypoplactic.proofs.Theory.NextLarger.{Next, next_larger_lem, next_is}
use Rattle.hypoplactic.proofs.Theory.Occurrences.{occurs_count}
use Rattle.hypoplactic.proofs.Theory.Places.{places_absent, first_bounds, last_bound, before-places}
use Rattle.outcomes.proofs.Theory.Passing.{first_else}
use Rattle.acceptance.specs.Passed.{judging}
use Rattle.words.specs.Bits.{number_digit, number-none, number_more, under_power, or_bit, ones_fit, ones_more_fit}
use Rattle.words.specs.Tables.{Placed, tabling, or_place_first}

-- ---- a bit of the set

-- Bit a - 1; there is none of the letter 0.
abbrev pub bit_at : ℕ → ℕ → Bool
bit_at set zero = false
bit_at set (suc a) = eqb (set / 2 ^ a % 2) 1

tick_one : (b : Bool) → eqb (tick b 0) 1 ≡ b
tick_one true = refl
tick_one false = refl

-- In the junction set it is the letter's junction.
pub bit_junction : (w : List ℕ) (a : ℕ) → 1 ≤ a → a ≤ 64 → bit_at (junction_set w) a ≡ junction w a
unfolding junction_set
bit_junction w zero l h = let z : ⊥ = omega arith in absurd z
bit_junction w (suc a) l h = rw (number_digit (junction w) 64 1 a (omega arith)) (tick_one (junction w (1 + a)) ∙ ap (junction w) (omega arith))

-- There is no bit of the letter 0,
pub bit_none : (set a : ℕ) → a < 1 → false ≡ bit_at set a
bit_none set zero h = refl
bit_none set (suc a) h = let z : ⊥ = omega arith in absurd z

-- none above 64 in a set of 64 bits,
pub bit_above : (set a : ℕ) → Fits w64 set → 64 < a → false ≡ bit_at set a
bit_above set zero f h = refl
bit_above set (suc a) f h =
    let low : set < 2 ^ a = under_power set 64 a f.fits (omega arith) in
    rw (div-eq_of_lt low)

-- and every other is had by shift and mask.
pub bit_masked : (set a : ℕ) → 1 ≤ a → eqb (bit_and (set / 2 ^ (a - 1)) 1) 1 ≡ bit_at set a
bit_masked set zero h = let z : ⊥ = omega arith in absurd z
bit_masked set (suc a) h =
    let e : suc a - 1 ≡ a = omega arith in
    rw (e, and_mask (set / 2 ^ a) 1)

-- ---- one letter more

-- The first place of the letter, if there is one, else a number above every place.
abbrev pub FirstOf : List ℕ → Option ℕ → ℕ → Type 0
FirstOf w none p = length w < p
FirstOf w (some q) p = p ≡ first_place q w

-- Where p is the first place of the next larger letter, the junction of a is that p lies below the last place of a.
junction-places : (w : List ℕ) (a p : ℕ) → FirstOf w (next_larger a w) p → junction w a ≡ ltb p (last_place a w)
junction-places w a p h = go (next_larger a w) (next_larger_lem a w) h
  where
    go : (o : Option ℕ) → Next a (λ b. count b w) o → FirstOf w o p → left_of w a o ≡ ltb p (last_place a w)
    go none n h = sym (le-ltb p (last_place a w) (omega (arith, last_bound a w)))
    go (some q) n h = rw h (before-places a q w (occurs_count q w ∙ lt-ltb 0 (count q w) n.1))

-- The next larger letter of b is the letter after b if that occurs, else the next larger letter of it.
pub next_step : (b : ℕ) (w : List ℕ) → next_larger b w ≡ cond (occurs (suc b) w) (some (suc b)) (next_larger (suc b) w)
next_step b w = go (count (suc b) w) refl
  where
    on : (o : Option ℕ) → count (suc b) w ≡ 0 → Next (suc b) (λ x. count x w) o → Next b (λ x. count x w) o
    on none e n = λ x l. ⊎_elim (λ q. rw (← q) e) (λ k. n x k) (eq-or-lt_of_le l)
    on (some q) e n = (omega (arith, n.0), n.1, λ x l m. ⊎_elim (λ q. rw (← q) e) (λ k. n.2 x k m) (eq-or-lt_of_le l))

    go : (c : ℕ) → count (suc b) w ≡ c → next_larger b w ≡ cond (occurs (suc b) w) (some (suc b)) (next_larger (suc b) w)
    go zero e = rw (occurs_none (suc b) w e) (next_is b w (next_larger (suc b) w) (on (next_larger (suc b) w) e (next_larger_lem (suc b) w)))
    go (suc c) e =
        rw (occurs_count, e, lt-ltb 0 (suc c) (omega arith))
        (next_is b w (some (suc b)) (omega arith, omega arith, λ x l m. let z : ⊥ = omega arith in absurd z))

-- So the first place of the next larger letter goes on from letter to letter.
first_on : (w : List ℕ) (b p : ℕ) → FirstOf w (next_larger (suc b) w) p → FirstOf w (next_larger b w) (or_place (first_place (suc b) w) p)
first_on w b p h = rw next_step (go (occurs (suc b) w) refl)
  where
    go : (t : Bool) → occurs (suc b) w ≡ t → FirstOf w (cond t (some (suc b)) (next_larger (suc b) w)) (or_place (first_place (suc b) w) p)
    go true e = sym (or_place_first (first_place (suc b) w) p (λ z. omega (arith, (first_bounds (suc b) w e).0)))
    go false e = rw (places_absent 1 (suc b) w e) h

-- ---- the set, from the largest letter down

-- The letters above a are done: their bits are the set, and the first place of the next larger letter that occurs is known.
pub record Building (w : List ℕ) (a set next : ℕ) : Type 0 where
  pub reached : a ≤ 64
  pub built : set ≡ number (junction w) (64 - a) (suc a)
  pub ahead : FirstOf w (next_larger a w) next

-- No letter above the rank occurs.
none_above : (n a : ℕ) (w : List ℕ) → Within n w → n ≤ a → next_larger a w ≡ none
none_above n a w h l = next_is a w none (λ b k. count-outside b w h (λ i. omega arith))

-- At the rank none is done, and 65535 is above every place.
pub building_start : (n : ℕ) (w : List ℕ) → Accepted n w → Building w n 0 65535
building_start n w h = record {
  reached = h.rank_high;
  built = sym (number-none (junction w) (64 - n) (suc n) (λ a l. rw (none_above n a w h.letters (omega arith))));
  ahead = rw (none_above n n w h.letters (omega arith)) (omega (arith, h.short));
}

-- A bit of code is that of its test.
byte : (b : Bool) → bool_byte b ≡ tick b 0
byte true = refl
byte false = refl

-- One letter down: its bit by its last place, and its first place unless it does not occur.
pub building_turn : (w : List ℕ) (a set next b n : ℕ) (first last : List ℕ) → Placed w first last → Building w a set next → 0 < a
    → b ≡ bool_byte (ltb next (get_or last (a - 1) 0)) → n ≡ or_place (get_or first (a - 1) 0) next → Building w (a - 1) (bit_or (set * 2 ^ 1 % 2 ^ 64) b) n
building_turn w zero set next b n first last p t h e o = let z : ⊥ = omega arith in absurd z
building_turn w (suc a) set next b n first last p t h e o = rw down record {
  reached = omega (arith, t.reached);
  built =
      rw (bit, t.built, or_bit (number (junction w) (64 - suc a) (suc (suc a))) (junction w (suc a)) below)
      (number_more (junction w) (64 - a) (64 - suc a) (suc a) (omega (arith, t.reached)));
  ahead = rw place (first_on w a next t.ahead);
}
  where
    down : suc a - 1 ≡ a
    down = omega arith

    under : a < 64
    under = omega (arith, t.reached)

    bit : b ≡ tick (junction w (suc a)) 0
    bit = rw (junction-places w (suc a) next t.ahead, ← (p.lasts.entry a under), ← down) (e ∙ byte (ltb next (get_or last (suc a - 1) 0)))

    place : n ≡ or_place (first_place (suc a) w) next
    place = rw (← (p.firsts.entry a under), ← down) o

    below : number (junction w) (64 - suc a) (suc (suc a)) < 2 ^ 63
    below = under_power _ (64 - suc a) 63 (number-below (junction w) (64 - suc a) (suc (suc a))) (omega arith)

-- All letters are done.
pub building_end : (w : List ℕ) (a set next : ℕ) → Building w a set next → a ≤ 0 → set ≡ junction_set w
unfolding junction_set
building_end w a set next t h = let e : a ≡ 0 = omega arith in rw e at t.built

-- ---- rows

-- The empty word has no row,
pub rows_none : (w : List ℕ) → length w ≡ 0 → 0 ≡ rows_of w
unfolding rows_of
rows_none [] h = refl
rows_none (x ∷ w) h = let z : ⊥ = omega arith in absurd z

-- every other one more than the ones of its set.
pub rows_some : (w : List ℕ) (set : ℕ) → (length w ≡ 0 → ⊥) → set ≡ junction_set w → ones set + 1 ≡ rows_of w
unfolding rows_of
rows_some [] set h e = absurd (h refl)
rows_some (x ∷ w) set h e = rw (add-one, e)

-- ---- the operation

-- What the operation says, from the check of the word on.
pub opens_junctions : {r : Said} (n : ℕ) (w : List ℕ)
    → r ≡ or_else (first (word_judgements n w) passed) (gives (junction_set w ∷ rows_of w ∷ [])) → r ≡ junction_says n w
unfolding junction_says
opens_junctions n w h = h ∙ first_else (word_judgements n w) _

pub ruleset building = (
  bit_none,
  bit_above,
  bit_masked,
  building_start,
  building_turn,
  building_end,
  rows_none,
  rows_some,
  ones_fit,
  ones_more_fit,
  accepted_within,
  opens_junctions,
  judging,
  tabling,
)
