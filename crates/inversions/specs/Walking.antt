-- The scan of a tableau for i+1 directly below i.
--     Walking i xs ms p found          the scan's invariant: found, before place p, or in what is left
--     walk_start, walk_turn, walk_end  before the second cell, after a cell, past the last
--     none_below                       an index whose next letter is no byte
--     stepping, walking                the rulesets of one step and of the scan
-- Assumes nothing.
use Rattle.std.specs.Prelude.{ℕ, suc, ◌+◌, ◌-◌, ◌≤◌, ◌<◌, min, ◌≡◌, refl, ◌⊎◌, List, [], ◌∷◌, Bool, false, ◌&&◌, ◌||◌, eqb, length, get_or, drop}
use Rattle.std.proofs.Common.{sym, ◌∙◌, inl, inr, add-one, arith, Fits, drop_of_length-le, drop-cons, rules, ne_eqb}
use Rattle.std.proofs.Math.Bool.{and-false, or_assoc, or-false}
use Rattle.std.specs.Int.{w8}
use Rattle.quasi_crystal.specs.Moves.{below, from_to}
use Rattle.hypoplactic.specs.Ribbons.{down_after}
use Rattle.hypoplactic.proofs.Theory.Pairs.{le-or-lt}

-- ---- one step

-- The three tests, with the letter after i in hand.
pub steps_next : {j : ℕ} {both r : Bool} (i x y m : ℕ) → j ≡ i + 1 → both ≡ (eqb x i && eqb y j) → r ≡ (both && eqb m 1) → r ≡ (from_to i x y && eqb m 1)
steps_next i x y m e f g = g ∙ rw (f, e, add-one i)

pub ruleset stepping = (steps_next, rules)

-- ---- the scan

-- An i+1 directly below i was found before place p, or stands in what is left.
pub record Walking (i : ℕ) (xs ms : List ℕ) (p : ℕ) (found : Bool) : Type 0 where
  pub low : 1 ≤ p
  pub whole : below i xs ms ≡ (found || down_after (from_to i) (get_or xs (p - 1) 0) (drop p xs) (drop p ms))

no_marks : (f : ℕ → ℕ → Bool) (x : ℕ) (xs : List ℕ) → down_after f x xs [] ≡ false
no_marks f x [] = refl
no_marks f x (y ∷ ys) = refl

-- The first step is the one into the second cell.
pub walk_start : (i : ℕ) (xs ms : List ℕ) → Walking i xs ms 1 false
walk_start i xs ms = record { low = omega arith; whole = go xs ms }
  where
    go : (xs ms : List ℕ) → below i xs ms ≡ down_after (from_to i) (get_or xs (1 - 1) 0) (drop 1 xs) (drop 1 ms)
    go [] ms = refl
    go (x ∷ xs) [] = sym (no_marks (from_to i) x xs)
    go (x ∷ xs) (m ∷ ms) = refl

module _ {i : ℕ} {xs ms : List ℕ} {p size : ℕ} {found : Bool} where
  -- Where a cell follows, what is left begins with the step into it.
  pub walk_turn : {b next : Bool} → next ≡ (found || b) → Walking i xs ms p found
      → b ≡ (from_to i (get_or xs (p - 1) 0) (get_or xs p 0) && eqb (get_or ms p 0) 1) → size ≡ min (length xs) (length ms) → p < size
      → Walking i xs ms (p + 1) next
  walk_turn {b} f s e h l = record {
    low = omega arith;
    whole =
        let k : p < length xs = omega arith in
        let j : p < length ms = omega arith in
        let z : p + 1 - 1 ≡ p = omega arith in
        s.whole
        ∙ rw (drop-cons xs p 0 k, drop-cons ms p 0 j, ← e, f, z, add-one p)
        (sym (or_assoc found b (down_after (from_to i) (get_or xs p 0) (drop (suc p) xs) (drop (suc p) ms))));
  }

  -- Past the last cell nothing is left.
  pub walk_end : Walking i xs ms p found → size ≡ min (length xs) (length ms) → size ≤ p → found ≡ below i xs ms
  walk_end s h l = sym (s.whole ∙ rw (go (le-or-lt (length xs) p) (le-or-lt (length ms) p)) (or-false found))
    where
      go : (length xs ≤ p) ⊎ (p < length xs) → (length ms ≤ p) ⊎ (p < length ms)
          → down_after (from_to i) (get_or xs (p - 1) 0) (drop p xs) (drop p ms) ≡ false
      go (inl k) j = rw (drop_of_length-le xs k)
      go (inr k) (inl j) = rw (drop_of_length-le ms j) (no_marks (from_to i) (get_or xs (p - 1) 0) (drop p xs))
      go (inr k) (inr j) = let z : ⊥ = omega arith in absurd z

-- Where i+1 is no byte, it is no letter, and stands below nothing.
none_after : (i x : ℕ) (xs ms : List ℕ) → 254 < i → ((k : ℕ) → Fits w8 (get_or xs k 0)) → down_after (from_to i) x xs ms ≡ false
none_after i x [] ms l h = refl
none_after i x (y ∷ ys) [] l h = refl
none_after i x (y ∷ ys) (m ∷ ms) l h =
    rw (ne_eqb y (suc i) (λ e. omega (arith, (h 0).fits)), and-false (eqb x i)) (none_after i y ys ms l (λ k. h (suc k)))

pub none_below : (i : ℕ) (xs ms : List ℕ) → 254 < i → ((k : ℕ) → Fits w8 (get_or xs k 0)) → false ≡ below i xs ms
none_below i [] ms l h = refl
none_below i (x ∷ xs) [] l h = refl
none_below i (x ∷ xs) (m ∷ ms) l h = sym (none_after i x xs ms l (λ k. h (suc k)))

pub ruleset walking = (walk_start, walk_turn, walk_end, none_below, rules)
