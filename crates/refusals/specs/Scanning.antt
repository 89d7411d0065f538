-- Checks that scan places for the first fault. Each of 4 to 8 is one scan (outcomes, FirstPlaces), so one invariant and four laws serve them all.
--     scan_from k fault i n         refused with k at the first of the n places from i on whose fault stands; passed where none does
--     Scanning                     the loop's invariant: what is left of the scan gives the whole
--     start, turn, found, none     where it begins, after a place without fault, at a fault, past the last place
-- Assumes nothing.
use Prim.Native.Nat.{ℕ, zero, suc, ◌+◌, ◌-◌, ◌<◌, ◌≤◌}
use Rattle.std.specs.Prelude.{◌≡◌, refl, Bool, true, false, []}
use Rattle.std.proofs.Math.Path.{sym}
use Rattle.std.proofs.Common.{ap, ap₂, ◌∙◌, add-one}
use native.Mathlib.Omega.{arith}
use Rattle.outcomes.specs.Replies.{Said, gives, refused, passed, refuse_if}
use Rattle.outcomes.specs.FirstPlaces.{scan}

unfoldable pub scan_from : ℕ → (ℕ → Bool) → ℕ → ℕ → Said
scan_from k fault i zero = passed
scan_from k fault i (suc n) = refuse_if (fault i) k i (scan_from k fault (suc i) n)

-- A scan whose faults are told from its first place on.
pub scan_from_lem : (k i n : ℕ) (f fault : ℕ → Bool) → ((q : ℕ) → q < n → f q ≡ fault (i + q)) → scan k i n f ≡ scan_from k fault i n
unfolding scan_from
scan_from_lem k i zero f fault h = refl
scan_from_lem k i (suc n) f fault h =
    ap₂ (λ (b : Bool) (s : Said). refuse_if b k i s) (h 0 (omega arith) ∙ ap fault (omega arith))
    (scan_from_lem k (suc i) n (λ q. f (suc q)) fault (λ q l. h (suc q) (omega arith) ∙ ap fault (omega arith)))

pub record Scanning (k : ℕ) (fault : ℕ → Bool) (size : ℕ) (whole : Said) (i : ℕ) : Type 0 where
  pub left : whole ≡ scan_from k fault i (size - i)

-- Where it begins.
pub start : {k : ℕ} {fault : ℕ → Bool} {size : ℕ} {whole : Said} {i : ℕ} (n : ℕ) → whole ≡ scan_from k fault i n → size - i ≡ n
    → Scanning k fault size whole i
start n e q = record { left = rw q e }

module _ {k : ℕ} {fault : ℕ → Bool} {size : ℕ} {whole : Said} {i : ℕ} (s : Scanning k fault size whole i) where
  -- What is left, from its first place.
  one_left : (b c : Bool) → i < size → c ≡ fault i → c ≡ b → whole ≡ refuse_if b k i (scan_from k fault (suc i) (size - (i + 1)))
  unfolding scan_from
  one_left b c l is e =
      let more : size - i ≡ suc (size - (i + 1)) = omega arith in
      let here : fault i ≡ b = sym is ∙ e in
      rw (more, here) at s.left

  -- A place without fault.
  pub turn : {b : Bool} → i < size → b ≡ fault i → b ≡ false → Scanning k fault size whole (i + 1)
  turn {b} l is e = record { left = one_left false b l is e ∙ rw (add-one i) }

  -- The first fault.
  pub found : {b : Bool} → i < size → b ≡ fault i → b ≡ true → refused k i ≡ whole
  found {b} l is e = sym (one_left true b l is e)

  -- No fault.
  pub none : size ≤ i → gives [] ≡ whole
  unfolding scan_from
  none l = let over : size - i ≡ 0 = omega arith in sym (rw over at s.left)
