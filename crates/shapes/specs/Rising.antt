-- Letters that 5 lets pass.
--     passed-rising      they rise: none is smaller than the one before it
-- Assumes nothing.
use Rattle.std.specs.Prelude.{ℕ, suc, ◌≡◌, refl, Bool, true, false, List, [], ◌∷◌, ltb}
use Rattle.std.proofs.Common.{arith, ltb-false}
use Rattle.outcomes.specs.Replies.{Passes, refuse_if}
use Rattle.outcomes.specs.Judgements.{rising_from, rising_judged}
use Rattle.hypoplactic.proofs.Theory.Pairs.{Rising}

-- The letters after x, from place i on,
rising_on : (i x : ℕ) (ys : List ℕ) → Passes (rising_from i x ys) → Rising x ys
rising_on i x [] p = tt
rising_on i x (y ∷ ys) p = go (ltb y x) refl p (rising_on (suc i) y ys)
  where
    go : (b : Bool) → ltb y x ≡ b → Passes (refuse_if b 5 i (rising_from (suc i) y ys)) → (Passes (rising_from (suc i) y ys) → Rising y ys)
        → Rising x (y ∷ ys)
    go true e p rest = absurd p
    go false e p rest = (ltb-false y x e, rest p)

-- and all letters.
pub passed-rising : (xs : List ℕ) → Passes (rising_judged xs) → Rising 0 xs
unfolding rising_judged
passed-rising [] p = tt
passed-rising (x ∷ xs) p = (omega arith, rising_on 1 x xs p)
