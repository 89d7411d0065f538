-- Tails pulled by one: the first element falls out, each other one moves one back, and the last place keeps its value.
--     pulled xs      xs so pulled
--     pulled_copy    every element but the first copied one back
--     pulling        the ruleset of the pull
-- What a lent list is when a pulled tail comes back is in Closings of closings. Assumes nothing.
use Rattle.std.specs.Prelude.{◌+◌, ◌-◌, ◌≡◌, refl, List, [], ◌∷◌, ◌++◌, length, drop}
use Rattle.std.proofs.Common.{arith, length-drop, rules}
use Rattle.std.proofs.Math.Seq.{take_all}
use Rattle.std.specs.List.{copy_within}

unfoldable pub pulled : {X : Type 0} → List X → List X
pulled xs = drop 1 xs ++ drop (length xs - 1) xs

pub pulled_copy : {X : Type 0} (xs : List X) → copy_within xs 1 (length xs) 0 ≡ pulled xs
unfolding pulled
pulled_copy xs =
    let from : 0 + (length xs - 1) ≡ length xs - 1 = omega arith in
    rw (from, take_all (length xs - 1) (drop 1 xs) (omega (arith, length-drop 1 xs))) refl

-- An empty tail stays as it is.
pub pulled_empty : {X : Type 0} (xs : List X) → length xs ≡ 0 → xs ≡ pulled xs
unfolding pulled
pulled_empty [] e = refl
pulled_empty (x ∷ xs) e = absurd (omega (arith, e))

pub ruleset pulling = (pulled_copy, pulled_empty, rules)
