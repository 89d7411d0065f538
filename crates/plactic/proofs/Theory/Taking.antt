-- What a row does with a letter, by cases instead of by computation.
--     takes_row       a row takes a letter as `replaced` and `row_with` say
--     takes_only      and in no other way
--     takes_larger    the letter that it hands down is larger than the one it takes
-- Assumes nothing.
use Prim.Native.Nat.{ℕ, ◌<◌}
use mathlib.Core.Path.{◌≡◌, refl, ap}
use mathlib.Core.List.{[], ◌∷◌}
use mathlib.Core.Bool.{Bool, true, false, cond}
use mathlib.Core.Option.{Option, some}
use lib.Dec.{ltb}
use borrow.Author.Tests.{ltb-true, ltb-false, lt-ltb, le-ltb}
use Rattle.plactic.specs.Young.{Row, cell}
use Rattle.plactic.specs.Schensted.{replaced, row_with}
use Rattle.plactic.specs.ByRows.{Takes, ends, passes, replaces}

pub takes_row : (e a : ℕ) (r : Row) → Takes e a r (replaced a r) (row_with e a r)
takes_row e a [] = ends
takes_row e a (cell x s ∷ cs) = go (ltb a x) refl (takes_row e a cs)
  where
    go : (b : Bool) → ltb a x ≡ b → Takes e a cs (replaced a cs) (row_with e a cs)
        → Takes e a (cell x s ∷ cs) (cond b (some x) (replaced a cs)) (cond b (cell a s ∷ cs) (cell x s ∷ row_with e a cs))
    go true q rest = replaces (ltb-true a x q)
    go false q rest = passes (ltb-false a x q) rest

pub takes_only : {e a : ℕ} {r r' : Row} {z : Option ℕ} → Takes e a r z r' → (replaced a r ≡ z) × (row_with e a r ≡ r')
takes_only ends = (refl, refl)
takes_only {a = a} (replaces {x = x} l) = (rw (lt-ltb a x l), rw (lt-ltb a x l))
takes_only {a = a} (passes {x = x} {s = s} l t) =
    let (z, r) = takes_only t in
    (rw (le-ltb a x l) z, rw (le-ltb a x l) (ap (λ (ds : Row). cell x s ∷ ds) r))

pub takes_larger : {e a z : ℕ} {r r' : Row} → Takes e a r (some z) r' → a < z
takes_larger (replaces l) = l
takes_larger (passes l t) = takes_larger t
