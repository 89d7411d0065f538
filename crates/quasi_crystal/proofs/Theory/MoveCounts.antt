-- How often letters stand in what a move leaves (document 01, "Moves"): each time one fewer of those that it could change.
--     Counted m b w o    what the answer o says of the letters that the move could change: undefined, there is none; defined, one more than afterwards
--     moved_counted      a move's answer says so
--     Exchanged a b u v  v has one a fewer than u, one b more, and every other letter as often
--     turned_exchanged   so a move takes one of its letters and gives the other
-- Assumes nothing.
use Prim.Native.Nat.{ℕ, suc}
use mathlib.Core.Path.{◌≡◌, refl, sym, ap}
use mathlib.Core.Logic.{◌≢◌}
use mathlib.Core.List.{List, [], ◌∷◌}
use mathlib.Core.Bool.{Bool, true, false}
use mathlib.Core.Option.{Option, none, some}
use native.Mathlib.Omega.{arith}
use lib.Dec.{eqb}
use borrow.Author.Tests.{eq-eqb, ne_eqb}
use Rattle.hypoplactic.specs.Words.{tick, count}
use Rattle.quasi_crystal.specs.Moves.{Side, raising, lowering, Move, given, taken, inverted, moved, remaining}
use Rattle.quasi_crystal.proofs.Theory.Undo.{Lacks, Changed, here, after, Turned, Outcome, moved_outcome}

-- What an answer says of the letters that the move could change.
abbrev pub Counted : Move → Bool → List ℕ → Option (List ℕ) → Type 0
Counted m b w none = remaining m b w ≡ 0
Counted m b w (some v) = remaining m b w ≡ suc (remaining m false v)

lacks_count : (a : ℕ) (w : List ℕ) → Lacks a w → count a w ≡ 0
lacks_count a [] l = refl
lacks_count a (x ∷ w) l = rw (ne_eqb x a l.0) (lacks_count a w l.1)

tick-suc : (t : Bool) (m n : ℕ) → m ≡ suc n → tick t m ≡ suc (tick t n)
tick-suc true m n e = omega arith
tick-suc false m n e = e

-- One i+1 fewer, one i more.
changed_count : {i : ℕ} {u v : List ℕ} → Changed i u v → (count (suc i) u ≡ suc (count (suc i) v)) × (count i v ≡ suc (count i u))
changed_count {i} (here l) = (rw (eq-eqb (suc i) (suc i) refl, ne_eqb i (suc i) (omega arith)), rw (eq-eqb i i refl, ne_eqb (suc i) i (omega arith)))
changed_count {i} (after {x} ne c) = let p = changed_count c in (tick-suc (eqb x (suc i)) _ _ p.0, tick-suc (eqb x i) _ _ p.1)

-- The others as often.
changed_others : {i : ℕ} {u v : List ℕ} → Changed i u v → (a : ℕ) → a ≢ i → a ≢ suc i → count a u ≡ count a v
changed_others {i} (here l) a n m = rw (ne_eqb (suc i) a (λ e. m (sym e)), ne_eqb i a (λ e. n (sym e)))
changed_others {i} (after {x} ne c) a n m = ap (tick (eqb x a)) (changed_others c a n m)

-- One letter has become another.
pub record Exchanged (a b : ℕ) (u v : List ℕ) : Type 0 where
  pub fewer : count a u ≡ suc (count a v)
  pub more : count b v ≡ suc (count b u)
  pub others : (c : ℕ) → c ≢ a → c ≢ b → count c v ≡ count c u

-- A move takes one of its letters and gives the other.
pub turned_exchanged : (s : Side) (i : ℕ) (u v : List ℕ) → Turned s i u v → Exchanged (taken s i) (given s i) u v
turned_exchanged raising i u v c = record {
  fewer = (changed_count c).0;
  more = (changed_count c).1;
  others = λ a n m. sym (changed_others c a m n);
}
turned_exchanged lowering i u v c = record { fewer = (changed_count c).1; more = (changed_count c).0; others = λ a n m. changed_others c a n m }

-- Undefined, nothing is left to change; defined, one letter fewer.
pub moved_counted : (m : Move) (b : Bool) (w : List ℕ) → (b ≡ false → inverted m.index w ≡ false) → Counted m b w (moved b m w)
moved_counted m true w f = refl
moved_counted m false w f = go (moved false m w) (moved_outcome m w (f refl))
  where
    go : (o : Option (List ℕ)) → Outcome m.side m.index w o → Counted m false w o
    go none l = lacks_count (taken m.side m.index) w l
    go (some v) t = (turned_exchanged m.side m.index w v t).fewer
