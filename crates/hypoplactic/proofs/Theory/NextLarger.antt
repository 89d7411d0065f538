-- The next larger letter that occurs: what it is, and that it depends on the letter counts alone.
--     Next a c o       by the counts c, o is the least letter above a that occurs, if there is one
--     next_larger_lem      next_larger is that letter
--     next_is          and nothing else is
--     next_same        words with equal counts have equal next letters
--     next_rising      before rising letters above a it is the first of them
-- Assumes nothing.
use Prim.Native.Nat.{ℕ, ◌≤◌, ◌<◌}
use mathlib.Core.Path.{◌≡◌, refl, sym, ap, subst, fun_ext}
use mathlib.Core.Logic.{◌⊎◌, inl, inr}
use mathlib.Core.List.{List, [], ◌∷◌}
use mathlib.Core.Bool.{Bool, true, false}
use mathlib.Core.Option.{Option, none, some}
use borrow.Author.Tests.{eq-eqb, le-ltb, lt-ltb, ne_eqb}
use native.Mathlib.Omega.{arith}
use lib.Dec.{eqb}
use Rattle.hypoplactic.specs.Words.{count, tick}
use Rattle.hypoplactic.specs.Junctions.{least, next_larger}
use Rattle.hypoplactic.proofs.Theory.Letters.{count_head, count_low}
use Rattle.hypoplactic.proofs.Theory.Pairs.{Rising, le-or-lt}

-- The least letter above a that is counted, if there is one.
abbrev pub Next : ℕ → (ℕ → ℕ) → Option ℕ → Type 0
Next a c none = (b : ℕ) → a < b → c b ≡ 0
Next a c (some q) = (a < q) × (1 ≤ c q) × ((b : ℕ) → a < b → b < q → c b ≡ 0)

-- A letter at most a in front changes nothing.
next_low : (a x : ℕ) (xs : List ℕ) → x ≤ a → (o : Option ℕ) → Next a (λ b. count b xs) o → Next a (λ b. count b (x ∷ xs)) o
next_low a x xs h none n = λ b l. rw (ne_eqb x b (λ e. omega arith)) (n b l)
next_low a x xs h (some q) n =
    let l : a < q = n.0 in
    (n.0, rw (ne_eqb x q (λ e. omega arith)) n.1, λ b k m. rw (ne_eqb x b (λ e. omega arith)) (n.2 b k m))

tick-least : (b : Bool) {n : ℕ} → 1 ≤ n → 1 ≤ tick b n
tick-least true h = omega arith
tick-least false h = h

-- A letter above a in front is the next one, or not below it.
next_high : (a x : ℕ) (xs : List ℕ) → a < x → (o : Option ℕ) → Next a (λ b. count b xs) o → Next a (λ b. count b (x ∷ xs)) (some (least x o))
next_high a x xs h none n = (h, rw (eq-eqb x x refl) (omega arith), λ b k m. rw (ne_eqb x b (λ e. omega arith)) (n b k))
next_high a x xs h (some q) n = go (le-or-lt q x)
  where
    go : (q ≤ x) ⊎ (x < q) → Next a (λ b. count b (x ∷ xs)) (some (least x (some q)))
    go (inl l) =
        let is : least x (some q) ≡ q = rw (le-ltb x q l) in
        subst (λ (p : ℕ). Next a (λ b. count b (x ∷ xs)) (some p)) (sym is)
        (n.0, tick-least (eqb x q) n.1, λ b k m. rw (ne_eqb x b (λ e. omega arith)) (n.2 b k m))
    go (inr l) =
        let is : least x (some q) ≡ x = rw (lt-ltb x q l) in
        subst (λ (p : ℕ). Next a (λ b. count b (x ∷ xs)) (some p)) (sym is)
        (h, rw (eq-eqb x x refl) (omega arith), λ b k m. rw (ne_eqb x b (λ e. omega arith)) (n.2 b k (omega arith)))

-- next_larger is the next larger letter by the counts.
pub next_larger_lem : (a : ℕ) (w : List ℕ) → Next a (λ b. count b w) (next_larger a w)
next_larger_lem a [] = λ b l. refl
next_larger_lem a (x ∷ xs) = go (next_larger_lem a xs) (le-or-lt x a)
  where
    go : Next a (λ b. count b xs) (next_larger a xs) → (x ≤ a) ⊎ (a < x) → Next a (λ b. count b (x ∷ xs)) (next_larger a (x ∷ xs))
    go n (inl h) = rw (le-ltb a x h) (next_low a x xs h (next_larger a xs) n)
    go n (inr h) = rw (lt-ltb a x h) (next_high a x xs h (next_larger a xs) n)

next_unique : (a : ℕ) (c : ℕ → ℕ) (o s : Option ℕ) → Next a c o → Next a c s → o ≡ s
next_unique a c none none n m = refl
next_unique a c none (some q) n m = absurd (omega (arith, n q m.0, m.1))
next_unique a c (some p) none n m = absurd (omega (arith, m p n.0, n.1))
next_unique a c (some p) (some q) n m = go (le-or-lt p q) (le-or-lt q p)
  where
    go : (p ≤ q) ⊎ (q < p) → (q ≤ p) ⊎ (p < q) → some p ≡ some q
    go (inl h) (inl l) = ap some (omega arith)
    go (inr h) l = absurd (omega (arith, n.2 q m.0 h, m.1))
    go (inl h) (inr l) = absurd (omega (arith, m.2 p n.0 l, n.1))

-- And nothing else is.
pub next_is : (a : ℕ) (w : List ℕ) (o : Option ℕ) → Next a (λ b. count b w) o → next_larger a w ≡ o
next_is a w o n = next_unique a (λ b. count b w) (next_larger a w) o (next_larger_lem a w) n

-- The next larger letter depends on the counts alone.
pub next_same : (a : ℕ) (u v : List ℕ) → ((b : ℕ) → count b u ≡ count b v) → next_larger a u ≡ next_larger a v
next_same a u v e = next_is a u (next_larger a v) (subst (λ (c : ℕ → ℕ). Next a c (next_larger a v)) (sym (fun_ext e)) (next_larger_lem a v))

-- The first of rising letters above a.
pub next_rising : (a y : ℕ) (ys : List ℕ) → a < y → Rising y ys → next_larger a (y ∷ ys) ≡ some y
next_rising a y ys h r = next_is a (y ∷ ys) (some y) (h, omega (arith, count_head y ys), λ b k m. count_low b y (y ∷ ys) m (omega arith, r))
