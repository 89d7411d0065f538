-- Insertion keeps Young tableaux: the rows stay rows, each stays over the next, and the new entry is the largest.
--     Before t r, AllBefore t rows     the entries of a row, and of all rows, are smaller than t
--     before_more, all_before_more     so they are smaller than every larger number
--     takes_filled, takes_rises, takes_before     what a row is after it has taken a letter
--     takes_over                       it lies over what it lay over
--     both-over                        and where the row below takes what it hands down, over that row then
--     insert-young                     after an insertion the rows are a Young tableau again, and its entries go up to the new one
-- Assumes nothing.
use Prim.Native.Nat.{ℕ, suc, ◌≤◌, ◌<◌}
use native.Mathlib.Omega.{arith}
use mathlib.Core.List.{[], ◌∷◌}
use mathlib.Core.Option.{Option, none, some}
use Rattle.plactic.specs.Young.{Filled, Over, OverFirst, Rises, Row, Rows, Young, cell}
use Rattle.plactic.specs.Schensted.{insert, replaced, row_with}
use Rattle.plactic.specs.ByRows.{Takes, ends, passes, replaces}
use Rattle.plactic.proofs.Theory.Taking.{takes_larger, takes_row}

-- ---- entries before a time

-- The entries of the row are smaller than t.
abbrev pub Before : ℕ → Row → Type 0
Before t [] = Unit {0}
Before t (cell x s ∷ cs) = (s < t) × Before t cs

-- The entries of all rows are smaller than t.
abbrev pub AllBefore : ℕ → Rows → Type 0
AllBefore t [] = Unit {0}
AllBefore t (r ∷ rs) = Before t r × AllBefore t rs

-- Smaller than one number is smaller than a larger one,
pub before_more : (t u : ℕ) (r : Row) → t ≤ u → Before t r → Before u r
before_more t u [] l h = tt
before_more t u (cell x s ∷ cs) l h = (omega (arith, h.0), before_more t u cs l h.1)

-- in all rows too.
pub all_before_more : (t u : ℕ) (rows : Rows) → t ≤ u → AllBefore t rows → AllBefore u rows
all_before_more t u [] l h = tt
all_before_more t u (r ∷ rs) l h = (before_more t u r l h.0, all_before_more t u rs l h.1)

-- ---- one row

-- A row that has taken a letter is not empty.
pub takes_filled : {t a : ℕ} {r r' : Row} {z : Option ℕ} → Takes t a r z r' → Filled r'
takes_filled ends = tt
takes_filled (replaces l) = tt
takes_filled (passes l k) = tt

-- A row that rises from a letter on rises from a smaller one on.
rises-lower : (x y s : ℕ) (r : Row) → x ≤ y → Rises y s r → Rises x s r
rises-lower x y s [] l h = tt
rises-lower x y s (cell z u ∷ cs) l h = (omega (arith, h.0), h.1, h.2)

-- It rises as before,
pub takes_rises : {t a : ℕ} {r r' : Row} {z : Option ℕ} (x s : ℕ) → Takes t a r z r' → x ≤ a → s < t → Before t r → Rises x s r → Rises x s r'
takes_rises x s ends l e b h = (l, e, tt)
takes_rises {a = a} x s (replaces {x = y} {s = u} {cs = cs} k) l e b h = (l, h.1, rises-lower a y u cs (omega arith) h.2)
takes_rises x s (passes {x = y} {s = u} k tk) l e b h = (h.0, h.1, takes_rises y u tk k b.0 b.1 h.2)

-- and its entries are at most the new one.
pub takes_before : {t a : ℕ} {r r' : Row} {z : Option ℕ} → Takes t a r z r' → Before t r → Before (suc t) r'
takes_before ends b = (omega arith, tt)
takes_before {t = t} (replaces {cs = cs} k) b = (omega (arith, b.0), before_more t (suc t) cs (omega arith) b.1)
takes_before (passes k tk) b = (omega (arith, b.0), takes_before tk b.1)

-- ---- two rows

-- It lies over every row that it lay over.
pub takes_over : {t a : ℕ} {r r' : Row} {z : Option ℕ} (q : Row) → Takes t a r z r' → Over r q → Over r' q
takes_over [] tk h = tt
takes_over (d ∷ ds) ends h = absurd h
takes_over (cell y u ∷ ds) (replaces l) h = (omega (arith, h.0), h.1, h.2)
takes_over (cell y u ∷ ds) (passes l tk) h = (h.0, h.1, takes_over ds tk h.2)

-- It lies over the row below, which takes the letter that it hands down: that letter comes to a place no further to the right.
pub both-over : {t a z : ℕ} {r r' q q' : Row} {y : Option ℕ} → Takes t a r (some z) r' → Takes t z q y q' → Before t r → Over r q → Over r' q'
both-over (replaces l) ends b h = (l, b.0, tt)
both-over (replaces l) (replaces k) b h = (l, h.1, h.2)
both-over (replaces l) (passes k tk) b h = let c : ⊥ = omega (arith, h.0) in absurd c
both-over (passes l tk) ends b h = (omega (arith, takes_larger tk), b.0, tt)
both-over (passes l tk) (replaces {cs = ds} k) b h = (omega (arith, takes_larger tk), h.1, takes_over ds tk h.2)
both-over (passes l tk) (passes k tq) b h = (h.0, h.1, both-over tk tq b.1 h.2)

-- ---- all rows

-- The top row lies over the first of the rows below after they have taken what it hands down.
over_first : {t a : ℕ} {r r' : Row} {z : Option ℕ} (rs : Rows) → Takes t a r z r' → Before t r → OverFirst r rs → OverFirst r' (insert t rs z)
over_first {z = none} [] tk b h = tt
over_first {z = some z} [] tk b h = both-over tk ends b tt
over_first {z = none} (q ∷ qs) tk b h = takes_over q tk h
over_first {t = t} {z = some z} (q ∷ qs) tk b h = both-over tk (takes_row t z q) b h

-- The rows after an insertion; the time of it is larger than every entry.
pub insert-young : (t : ℕ) (rows : Rows) (o : Option ℕ) → 0 < t → AllBefore t rows → Young rows
    → Young (insert t rows o) × AllBefore (suc t) (insert t rows o)
insert-young t [] none l b h = (tt, tt)
insert-young t [] (some a) l b h = ((tt, (omega arith, l, tt), tt, tt), ((omega arith, tt), tt))
insert-young t (r ∷ rs) none l b h = (h, all_before_more t (suc t) (r ∷ rs) (omega arith) b)
insert-young t (r ∷ rs) (some a) l b h =
    let tk : Takes t a r (replaced a r) (row_with t a r) = takes_row t a r in
    let (below, early) = insert-young t rs (replaced a r) l b.1 h.3 in
    ((takes_filled tk, takes_rises 0 0 tk (omega arith) l b.0 h.1, over_first rs tk b.0 h.2, below), (takes_before tk b.0, early))
