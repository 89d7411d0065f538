-- What 21 lets through.
--     cells-judged     each of 1 to the number of cells is an entry once, and the rows without the empty ones at the end are a Young tableau
-- Assumes nothing.
use Prim.Native.Nat.{ℕ, suc, ◌+◌, ◌≤◌, ◌<◌}
use mathlib.Core.Path.{◌≡◌, refl}
use mathlib.Core.Bool.{Bool, false, ◌||◌, true≢false}
use mathlib.Core.List.{List, [], ◌∷◌, ◌++◌}
use mathlib.Core.Logic.Iff
use mathlib.Core.Logic.{◌↔◌}
use mathlib.Core.Option.{Option, none, some}
use mathlib.Mathlib.Data.Bool.Basic.{or-eq-false-eq-eq-false-and-eq-false as or_false_iff}
use lib.Dec.{ltb, leb}
use lib.ListN.{length}
use borrow.Author.Tests.{ltb-false, le-ltb, leb-false, lt-leb}
use Rattle.hypoplactic.specs.Words.{occurs}
use Rattle.hypoplactic.proofs.Theory.Once.{once_entries}
use Rattle.hypoplactic.proofs.Theory.Placing.{Once}
use Rattle.outcomes.specs.Replies.{Passes, Said}
use Rattle.outcomes.specs.Judgements.{entries_from, entries_judged, outside}
use Rattle.outcomes.proofs.Theory.Judgements.{entries_judged_lem, exchange}
use Rattle.outcomes.proofs.Theory.Passing.{passes_then}
use Rattle.plactic.specs.Young.{Cell, Over, OverFirst, Rises, Row, Rows, Young, cell, row_entries, young_entries}
use Rattle.plactic.specs.FlatForm.{above, trim}
use Rattle.plactic_outcomes.specs.Judgements.{above_wrong, next_above, order_wrong, row_from, rows_from, young_judged}

-- ---- one cell

-- What is left of the row above lies over the row; none is above the top row.
abbrev Beneath : Option Row → Row → Type 0
Beneath none r = Unit {0}
Beneath (some q) r = Over q r

-- An empty row lies beneath every row.
beneath_nil : (up : Option Row) → Beneath up []
beneath_nil none = tt
beneath_nil (some q) = tt

-- The cell is not smaller in letter than the left one, and larger in entry.
at_least : (y x u s : ℕ) → ((ltb y x || leb u s) ≡ false) ↔ ((x ≤ y) × (s < u))
at_least y x u s = Iff.trans (or_false_iff (ltb y x) (leb u s)) (Iff.and (ltb-false y x, le-ltb y x) (leb-false u s, lt-leb u s))

-- The cell is larger in both than the one above it.
below-cell : (up : Option Row) (y u : ℕ) (cs : Row) → ((above_wrong y u up ≡ false) × Beneath (next_above up) cs) ↔ Beneath up (cell y u ∷ cs)
below-cell none y u cs = (λ h. tt, λ h. (refl, tt))
below-cell (some []) y u cs = (λ h. true≢false h.0, λ h. absurd h)
below-cell (some (cell v w ∷ ds)) y u cs = (
  λ h. let t = (or_false_iff (leb y v) (leb u w)).0 h.0 in (leb-false y v t.0, leb-false u w t.1, h.1),
  λ h. ((or_false_iff (leb y v) (leb u w)).1 (lt-leb y v h.0, lt-leb u w h.1), h.2),
)

-- Both, and what follows: one cell more of the row.
order_cell : (Q : Type 0) (up : Option Row) (x s y u : ℕ) (cs : Row)
    → ((order_wrong up x s y u ≡ false) × (Rises y u cs × Beneath (next_above up) cs × Q)) ↔ (Rises x s (cell y u ∷ cs) × Beneath up (cell y u ∷ cs) × Q)
order_cell Q up x s y u cs = (there, back)
  where
    there : (order_wrong up x s y u ≡ false) × (Rises y u cs × Beneath (next_above up) cs × Q) → Rises x s (cell y u ∷ cs) × Beneath up (cell y u ∷ cs) × Q
    there (o, (h, b, q)) =
        let (left, top) = (or_false_iff (ltb y x || leb u s) (above_wrong y u up)).0 o in
        let (l, m) = (at_least y x u s).0 left in
        ((l, m, h), (below-cell up y u cs).0 (top, b), q)

    back : Rises x s (cell y u ∷ cs) × Beneath up (cell y u ∷ cs) × Q → (order_wrong up x s y u ≡ false) × (Rises y u cs × Beneath (next_above up) cs × Q)
    back ((l, m, h), b, q) =
        let (top, c) = (below-cell up y u cs).1 b in
        ((or_false_iff (ltb y x || leb u s) (above_wrong y u up)).1 ((at_least y x u s).1 (l, m), top), (h, c, q))

-- ---- one row

-- The entries pass as 7 judges them, the row rises and lies beneath the one above, and what is said of the rows below it.
row_from_lem : (L : ℕ) (es : List ℕ) (below : List ℕ → Said) (Q : Type 0)
    → ((met : List ℕ) (k : ℕ) → Passes (below met) ↔ (Passes (entries_from L met k es) × Q))
    → (met : List ℕ) (i k : ℕ) (up : Option Row) (x s : ℕ) (r : Row)
    → Passes (row_from L met i up x s r below) ↔ (Passes (entries_from L met k (row_entries r ++ es)) × (Rises x s r × Beneath up r × Q))
row_from_lem L es below Q rest met i k up x s [] = (λ p. let h = (rest met k).0 p in (h.0, (tt, beneath_nil up, h.1)), λ h. (rest met k).1 (h.0, h.1.2))
row_from_lem L es below Q rest met i k up x s (cell y u ∷ cs) =
    let new : Bool = outside L u || occurs u met in
    Iff.trans
    (passes_then (new || order_wrong up x s y u) 21 i _ (or_false_iff new (order_wrong up x s y u)) (row_from_lem L es below Q rest (u ∷ met) (suc i) (suc k) (next_above up) y u cs))
    (Iff.trans exchange
    (Iff.and (Iff.symm (passes_then new 7 k (entries_from L (u ∷ met) (suc k) (row_entries cs ++ es)) Iff.rfl Iff.rfl)) (order_cell Q up x s y u cs)))

-- ---- all rows

-- Each row rises and lies beneath the one above it.
abbrev Stack : Option Row → Rows → Type 0
Stack up [] = Unit {0}
Stack up (r ∷ rs) = Rises 0 0 r × Beneath up r × Stack (some r) rs

-- What 21 lets through from a row on: entries that 7 lets through, and rows in order.
rows_from_lem : (L : ℕ) (met : List ℕ) (i k : ℕ) (up : Option Row) (rows : Rows)
    → Passes (rows_from L met i up rows) ↔ (Passes (entries_from L met k (young_entries rows)) × Stack up rows)
rows_from_lem L met i k up [] = (λ p. (tt, tt), λ p. tt)
rows_from_lem L met i k up (r ∷ rs) =
    row_from_lem L (young_entries rs) (λ seen. rows_from L seen (i + length {A = Cell} r) (some r) rs) (Stack (some r) rs)
    (λ seen k. rows_from_lem L seen (i + length {A = Cell} r) k (some r) rs) met i k up 0 0 r

-- The first of rows lies beneath what is above it.
abbrev BeneathFirst : Option Row → Rows → Type 0
BeneathFirst none rows = Unit {0}
BeneathFirst (some q) rows = OverFirst q rows

-- A row above a tableau without empty rows.
above-young : (up : Option Row) (r : Row) (rs : Rows)
    → (Rises 0 0 r × Beneath up r × (Young rs × OverFirst r rs)) ↔ (Young (above r rs) × BeneathFirst up (above r rs))
above-young none [] [] = (λ h. (tt, tt), λ h. (tt, tt, (tt, tt)))
above-young (some q) [] [] = (λ h. (tt, tt), λ h. (tt, tt, (tt, tt)))
above-young up [] ([] ∷ qs) = (λ h. absurd h.2.0.0, λ h. absurd h.0.0)
above-young up [] ((c ∷ cs) ∷ qs) = (λ h. absurd h.2.1, λ h. absurd h.0.0)
above-young none (c ∷ cs) rs = (λ h. ((tt, h.0, h.2.1, h.2.0), tt), λ h. (h.0.1, tt, (h.0.3, h.0.2)))
above-young (some q) (c ∷ cs) rs = (λ h. ((tt, h.0, h.2.1, h.2.0), h.1), λ h. (h.0.1, h.1, (h.0.3, h.0.2)))

-- No row lies beneath every row.
beneath_none : (up : Option Row) → BeneathFirst up []
beneath_none none = tt
beneath_none (some q) = tt

-- Rows in order are a tableau, without the empty ones at the end.
stack_young : (up : Option Row) (rows : Rows) → Stack up rows ↔ (Young (trim rows) × BeneathFirst up (trim rows))
stack_young up [] = (λ h. (tt, beneath_none up), λ h. tt)
stack_young up (r ∷ rs) =
    let below = stack_young (some r) rs in
    let whole = above-young up r (trim rs) in
    (λ h. whole.0 (h.0, h.1, below.0 h.2), λ h. let k = whole.1 h in (k.0, k.1, below.1 k.2))

-- 21 refuses no cell.
pub cells-judged : (rows : Rows)
    → Passes (young_judged (length (young_entries rows)) rows) ↔ (Once (length (young_entries rows)) (young_entries rows) × Young (trim rows))
unfolding young_judged entries_judged
cells-judged rows =
    let es : List ℕ = young_entries rows in
    Iff.trans (rows_from_lem (length es) [] 0 0 none rows)
    (Iff.and (Iff.trans (entries_judged_lem (length es) es) (Iff.symm (once_entries es)))
    (λ h. ((stack_young none rows).0 h).0, λ h. (stack_young none rows).1 (h, tt)))
