-- The largest entry of a tableau came last: the tableau is what insertion of one letter, at the time of that entry, makes of a smaller one.
--     Former t rows     the rows before the t-th letter came, and that letter
--     largest           a tableau with entries up to t, of which t is one, has them
-- Assumes nothing.
use Prim.Native.Nat.{ℕ, suc, ◌≤◌, ◌<◌}
use native.Mathlib.Omega.{arith}
use native.Mathlib.Decide.{dec_le}
use mathlib.Core.Path.{◌≡◌, refl, sym, ap, subst}
use mathlib.Core.Bool.{Bool, true, false}
use mathlib.Core.List.{[], ◌∷◌}
use mathlib.Core.Logic.{dite}
use mathlib.Core.Option.{Option, none, some}
use lib.Dec.{eqb}
use borrow.Author.Tests.{ne_eqb, eqb-true}
use Rattle.hypoplactic.specs.Words.{count, tick}
use Rattle.hypoplactic.proofs.Theory.Occurrences.{count_append}
use Rattle.plactic.specs.Young.{Filled, Over, OverFirst, Rises, Row, Rows, Young, cell, row_entries, young_entries}
use Rattle.plactic.specs.Schensted.{insert, row_with}
use Rattle.plactic.specs.ByRows.{Takes, ends, passes, replaces}
use Rattle.plactic.proofs.Theory.Taking.{takes_only, takes_row}
use Rattle.plactic.proofs.Theory.Inserting.{AllBefore, Before}

-- ---- one row

-- What the row r was before its letter that came as the t-th, for which it handed z down: a row that rises after a cell with x and s and lies over q.
record Took (t : ℕ) (z : Option ℕ) (x s : ℕ) (r q : Row) : Type 0 where
  letter : ℕ
  row : Row
  takes : Takes t letter row z r
  low : x ≤ letter
  rises : Rises x s row
  over : Over row q

-- A row without its first cell.
abbrev rest : Row → Row
rest [] = []
rest (c ∷ cs) = cs

-- One cell more in front, which the letter passes.
took_past : {t : ℕ} {z : Option ℕ} (x s y u : ℕ) (cs q : Row) → x ≤ y → s < u → ((ds : Row) → Over ds (rest q) → Over (cell y u ∷ ds) q)
    → Took t z y u cs (rest q) → Took t z x s (cell y u ∷ cs) q
took_past x s y u cs q l m o k = record {
  letter = k.letter;
  row = cell y u ∷ k.row;
  takes = passes k.low k.takes;
  low = omega (arith, k.low);
  rises = (l, m, k.rises);
  over = o k.row k.over;
}

-- A cell that lies over the first of q, with any row that lies over the rest.
over_first : (y u : ℕ) (cs q : Row) → Over (cell y u ∷ cs) q → (ds : Row) → Over ds (rest q) → Over (cell y u ∷ ds) q
over_first y u cs [] o ds p = tt
over_first y u cs (cell w v ∷ q) o ds p = (o.0, o.1, p)

-- Without the first cells a row over q lies over the rest of it,
over_rest : (y u : ℕ) (cs q : Row) → Over (cell y u ∷ cs) q → Over cs (rest q)
over_rest y u cs [] o = tt
over_rest y u cs (cell w v ∷ ds) o = o.2

-- and the entries of the rest are bounded as before.
before_rest : (t : ℕ) (q : Row) → Before t q → Before t (rest q)
before_rest t [] b = tt
before_rest t (cell w v ∷ ds) b = b.1

-- The last cell has the entry t: nothing lies below it.
took_end : (t x s y u : ℕ) (q : Row) → u ≡ t → x ≤ y → Before (suc t) q → Over (cell y u ∷ []) q → Took t none x s (cell y u ∷ []) q
took_end t x s y u [] e l b o = record { letter = y; row = []; takes = rw e ends; low = l; rises = tt; over = tt }
took_end t x s y u (cell w v ∷ ds) e l b o = let p : u < v = o.1 in let q : v < suc t = b.0 in let z : ⊥ = omega arith in absurd z

-- A row in which the largest entry t stands.
took_last : (t x s : ℕ) (r q : Row) → Rises x s r → Before (suc t) r → Before (suc t) q → 0 < count t (row_entries r) → Over r q
    → Took t none x s r q
took_last t x s [] q h a b c o = let z : ⊥ = omega arith in absurd z
took_last t x s (cell y u ∷ []) q h a b c o = took_end t x s y u q (single (eqb u t) refl c) h.0 b o
  where
    single : (b : Bool) → eqb u t ≡ b → 0 < tick b 0 → u ≡ t
    single true e c = eqb-true u t e
    single false e c = let z : ⊥ = omega arith in absurd z
took_last t x s (cell y u ∷ cell w v ∷ cs) q h a b c o =
    let p : u < v = h.2.1 in
    let l : v < suc t = a.1.0 in
    let e : eqb u t ≡ false = ne_eqb u t (omega arith) in
    took_past x s y u (cell w v ∷ cs) q h.0 h.1 (over_first y u (cell w v ∷ cs) q o)
    (took_last t y u (cell w v ∷ cs) (rest q) h.2 a.1 (before_rest (suc t) q b) (rw e at c) (over_rest y u (cell w v ∷ cs) q o))

-- At a row's first cell, after which no letter is smaller than z.
took_here : (t z x s y u : ℕ) (cs q : Row) (x' s' : ℕ) → y < z → z < x' → Rises x s (cell y u ∷ cs) → Rises z u cs → Rises x' s' q → Over (cell y u ∷ cs) q
    → Took t (some z) x s (cell y u ∷ cs) q
took_here t z x s y u cs q x' s' l m h k g o =
    let low : x ≤ y = h.0 in
    record { letter = y; row = cell z u ∷ cs; takes = replaces l; low = low; rises = (omega arith, h.1, k); over = raised q g o }
  where
    raised : (q : Row) → Rises x' s' q → Over (cell y u ∷ cs) q → Over (cell z u ∷ cs) q
    raised [] g o = tt
    raised (cell w v ∷ ds) g o = let p : x' ≤ w = g.0 in (omega arith, o.1, o.2)

-- At its rightmost letter smaller than z; the letters of q are larger.
took_for : (t z x s y u : ℕ) (cs q : Row) (x' s' : ℕ) → y < z → z < x' → Rises x s (cell y u ∷ cs) → Rises x' s' q → Over (cell y u ∷ cs) q
    → Took t (some z) x s (cell y u ∷ cs) q
took_for t z x s y u [] q x' s' l m h g o = took_here t z x s y u [] q x' s' l m h tt g o
took_for t z x s y u (cell w v ∷ cs) [] x' s' l m h g o = dite (dec_le z w)
    (λ (high : z ≤ w). took_here t z x s y u (cell w v ∷ cs) [] x' s' l m h (high, h.2.1, h.2.2) g o)
    (λ (less : ¬ (z ≤ w)). took_past x s y u (cell w v ∷ cs) [] h.0 h.1 (λ d p. tt) (took_for t z y u w v cs [] x' s' (omega arith) m h.2 g tt))
took_for t z x s y u (cell w v ∷ cs) (cell w' v' ∷ ds) x' s' l m h g o = dite (dec_le z w)
    (λ (high : z ≤ w). took_here t z x s y u (cell w v ∷ cs) (cell w' v' ∷ ds) x' s' l m h (high, h.2.1, h.2.2) g o)
    (λ (less : ¬ (z ≤ w)).
    let p : x' ≤ w' = g.0 in
    took_past x s y u (cell w v ∷ cs) (cell w' v' ∷ ds) h.0 h.1 (λ d p. (o.0, o.1, p)) (took_for t z y u w v cs ds w' v' (omega arith) (omega arith) h.2 g.2 o.2))

-- A row over one that took z.
took_over : (x s x' s' : ℕ) {t z : ℕ} {q q' : Row} {o : Option ℕ} (r : Row) → Takes t z q o q' → Rises x s r → Rises x' s' q → Over r q' → Took t (some z) x s r q
took_over x s x' s' [] ends h g o = absurd o
took_over x s x' s' {t} {z} (cell y u ∷ cs) ends h g o = took_for t z x s y u cs [] (suc z) 0 o.0 (omega arith) h tt tt
took_over x s x' s' [] (replaces l) h g o = absurd o
took_over x s x' s' {t} {z} (cell y u ∷ cs) (replaces {x = w} {s = v} {cs = ds} l) h g o =
    let p : y < z = o.0 in
    took_for t z x s y u cs (cell w v ∷ ds) w s' p l h (omega arith, g.1, g.2) (omega arith, o.1, o.2)
took_over x s x' s' [] (passes l k) h g o = absurd o
took_over x s x' s' (cell y u ∷ cs) (passes {x = w} {s = v} {cs = ds} l k) h g o =
    took_past x s y u cs (cell w v ∷ ds) h.0 h.1 (λ d p. (o.0, o.1, p)) (took_over y u w v cs k h.2 g.2 o.2)

-- ---- all rows

-- What the rows were before the t-th letter came.
pub record Former (t : ℕ) (rows : Rows) : Type 0 where
  pub letter : ℕ
  pub before : Rows
  pub young : Young before
  pub inserted : insert t before (some letter) ≡ rows

-- The top row, or the empty one.
abbrev top_row : Rows → Row
top_row [] = []
top_row (r ∷ rs) = r

-- A row lies over the first of those below it where it lies over their top row,
over_top : (r : Row) (rs : Rows) → OverFirst r rs → Over r (top_row rs)
over_top r [] o = tt
over_top r (q ∷ qs) o = o

-- and the other way,
top_over : (r : Row) (rs : Rows) → Over r (top_row rs) → OverFirst r rs
top_over r [] o = tt
top_over r (q ∷ qs) o = o

-- which rises,
top_rises : (rs : Rows) → Young rs → Rises 0 0 (top_row rs)
top_rises [] y = tt
top_rises (r ∷ rs) y = y.1

-- and becomes the row that a letter makes of it.
top_inserted : (t z : ℕ) (r : Row) (rs : Rows) → OverFirst r (insert t rs (some z)) → Over r (row_with t z (top_row rs))
top_inserted t z r [] o = o
top_inserted t z r (q ∷ qs) o = o

-- The bound of all entries, of the top row.
before_top : (t : ℕ) (rs : Rows) → AllBefore t rs → Before t (top_row rs)
before_top t [] b = tt
before_top t (r ∷ rs) b = b.0

-- A row in which a letter was replaced was not empty.
replaced_filled : {t a z : ℕ} {r r' : Row} → Takes t a r (some z) r' → Filled r
replaced_filled (replaces l) = tt
replaced_filled (passes l k) = tt

-- Where no letter comes the rows stay.
none_inserted : (t : ℕ) (rows : Rows) → insert t rows none ≡ rows
none_inserted t [] = refl
none_inserted t (r ∷ rs) = refl

-- The top row has the largest entry.
former_top : (t : ℕ) (r : Row) (rs : Rows) → Took t none 0 0 r (top_row rs) → Young rs → Former t (r ∷ rs)
former_top t r rs k y = go k.row k.takes k.rises rs k.over y
  where
    go : (d : Row) → Takes t k.letter d none r → Rises 0 0 d → (rs : Rows) → Over d (top_row rs) → Young rs → Former t (r ∷ rs)
    go [] p h [] o y = record { letter = k.letter; before = []; young = tt; inserted = ap (λ (c : Row). c ∷ []) (takes_only p).1 }
    go [] p h ([] ∷ qs) o y = absurd y.0
    go [] p h ((c ∷ q) ∷ qs) o y = absurd o
    go (c ∷ d) p h rs o y = record {
      letter = k.letter;
      before = (c ∷ d) ∷ rs;
      young = (tt, h, top_over (c ∷ d) rs o, y);
      inserted = rw ((takes_only p).0, (takes_only p).1, none_inserted t rs);
    }

-- It came from above into the rows below.
former_below : (t z : ℕ) (r : Row) (rs : Rows) → Rises 0 0 r → OverFirst r (insert t rs (some z)) → Young rs → Former t (r ∷ insert t rs (some z))
former_below t z r rs h o y =
    let k : Took t (some z) 0 0 r (top_row rs) = took_over 0 0 0 0 r (takes_row t z (top_row rs)) h (top_rises rs y) (top_inserted t z r rs o) in
    record {
      letter = k.letter;
      before = k.row ∷ rs;
      young = (replaced_filled k.takes, k.rises, top_over k.row rs k.over, y);
      inserted = rw ((takes_only k.takes).0, (takes_only k.takes).1);
    }

-- A tableau with entries up to t, of which t is one.
pub largest : (t : ℕ) (rows : Rows) → Young rows → AllBefore (suc t) rows → 0 < count t (young_entries rows) → Former t rows
largest t [] y b c = let z : ⊥ = omega arith in absurd z
largest t (r ∷ rs) y b c =
    dite (dec_le 1 (count t (row_entries r)))
    (λ (top : 1 ≤ count t (row_entries r)).
    former_top t r rs (took_last t 0 0 r (top_row rs) y.1 b.0 (before_top (suc t) rs b.1) top (over_top r rs y.2)) y.3)
    (λ (no : ¬ (1 ≤ count t (row_entries r))).
    let k : Former t rs = largest t rs y.3 b.1 (omega (arith, count_append t (row_entries r) (young_entries rs))) in
    subst (λ (qs : Rows). Former t (r ∷ qs)) k.inserted
    (former_below t k.letter r k.before y.1 (subst (λ (qs : Rows). OverFirst r qs) (sym k.inserted) y.2) k.young))
