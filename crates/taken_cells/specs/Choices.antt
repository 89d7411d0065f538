-- The cells that may go first, by their places, and the orders that each of them leaves.
--     may_go ms i               whether the cell at place i may be taken out first
--     choice_at ys ms i         what it leaves
--     choices_from ys ms i k    the choices among the k cells from place i on
--     choices-places           all choices are those from place 0 on
--     orders_left ms i          the orders that a cell leaves, 0 where it may not go first
--     left_bound               they are at most 19 factorial
--     choosing                 the ruleset of the functions on one cell
-- Assumes nothing.
use Rattle.std.specs.Prelude.{ℕ, zero, suc, ◌+◌, ◌-◌, ◌≤◌, ◌<◌, ◌≡◌, refl, Bool, true, false, ◌&&◌, cond, not, List, [], ◌∷◌, map, eqb, length, get_or, take, drop}
use Rattle.std.proofs.Common.{sym, ap, ap₂, ◌∙◌, add-one, arith, length-append, length-drop, length-take, drop-cons, get_or-take, length-take-le, rules, ne_eqb}
use Rattle.std.proofs.Math.Seq.{drop-nil}
use borrow.Rule.Slice.PartMut.{mid_of}
use Rattle.numbering.specs.Orders.{Choice, behind, choices, freed, may_enter, may_leave, orders, with_if}
use Rattle.numbering.proofs.Theory.Bounds.{orders_19}
use Rattle.numbering.proofs.Theory.Counting.{length-freed}
use Rattle.ribbon_orders.specs.Rows.{orders-some, orders_given}
use Rattle.windows.specs.Gaps.{without}
use Rattle.taken_cells.specs.Removal.{free_told, marks_without, pulled_free}

-- ---- choices by places

abbrev pub may_go : List ℕ → ℕ → Bool
may_go ms i = may_enter (get_or ms i 0) && may_leave (drop (suc i) ms)

abbrev pub choice_at : List ℕ → List ℕ → ℕ → Choice
choice_at ys ms i = record { letter = get_or ys i 0; letters = without i ys; marks = marks_without i ms }

abbrev pub choices_from : List ℕ → List ℕ → ℕ → ℕ → List Choice
choices_from ys ms i zero = []
choices_from ys ms i (suc k) = with_if (may_go ms i) (choice_at ys ms i) (choices_from ys ms (suc i) k)

-- One more cell in front moves all of them one on.
behind_places : (y m : ℕ) (ys ms : List ℕ) (i k : ℕ) → map (behind y m) (choices_from ys ms i k) ≡ choices_from (y ∷ ys) (m ∷ ms) (suc i) k
behind_places y m ys ms i zero = refl
behind_places y m ys ms i (suc k) = go (may_go ms i) (behind_places y m ys ms (suc i) k)
  where
    go : (b : Bool) → map (behind y m) (choices_from ys ms (suc i) k) ≡ choices_from (y ∷ ys) (m ∷ ms) (suc (suc i)) k
        → map (behind y m) (with_if b (choice_at ys ms i) (choices_from ys ms (suc i) k))
        ≡ with_if b (choice_at (y ∷ ys) (m ∷ ms) (suc i)) (choices_from (y ∷ ys) (m ∷ ms) (suc (suc i)) k)
    go true e = ap (λ (cs : List Choice). choice_at (y ∷ ys) (m ∷ ms) (suc i) ∷ cs) e
    go false e = e

pub choices-places : (ys ms : List ℕ) → length ys ≡ length ms → choices ys ms ≡ choices_from ys ms 0 (length ys)
choices-places [] ms e = refl
choices-places (y ∷ ys) [] e = let z : ⊥ = omega arith in absurd z
choices-places (y ∷ ys) (m ∷ ms) e =
    ap (λ (cs : List Choice). with_if (may_enter m && may_leave ms) (choice_at (y ∷ ys) (m ∷ ms) 0) cs)
    (ap (map (behind y m)) (choices-places ys ms (omega arith)) ∙ behind_places y m ys ms 0 (length ys))

-- ---- one cell

-- The mark at a place that counts.
mark_at : (c i : ℕ) (ms : List ℕ) → i < c → get_or (take c ms) i 0 ≡ get_or ms i 0
mark_at c i ms l = get_or-take c ms i 0 l

-- A right step leads into the cell.
pub go_not : {c i : ℕ} (ms : List ℕ) → i < c → get_or ms i 0 ≡ 0 → false ≡ may_go (take c ms) i
go_not {c} {i} ms l e = sym (ap (λ (m : ℕ). may_enter m && may_leave (drop (suc i) (take c ms))) (mark_at c i ms l ∙ e))

other : (m : ℕ) → (m ≡ 0 → ⊥) → may_enter m ≡ true
other zero e = absurd (e refl)
other (suc m) e = refl

past : (c k : ℕ) (ms : List ℕ) → c ≤ k → drop k (take c ms) ≡ []
past zero k ms l = drop-nil k
past (suc c) zero ms l = let z : ⊥ = omega arith in absurd z
past (suc c) (suc k) [] l = refl
past (suc c) (suc k) (m ∷ ms) l = past c k ms (omega arith)

-- Another step leads into it, and no cell comes after it,
pub go_last : {c i : ℕ} (ms : List ℕ) → i < c → (get_or ms i 0 ≡ 0 → ⊥) → c ≤ i + 1 → true ≡ may_go (take c ms) i
go_last {c} {i} ms l o h =
    let e : may_enter (get_or (take c ms) i 0) ≡ true = ap may_enter (mark_at c i ms l) ∙ other (get_or ms i 0) o in
    sym (ap₂ (λ (b : Bool) (ns : List ℕ). b && may_leave ns) e (past c (suc i) ms (omega arith)))

-- or one does, and the step into it decides.
pub go_next : {c : ℕ} (i : ℕ) (ms : List ℕ) → length ms ≡ 20 → c ≤ 20 → (get_or ms i 0 ≡ 0 → ⊥) → i + 1 < c
    → not (eqb (get_or ms (i + 1) 0) 1) ≡ may_go (take c ms) i
go_next {c} i ms s l o h =
    let e : may_enter (get_or (take c ms) i 0) ≡ true = ap may_enter (mark_at c i ms (omega arith)) ∙ other (get_or ms i 0) o in
    let size : length (take c ms) ≡ c = length-take-le c ms (omega arith) in
    rw (add-one i) (sym (ap₂ (λ (b : Bool) (ns : List ℕ). b && may_leave ns) e (drop-cons (take c ms) (suc i) 0 (omega arith))
    ∙ ap (λ (m : ℕ). may_leave (m ∷ drop (suc (suc i)) (take c ms))) (mark_at c (suc i) ms (omega arith))
    ∙ decides (get_or ms (suc i) 0) (drop (suc (suc i)) (take c ms))))
  where
    decides : (m : ℕ) (ns : List ℕ) → may_leave (m ∷ ns) ≡ not (eqb m 1)
    decides zero ns = refl
    decides (suc zero) ns = refl
    decides (suc (suc m)) ns = sym (ap not (ne_eqb (suc (suc m)) 1 (λ q. omega arith)))

-- ---- orders left

unfoldable pub orders_left : List ℕ → ℕ → ℕ
orders_left ms i = cond (may_go ms i) (orders (marks_without i ms)) 0

-- The cell may not go.
pub left_none : {g : Bool} (c i : ℕ) (ms : List ℕ) → g ≡ may_go (take c ms) i → g ≡ false → 0 ≡ orders_left (take c ms) i
unfolding orders_left
left_none c i ms e q = sym (ap (λ (b : Bool). cond b (orders (marks_without i (take c ms))) 0) (sym e ∙ q))

-- It may, and the orders of the marks that it leaves are counted.
pub left_some : {g : Bool} {r : ℕ} (c i : ℕ) (ms ns : List ℕ) → g ≡ may_go (take c ms) i → g ≡ true → length ms ≡ 20 → ns ≡ pulled_free i (c - 1) ms → i < c → c ≤ 20
    → r ≡ orders_given (mid_of 0 (c - 1 - 0) ns) → r ≡ orders_left (take c ms) i
unfolding orders_left
left_some {g} {r} c i ms ns e q s h l m o =
    let part : c - 1 - 0 ≡ c - 1 = omega arith in
    let few : length (take (c - 1) ns) ≤ 20 = omega (arith, length-take (c - 1) ns) in
    o ∙ ap (λ (k : ℕ). orders_given (take k ns)) part ∙ orders-some (take (c - 1) ns) few ∙ ap orders (free_told i c ms l m s h)
    ∙ sym (ap (λ (b : Bool). cond b (orders (marks_without i (take c ms))) 0) (sym e ∙ q))

-- They are few enough to be added up over 20 cells.
pub left_bound : (ms : List ℕ) (i : ℕ) → length ms ≤ 20 → i < length ms → orders_left ms i ≤ 121645100408832000
unfolding orders_left
left_bound ms i l m = go (may_go ms i)
  where
    few : length (marks_without i ms) ≤ 19
    few =
        omega (
          arith,
          length-append (take i ms) (freed (drop (suc i) ms)),
          length-take-le i ms (omega arith),
          length-drop (suc i) ms,
          length-freed (drop (suc i) ms),
        )

    go : (b : Bool) → cond b (orders (marks_without i ms)) 0 ≤ 121645100408832000
    go true = orders_19 (marks_without i ms) few
    go false = omega arith

pub ruleset choosing = (go_not, go_last, go_next, left_none, left_some, rules)
