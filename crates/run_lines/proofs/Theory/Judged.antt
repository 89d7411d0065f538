-- What the checks of a C line's values let through (document 02, N9): the runs of a tableau within the limits, and the number of its cells.
--     runs-judged, sum_judged_lem     19 and 20 pass exactly when ..
--     run_passing                 1 2 4 19 20 pass exactly for the runs of a tableau and the number of its cells
--     tableau-items               the runs of a tableau within the limits: rising letters within the rank, each with a cell
--     few_items                   what 4 and 19 let through has no more items than the rank
--     items_other, sum_other      19 and 20 are other numbers than 14
-- The grammar gives each item its mark, the first 0, each other 0 or 1 (MarkedRuns); so nothing judges marks. Assumes nothing.
use Prim.Native.Nat.{ℕ, zero, suc, ◌+◌, ◌≤◌, ◌<◌}
use native.Mathlib.Omega.{arith}
use mathlib.Core.Path.{◌≡◌, sym, ap, subst, ◌∙◌}
use mathlib.Core.Bool.{false, ◌||◌, not}
use mathlib.Core.List.{List, [], ◌∷◌, ◌++◌}
use mathlib.Core.Logic.Iff
use mathlib.Core.Logic.{◌↔◌}
use mathlib.Mathlib.Data.Bool.Basic.{or-eq-false-eq-eq-false-and-eq-false as or_false_iff}
use lib.Dec.{eqb, leb}
use lib.ListN.{length, replicate}
use borrow.Author.Tests.{eqb-false, eqb-true, eq-eqb, leb-false, lt-leb, ne_eqb, not-false}
use Rattle.grammar.specs.Lines.{Run}
use Rattle.grammar.specs.Values.{Items, MarkedRuns, RunWith}
use Rattle.hypoplactic.specs.Words.{Within}
use Rattle.hypoplactic.specs.Ribbons.{TableauAt}
use Rattle.outcomes.specs.Replies.{Passes, passed}
use Rattle.outcomes.specs.Judgements.{letters_judged}
use Rattle.outcomes.proofs.Theory.Judgements.{length-judged, letters-judged, rank_judged_lem}
use Rattle.outcomes.proofs.Theory.OtherNumbers.{Other, test_other}
use Rattle.outcomes.proofs.Theory.Passing.{Passing, passes_test, passes_then}
use Rattle.run_lines.specs.Runs.{Runs, RunsAfter, run_cells, run_letters, run_marks, runs_of}
use Rattle.run_lines.specs.Judgements.{item_letters, run_judgements, runs_from, runs_judged, sum_judged}
use Rattle.run_lines.proofs.Theory.Runs.{runs_length, runs_tableau, runs_tableau_runs, tableau_runs, tableau_runs_length, tableau_runs_tableau}

-- ---- 19 and 20

-- Items after the letter x: each letter above the one before it, and no count 0.
abbrev pub RisingItems : ℕ → List Run → Type 0
RisingItems x [] = Unit {0}
RisingItems x (r ∷ rs) = ((x < r.letter) × (1 ≤ r.times)) × RisingItems r.letter rs

-- The test of 19.
item_test : (x : ℕ) (r : Run) → ((leb r.letter x || eqb r.times 0) ≡ false) ↔ ((x < r.letter) × (1 ≤ r.times))
item_test x r = Iff.trans (or_false_iff (leb r.letter x) (eqb r.times 0)) (Iff.and
    (leb-false r.letter x, lt-leb r.letter x)
    (λ e. omega (arith, eqb-false r.times 0 e), λ h. ne_eqb r.times 0 (λ e. omega arith)))

runs_from_lem : (i x : ℕ) (rs : List Run) → Passes (runs_from i x rs) ↔ RisingItems x rs
runs_from_lem i x [] = Iff.rfl
runs_from_lem i x (r ∷ rs) = passes_then (leb r.letter x || eqb r.times 0) 19 i _ (item_test x r) (runs_from_lem (suc i) r.letter rs)

-- 19: the letters rise, from above 0 on, and no count is 0.
pub runs-judged : (rs : List Run) → Passes (runs_judged rs) ↔ RisingItems 0 rs
unfolding runs_judged
runs-judged rs = runs_from_lem 0 0 rs

-- 20: the counts add to L.
pub sum_judged_lem : (L : ℕ) (rs : List Run) → Passes (sum_judged L rs) ↔ (run_cells rs ≡ L)
unfolding sum_judged
sum_judged_lem L rs = passes_test (not (eqb (run_cells rs) L)) 20 0 (λ e. eqb-true (run_cells rs) L (not-false _ e), λ e. rw (eq-eqb (run_cells rs) L e))

-- ---- what all of them let through

-- The marks of the runs that a line can hold.
pub good_marks : (rs : List Run) → Items (RunWith (λ m. m ≡ 0)) (RunWith (λ m. m ≤ 1)) rs → MarkedRuns rs
good_marks [] g = tt
good_marks (r ∷ rs) g = (g.0.2, later rs g.1)
  where
    later : (rs : List Run) → Items (RunWith (λ m. m ≤ 1)) (RunWith (λ m. m ≤ 1)) rs → Items (λ (r : Run). r.mark ≤ 1) (λ r. r.mark ≤ 1) rs
    later [] g = tt
    later (r ∷ rs) g = (g.0.2, later rs g.1)

-- Rising items with such marks are runs,
items-after : (x : ℕ) (rs : List Run) → RisingItems x rs → Items (λ (r : Run). r.mark ≤ 1) (λ r. r.mark ≤ 1) rs → RunsAfter x rs
items-after x [] h g = tt
items-after x (r ∷ rs) h g = (h.0.0, h.0.1, g.0, items-after r.letter rs h.1 g.1)

items-runs : (x : ℕ) (rs : List Run) → RisingItems x rs → MarkedRuns rs → Runs rs
items-runs x [] h g = tt
items-runs x (r ∷ rs) h g = (h.0.1, g.0, items-after r.letter rs h.1 g.1)

-- and the other way.
after_items : (x : ℕ) (rs : List Run) → RunsAfter x rs → RisingItems x rs
after_items x [] h = tt
after_items x (r ∷ rs) h = ((h.0, h.1), after_items r.letter rs h.3)

-- The letters of the cells are within the rank where those of the items are,
within_more : (n x k : ℕ) (ys : List ℕ) → 1 ≤ x → x ≤ n → Within n ys → Within n (replicate k x ++ ys)
within_more n x zero ys low high h = h
within_more n x (suc k) ys low high h = (low, high, within_more n x k ys low high h)

within-cells : (n : ℕ) (rs : List Run) → Within n (item_letters rs) → Within n (run_letters rs)
within-cells n [] h = tt
within-cells n (r ∷ rs) h = within_more n r.letter r.times (run_letters rs) h.0 h.1 (within-cells n rs h.2)

-- and the other way, as each run has a cell.
within_fewer : (n x k : ℕ) (ys : List ℕ) → 1 ≤ k → Within n (replicate k x ++ ys) → (1 ≤ x) × (x ≤ n) × Within n ys
within_fewer n x zero ys some h = let z : ⊥ = omega arith in absurd z
within_fewer n x (suc zero) ys some h = h
within_fewer n x (suc (suc k)) ys some h = within_fewer n x (suc k) ys (omega arith) h.2

within-items : (n x : ℕ) (rs : List Run) → RunsAfter x rs → Within n (run_letters rs) → Within n (item_letters rs)
within-items n x [] h w = tt
within-items n x (r ∷ rs) h w =
    let (low, high, rest) = within_fewer n r.letter r.times (run_letters rs) h.1 w in
    (low, high, within-items n r.letter rs h.3 rest)

-- Runs within a rank are runs after 0.
runs-above : (n : ℕ) (rs : List Run) → Runs rs → Within n (run_letters rs) → RunsAfter 0 rs
runs-above n [] h w = tt
runs-above n (r ∷ rs) h w = ((within_fewer n r.letter r.times (run_letters rs) h.0 w).0, h.0, omega (arith, h.1), h.2)

-- The runs of a tableau within the limits rise, and their letters are within the rank.
pub tableau-items : {n : ℕ} {xs ms : List ℕ} → TableauAt n xs ms → RisingItems 0 (runs_of xs ms) × Within n (item_letters (runs_of xs ms))
tableau-items {n} {xs} {ms} h =
    let rs : List Run = runs_of xs ms in
    let within : Within n (run_letters rs) = subst (Within n) (sym (tableau_runs_tableau xs ms h.tableau).0) h.word.letters in
    let above : RunsAfter 0 rs = runs-above n rs (tableau_runs xs ms h.tableau) within in
    (after_items 0 rs above, within-items n 0 rs above within)

-- The runs of a tableau within the limits of rank n, and the number of its cells.
pub record RunsAt (n L : ℕ) (rs : List Run) : Type 0 where
  pub letters : List ℕ
  pub marks : List ℕ
  pub tableau : TableauAt n letters marks
  pub runs : rs ≡ runs_of letters marks
  pub cells : L ≡ length letters

-- 1, 2, 4, 19 and 20 refuse nothing exactly there.
pub run_passing : (n L : ℕ) (rs : List Run) → MarkedRuns rs → Passing (run_judgements n L rs) ↔ RunsAt n L rs
run_passing n L rs g = (there, back)
  where
    there : Passing (run_judgements n L rs) → RunsAt n L rs
    there (rank, (short, (letters, (rising, (sum, t))))) =
        let runs : Runs rs = items-runs 0 rs ((runs-judged rs).0 rising) g in
        let cells : L ≡ length (run_letters rs) = sym ((sum_judged_lem L rs).0 sum) ∙ runs_length rs in
        record {
          letters = run_letters rs;
          marks = run_marks rs;
          tableau = record {
            word = record {
              rank_low = ((rank_judged_lem n).0 rank).0;
              rank_high = ((rank_judged_lem n).0 rank).1;
              short = subst (λ (k : ℕ). k ≤ 1024) cells ((length-judged L).0 short);
              letters = within-cells n rs ((letters-judged n (item_letters rs)).0 letters);
            };
            tableau = runs_tableau rs runs;
          };
          runs = sym (runs_tableau_runs rs runs);
          cells = cells;
        }

    back : RunsAt n L rs → Passing (run_judgements n L rs)
    back h =
        let word = h.tableau.word in
        let (rising, letters) = subst (λ (rs : List Run). RisingItems 0 rs × Within n (item_letters rs)) (sym h.runs) (tableau-items h.tableau) in
        let cells : run_cells rs ≡ L = ap run_cells h.runs ∙ tableau_runs_length h.letters h.marks h.tableau.tableau ∙ sym h.cells in (
          (rank_judged_lem n).1 (word.rank_low, word.rank_high),
          (
            (length-judged L).1 (subst (λ (k : ℕ). k ≤ 1024) (sym h.cells) word.short),
            ((letters-judged n (item_letters rs)).1 letters, ((runs-judged rs).1 rising, ((sum_judged_lem L rs).1 cells, tt))),
          ),
        )

-- ---- how many items

few_after : (n x : ℕ) (rs : List Run) → x ≤ n → RisingItems x rs → Within n (item_letters rs) → x + length rs ≤ n
few_after n x [] l h w = omega arith
few_after n x (r ∷ rs) l h w = omega (arith, h.0.0, few_after n r.letter rs w.1 h.1 w.2)

-- Rising letters from 1 to the rank are no more than the rank.
pub few_items : (n : ℕ) (rs : List Run) → Passes (letters_judged n (item_letters rs)) → Passes (runs_judged rs) → length rs ≤ n
few_items n rs w h = omega (arith, few_after n 0 rs (omega arith) ((runs-judged rs).0 h) ((letters-judged n (item_letters rs)).0 w))

-- ---- other numbers than 14

other_from : (i x : ℕ) (rs : List Run) → Other (runs_from i x rs)
other_from i x [] = tt
other_from i x (r ∷ rs) =
    test_other (leb r.letter x || eqb r.times 0) 19 i (runs_from (suc i) r.letter rs) (λ e. omega arith) (other_from (suc i) r.letter rs)

pub items_other : (rs : List Run) → Other (runs_judged rs)
unfolding runs_judged
items_other rs = other_from 0 0 rs

pub sum_other : (L : ℕ) (rs : List Run) → Other (sum_judged L rs)
unfolding sum_judged
sum_other L rs = test_other (not (eqb (run_cells rs) L)) 20 0 passed (λ e. omega arith) tt
