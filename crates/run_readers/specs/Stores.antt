-- The tableau of a C line into lent memory: the reply, and memory, from the tally and the tables of the line's items on.
--     RunsChecked                  a verdict is that of 1, 2, 4, 19, 20 and 13, of all items with a tally
--     Stored                       what is replied and what memory holds is as readers promise it, of all items with a tally and tables
--     runs_stop, runs_go           the verdict of both groups of checks
--     runs_refused, runs_passed    a refusal, and memory is as it was; or the tableau, and its letter counts
-- That the tables tell the items is in Tables. Assumes nothing.
use Rattle.std.specs.Prelude.{Result, Ok, Err}
use Rattle.refusals.specs.declared.answers.Sizes.{Sizes}
use Rattle.std.specs.Prelude.{ℕ, ◌≤◌, ◌≡◌, refl, List, [], length}
use Rattle.std.proofs.Common.{ap₂, ◌∙◌, arith}
use Rattle.grammar.specs.Lines.{Run}
use Rattle.grammar.specs.Values.{MarkedRuns}
use Rattle.outcomes.specs.Judgements.{tableau_rooms}
use Rattle.outcomes.specs.Replies.{first, passed}
use Rattle.hypoplactic.specs.Words.{Within}
use Rattle.outcomes.proofs.Theory.Judgements.{letters-judged, rank_judged_lem, room_judged_lem}
use Rattle.refusals.specs.Running.{checks_then, goes_further, run_passed, run_refused, stops_there, then_passing}
use Rattle.refusals.specs.Said.{said_sizes, said_verdict}
use Rattle.refusals.specs.declared.refusal.Refusal.{Refusal}
use Rattle.run_lines.specs.Judgements.{item_letters, run_judgements}
use Rattle.run_lines.specs.Operations.{runs_read}
use Rattle.run_lines.specs.Runs.{run_cells}
use Rattle.run_lines.proofs.Theory.Judged.{RisingItems, runs-judged, sum_judged_lem}
use Rattle.run_tallies.specs.Leads.{tally-judges}
use Rattle.run_tallies.specs.Tallies.{Tallied, tally_says}
use Rattle.run_tallies.specs.declared.tally.Tally.{Tally}
use Rattle.run_scans.specs.Items.{Held}
use Rattle.fillings.specs.Filled.{filled_runs}
use Rattle.run_readers.specs.Tables.{tables_counts, tables_filled, zeros}

-- ---- the checks

-- Whatever items have this tally.
pub record RunsChecked (n L : ℕ) (y : Tally) (letters marks : ℕ) (v : Result (Unit {0}) Refusal) : Type 0 where
  pub says : (rs : List Run) → Tallied n rs y → said_verdict v ≡ checks_then (run_judgements n L rs) (tableau_rooms L letters marks)

-- The verdict of the first checks refuses, or the verdict of the rooms decides.
pub runs_stop : (n L : ℕ) (y : Tally) (letters marks : ℕ) (f : Refusal) → said_verdict (Err f) ≡ tally_says n L y → RunsChecked n L y letters marks (Err f)
runs_stop n L y letters marks f e = record { says = λ rs h. stops_there (run_judgements n L rs) (e ∙ tally-judges n L y rs h) (tableau_rooms L letters marks) f refl }

pub runs_go : {v : Result (Unit {0}) Refusal} (n L : ℕ) (y : Tally) (letters marks : ℕ) → said_verdict (Ok tt) ≡ tally_says n L y → said_verdict v ≡ first (tableau_rooms L letters marks) passed
    → RunsChecked n L y letters marks v
unfolding checks_then
runs_go n L y letters marks e g =
    record { says = λ rs h. goes_further (run_judgements n L rs) (e ∙ tally-judges n L y rs h) [] (tableau_rooms L letters marks) refl g }

-- ---- what is stored

-- Whatever items have this tally and these tables, with the marks that the grammar gives.
pub record Stored (n L : ℕ) (y : Tally) (ts ms letters marks counts letters' marks' counts' : List ℕ) (r : Result Sizes Refusal) : Type 0 where
  pub says : (rs : List Run) → MarkedRuns rs → Held n zeros zeros ts ms y rs
      → (said_sizes r, (letters', (marks', counts'))) ≡ runs_read letters marks counts n L rs

-- Two lists as a pair, beside a third.
both : {xs ms xs' ms' cs cs' : List ℕ} {p : List ℕ × List ℕ} → (xs, ms) ≡ p → p ≡ (xs', ms') → cs ≡ cs'
    → ◌≡◌ {A = List ℕ × (List ℕ × List ℕ)} (xs, (ms, cs)) (xs', (ms', cs'))
both d e f = ap₂ (λ (p : List ℕ × List ℕ) (cs : List ℕ). (p.0, (p.1, cs))) (d ∙ e) f

module _ {v : Result (Unit {0}) Refusal} (n L : ℕ) (y : Tally) (ts ms letters marks counts : List ℕ) (e : RunsChecked n L y (length letters) (length marks) v) where
  pub runs_refused : (f : Refusal) → v ≡ Err f → Stored n L y ts ms letters marks counts letters marks counts (Err f)
  runs_refused f q = record { says = λ rs m h. run_refused _ _ (e.says rs h.tallied) _ _ (letters, (marks, counts)) f q }

  pub runs_passed : (letters' marks' : List ℕ) → v ≡ Ok tt → (letters', marks') ≡ filled_runs n ts ms letters marks
      → Stored n L y ts ms letters marks counts letters' marks' ts (Ok (record { rank = n; count = L }))
  runs_passed letters' marks' q d = record {
    says = λ rs m h.
        let told = e.says rs h.tallied in
        let (checks, (first, (second, u))) = then_passing _ _ told q in
        let (rank, (short, (inside, (rising, (sum, t))))) = checks in
        let cells : run_cells rs ≡ L = (sum_judged_lem L rs).0 sum in
        let limit : n ≤ 64 = ((rank_judged_lem n).0 rank).1 in
        let above : RisingItems 0 rs = (runs-judged rs).0 rising in
        let within : Within n (item_letters rs) = (letters-judged n (item_letters rs)).0 inside in
        run_passed _ _ told _ _ (letters, (marks, counts)) (letters', (marks', ts)) q
        (both d
        (tables_filled rs limit above within h.times_are h.marks_are letters marks m
        (omega (arith, (room_judged_lem _ _).0 first)) (omega (arith, (room_judged_lem _ _).0 second)))
        (tables_counts rs limit above within h.times_are h.marks_are));
  }
