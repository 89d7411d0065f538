-- The two forms of a tableau's line, and the line of the other form from what the reader of one leaves in memory.
--     to_runs_refused, to_runs_letters, to_runs_marks, to_runs_made                  a T line: a refusal, cells within memory, the C line's writer's reply
--     to_tableau_refused, to_tableau_letters, to_tableau_marks, to_tableau_made      the same of a C line
--     turning                                                                        the ruleset of the converters
-- Assumes nothing.
use Rattle.std.specs.Prelude.{ℕ, ◌≤◌, ◌≡◌, refl, List, [], ◌∷◌, length, take}
use Rattle.std.proofs.Math.Path.{sym, ap}
use Rattle.std.proofs.Common.{◌∙◌, rules}
use Rattle.grammar.specs.Lines.{Run, t_line}
use Rattle.grammar.specs.Reading.{got, read_c, read_t}
use Rattle.outcomes.specs.Judgements.{tableau_judgements}
use Rattle.outcomes.specs.LineOperations.{t_line_run}
use Rattle.outcomes.specs.LineReadings.{read_run, read_t_run}
use Rattle.outcomes.specs.Replies.{Said, gives}
use Rattle.outcomes.proofs.Theory.Judged.{tableau_passing}
use Rattle.outcomes.proofs.Theory.Judgements.{alike-judged, length-judged}
use Rattle.outcomes.proofs.Theory.LineResults.{past_checks}
use Rattle.outcomes.proofs.Theory.Passing.{Passing}
use Rattle.refusals.specs.Said.{said_refusal}
use Rattle.refusals.specs.declared.refusal.Refusal.{Refusal}
use Rattle.run_lines.specs.Judgements.{run_judgements}
use Rattle.run_lines.specs.Operations.{c_line_run, read_c_run, run_line, runs_to_tableau_run, runs_turned, tableau_to_runs_run}
use Rattle.run_lines.specs.Runs.{run_cells, run_letters, run_marks}
use Rattle.run_lines.proofs.Theory.Judged.{sum_judged_lem}
use Rattle.run_lines.proofs.Theory.Runs.{runs_length, runs_marks_length}
use Rattle.run_lines.proofs.Theory.Trips.{c_values}
use Rattle.run_conversions.specs.Forms.{Form, Kept, Sized, kept_cells, line_kept, line_refused}

-- T lines.
tableau_sized : (n : ℕ) (xs ms : List ℕ) → Passing (tableau_judgements n xs ms) → Sized (length xs) xs ms
tableau_sized n xs ms h = record { short = (length-judged (length xs)).0 h.1.0; letters = refl; marks = sym ((alike-judged _ _).0 h.1.1.0).0 }

abbrev tableau_form : Form (ℕ × List ℕ × List ℕ)
tableau_form = record {
  judged = λ v. tableau_judgements v.0 v.1 v.2;
  rank = λ v. v.0;
  size = λ v. length v.1;
  letters = λ v. v.1;
  marks = λ v. v.2;
  sized = λ v h. tableau_sized v.0 v.1 v.2 h;
}

-- C lines: the counts add to the number of cells.
runs_sized : (n L : ℕ) (rs : List Run) → Passing (run_judgements n L rs) → Sized L (run_letters rs) (run_marks rs)
runs_sized n L rs h =
    let sum : L ≡ run_cells rs = sym ((sum_judged_lem L rs).0 h.1.1.1.1.0) in
    record { short = (length-judged L).0 h.1.0; letters = sum ∙ runs_length rs; marks = sum ∙ runs_marks_length rs }

abbrev runs_form : Form (ℕ × ℕ × List Run)
runs_form = record {
  judged = λ v. run_judgements v.0 v.1 v.2;
  rank = λ v. v.0;
  size = λ v. v.1;
  letters = λ v. run_letters v.2;
  marks = λ v. run_marks v.2;
  sized = λ v h. runs_sized v.0 v.1 v.2 h;
}

-- ---- from T to C

module _ (text ls ks cs xs ms ds : List ℕ) (long : 1024 ≤ length ls) (long' : 1024 ≤ length ks) where
  pub to_runs_refused : (q : Refusal) (out : List ℕ) → (said_refusal q, (xs, (ms, ds))) ≡ read_t_run text ls ks cs → (said_refusal q, out) ≡ tableau_to_runs_run text out
  unfolding read_t_run tableau_to_runs_run c_line_run
  to_runs_refused q out e = line_refused tableau_form ls ks cs long long' text xs ms ds (read_t text) q e (λ v. run_line v.0 v.1 v.2) out

  module _ (n m : ℕ) (e : (gives (n ∷ m ∷ []), (xs, (ms, ds))) ≡ read_t_run text ls ks cs) where
    tableau_kept : Kept tableau_form (read_t text) n m xs ms
    unfolding read_t_run
    tableau_kept = line_kept tableau_form ls ks cs long long' text xs ms ds (read_t text) n m e

    pub to_runs_letters : m ≤ length xs
    to_runs_letters = tableau_kept.letters_reach

    pub to_runs_marks : m ≤ length ms
    to_runs_marks = tableau_kept.marks_reach

    pub to_runs_made : {p : Said × List ℕ} (out : List ℕ) → p ≡ c_line_run n (take m xs) (take m ms) out → p ≡ tableau_to_runs_run text out
    unfolding tableau_to_runs_run
    to_runs_made out g =
        g ∙ kept_cells tableau_form tableau_kept (λ k us vs. c_line_run k us vs out)
        ∙ sym (ap (read_run text (λ v. c_line_run v.0 v.1 v.2 out) out) tableau_kept.is)

-- ---- from C to T

-- Values that were read and pass are a tableau, which passes its own checks.
turned-line : (text : List ℕ) (n L : ℕ) (rs : List Run) (rest out : List ℕ) → read_c text ≡ got (n, L, rs) rest → Passing (run_judgements n L rs)
    → t_line_run n (run_letters rs) (run_marks rs) out ≡ runs_turned out n L rs
unfolding t_line_run
turned-line text n L rs rest out e h =
    let bytes : List ℕ = t_line n (run_letters rs) (run_marks rs) in
    let passes = (tableau_passing n (run_letters rs) (run_marks rs)).1 (c_values text n L rs rest e h).0 in
    sym (past_checks (tableau_judgements n (run_letters rs) (run_marks rs)) bytes out passes) ∙ past_checks (run_judgements n L rs) bytes out h

module _ (text ls ks cs xs ms ds : List ℕ) (long : 1024 ≤ length ls) (long' : 1024 ≤ length ks) where
  pub to_tableau_refused : (q : Refusal) (out : List ℕ) → (said_refusal q, (xs, (ms, ds))) ≡ read_c_run text ls ks cs → (said_refusal q, out) ≡ runs_to_tableau_run text out
  unfolding read_c_run runs_to_tableau_run
  to_tableau_refused q out e = line_refused runs_form ls ks cs long long' text xs ms ds (read_c text) q e (λ v. t_line v.0 (run_letters v.2) (run_marks v.2)) out

  module _ (n m : ℕ) (e : (gives (n ∷ m ∷ []), (xs, (ms, ds))) ≡ read_c_run text ls ks cs) where
    runs_kept : Kept runs_form (read_c text) n m xs ms
    unfolding read_c_run
    runs_kept = line_kept runs_form ls ks cs long long' text xs ms ds (read_c text) n m e

    pub to_tableau_letters : m ≤ length xs
    to_tableau_letters = runs_kept.letters_reach

    pub to_tableau_marks : m ≤ length ms
    to_tableau_marks = runs_kept.marks_reach

    pub to_tableau_made : {p : Said × List ℕ} (out : List ℕ) → p ≡ t_line_run n (take m xs) (take m ms) out → p ≡ runs_to_tableau_run text out
    unfolding runs_to_tableau_run
    to_tableau_made out g =
        g ∙ kept_cells runs_form runs_kept (λ k us vs. t_line_run k us vs out)
        ∙ turned-line text runs_kept.value.0 runs_kept.value.1 runs_kept.value.2 runs_kept.rest out runs_kept.is runs_kept.passes
        ∙ sym (ap (read_run text (λ v. runs_turned out v.0 v.1 v.2) out) runs_kept.is)

pub ruleset turning = (
  to_runs_refused,
  to_runs_letters,
  to_runs_marks,
  to_runs_made,
  to_tableau_refused,
  to_tableau_letters,
  to_tableau_marks,
  to_tableau_made,
  rules,
)
