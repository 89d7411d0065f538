-- What the writers of lines reply, and memory, from the verdict on their values on.
--     word_stopped, tableau-stopped, runs-stopped, pair_stopped, junctions_stopped         the checks refuse, and memory is as it was
--     word_goes_on, tableau-goes_on, runs-goes_on, pair_goes_on, junctions_goes_on         they pass, and the room decides
--     word_short, tableau-short, tableau-alike, pair_alike                                 what holds of the values then
--     refusal_goes_on                                                                      a refusal has no checks
--     running                                                                              the ruleset of the public functions
-- Assumes nothing.
use Rattle.std.specs.Prelude.{Result, Ok, Err}
use Rattle.refusals.specs.declared.answers.Junctions.{Junctions}
use Rattle.std.specs.Prelude.{ℕ, ◌≤◌, ◌≡◌, List, [], ◌∷◌, ◌++◌, length}
use Rattle.std.proofs.Math.Path.{sym}
use Rattle.std.proofs.Common.{ap, ap₂, ◌∙◌, arith}
use Rattle.grammar.specs.Lines.{cell, cells, field, first_cell, items, w_line, t_line, c_line, p_line, j_line, e_line}
use Rattle.outcomes.specs.Judgements.{pair_judgements, room_judged, tableau_judgements, word_judgements}
use Rattle.hypoplactic.specs.Junctions.{junction_set, rows_of}
use Rattle.outcomes.specs.LineOperations.{e_line_run, j_line_run, line_run, p_line_run, room_run, t_line_run, w_line_run}
use Rattle.outcomes.specs.Replies.{Said, gives, refused, passed, first}
use Rattle.outcomes.specs.WordOperations.{junction_says}
use Rattle.outcomes.proofs.Theory.Judgements.{alike-judged, length-judged}
use Rattle.outcomes.proofs.Theory.LineResults.{past_checks}
use Rattle.outcomes.proofs.Theory.Passing.{Passing, first_answer}
use Rattle.refusals.specs.Chains.{chaining}
use Rattle.refusals.specs.Running.{all_passing, run-stopped}
use Rattle.refusals.specs.Said.{said_junctions, said_refusal, said_verdict}
use Rattle.refusals.specs.declared.refusal.Refusal.{Refusal}
use Rattle.run_lines.specs.Operations.{c_line_run, run_line}
use Rattle.writers.specs.Items.{listed}
use Rattle.writers.specs.Lines.{line_of}
use Rattle.writers.specs.Parts.{Alike, parts}
use Rattle.writers.specs.RunForms.{run_form}

-- ---- words, tableaux, pairs

-- The verdict of the checks,
module _ {v : Result (Unit {0}) Refusal} (js : List Said) (bytes old : List ℕ) (e : said_verdict v ≡ first js passed) where
  -- which refuses, and memory is as it was,
  line-stopped : (r : Refusal) → v ≡ Err r → (said_refusal r, old) ≡ line_run js bytes old
  line-stopped r q = run-stopped js (room_judged (length bytes) (length old) ∷ []) _ _ old r e q

  -- or passes, and the room decides.
  line-goes_on : {p : Said × List ℕ} → v ≡ Ok tt → p ≡ room_run bytes old → p ≡ line_run js bytes old
  line-goes_on q h = h ∙ past_checks js bytes old (all_passing js e q)

-- W: 1, 2 and 4.
module _ {v : Result (Unit {0}) Refusal} (n : ℕ) (w old : List ℕ) (e : said_verdict v ≡ first (word_judgements n w) passed) where
  pub word_stopped : (r : Refusal) → v ≡ Err r → (said_refusal r, old) ≡ w_line_run n w old
  unfolding w_line_run
  word_stopped r q = line-stopped (word_judgements n w) (w_line n w) old e r q

  pub word_goes_on : {p : Said × List ℕ} → v ≡ Ok tt → p ≡ room_run (line_of 87 n (listed (length w) (items field field w))) old → p ≡ w_line_run n w old
  unfolding w_line_run w_line line_of listed
  word_goes_on q h = line-goes_on (word_judgements n w) (w_line n w) old e q h

  pub word_short : v ≡ Ok tt → length w ≤ 1024
  word_short q = (length-judged (length w)).0 (all_passing (word_judgements n w) e q).1.0

-- T and C: 1 to 6.
module _ {v : Result (Unit {0}) Refusal} (n : ℕ) (xs ms old : List ℕ) (e : said_verdict v ≡ first (tableau_judgements n xs ms) passed) where
  pub tableau-stopped : (r : Refusal) → v ≡ Err r → (said_refusal r, old) ≡ t_line_run n xs ms old
  unfolding t_line_run
  tableau-stopped r q = line-stopped (tableau_judgements n xs ms) (t_line n xs ms) old e r q

  pub tableau-goes_on : {p : Said × List ℕ} → v ≡ Ok tt
      → p ≡ room_run (line_of 84 n (listed (length xs) (items first_cell cell (cells xs ms)))) old → p ≡ t_line_run n xs ms old
  unfolding t_line_run t_line line_of listed
  tableau-goes_on q h = line-goes_on (tableau_judgements n xs ms) (t_line n xs ms) old e q h

  pub runs-stopped : (r : Refusal) → v ≡ Err r → (said_refusal r, old) ≡ c_line_run n xs ms old
  unfolding c_line_run
  runs-stopped r q = line-stopped (tableau_judgements n xs ms) (run_line n xs ms) old e r q

  pub runs-goes_on : {p : Said × List ℕ} → v ≡ Ok tt → p ≡ room_run (line_of 67 n (run_form xs ms)) old → p ≡ c_line_run n xs ms old
  unfolding c_line_run run_line c_line line_of run_form listed
  runs-goes_on q h = line-goes_on (tableau_judgements n xs ms) (run_line n xs ms) old e q h

  pub tableau-short : v ≡ Ok tt → length xs ≤ 1024
  tableau-short q = (length-judged (length xs)).0 (all_passing (tableau_judgements n xs ms) e q).1.0

  pub tableau-alike : v ≡ Ok tt → length ms ≡ length xs
  tableau-alike q = ((alike-judged _ _).0 (all_passing (tableau_judgements n xs ms) e q).1.1.0).0

-- P: 1 to 8.
module _ {v : Result (Unit {0}) Refusal} (n : ℕ) (xs ms rs old : List ℕ) (e : said_verdict v ≡ first (pair_judgements n xs ms rs) passed) where
  pub pair_stopped : (r : Refusal) → v ≡ Err r → (said_refusal r, old) ≡ p_line_run n xs ms rs old
  unfolding p_line_run
  pair_stopped r q = line-stopped (pair_judgements n xs ms rs) (p_line n xs ms rs) old e r q

  pub pair_goes_on : {p : Said × List ℕ} → v ≡ Ok tt → p ≡ room_run (line_of 80 n (parts xs ms rs)) old → p ≡ p_line_run n xs ms rs old
  unfolding p_line_run p_line line_of parts listed
  pair_goes_on q h = line-goes_on (pair_judgements n xs ms rs) (p_line n xs ms rs) old e q h

  pub pair_alike : v ≡ Ok tt → Alike xs ms rs
  pair_alike q =
      let passes : Passing (pair_judgements n xs ms rs) = all_passing (pair_judgements n xs ms rs) e q in
      let alike = (alike-judged _ _).0 passes.1.1.0 in
      record { short = (length-judged (length xs)).0 passes.1.0; marks = alike.0; entries = alike.1.0 }

-- ---- junctions

-- Where checks refuse before an answer, they refuse before any other checks and answer.
first_stops : (js ks : List Said) (vs : List ℕ) (a : Said) (k p : ℕ) → refused k p ≡ first js (gives vs) → first (js ++ ks) a ≡ refused k p
first_stops [] ks vs a k p e = let never : ◌≡◌ {A = ℕ} 0 1 = cc in let z : ⊥ = omega arith in absurd z
first_stops (gives us ∷ js) ks vs a k p e = first_stops js ks vs a k p e
first_stops (refused j q ∷ js) ks vs a k p e = sym e

-- Where an answer is given, they pass.
first_gives : (js : List Said) (us : List ℕ) (a : Said) → gives us ≡ first js a → Passing js
first_gives [] us a e = tt
first_gives (gives vs ∷ js) us a e = (tt, first_gives js us a e)
first_gives (refused j q ∷ js) us a e = let never : ◌≡◌ {A = ℕ} 0 1 = cc in let z : ⊥ = omega arith in absurd z

-- J: 1, 2 and 4, and the numbers are those of the word.
module _ {j : Result Junctions Refusal} (n : ℕ) (w old : List ℕ) (e : said_junctions j ≡ junction_says n w) where
  pub junctions_stopped : (r : Refusal) → j ≡ Err r → (said_refusal r, old) ≡ j_line_run n w old
  unfolding junction_says j_line_run
  junctions_stopped r q =
      let says : said_refusal r ≡ first (word_judgements n w) (gives (junction_set w ∷ rows_of w ∷ [])) = sym (ap said_junctions q) ∙ e in
      rw (first_stops (word_judgements n w) (room_judged (length (j_line (junction_set w) (rows_of w))) (length old) ∷ []) _ _ _ _ says)

  pub junctions_goes_on : {p : Said × List ℕ} (set rows : ℕ) → j ≡ Ok (record { set = set; rows = rows }) → p ≡ room_run (line_of 74 set (field rows)) old → p ≡ j_line_run n w old
  unfolding junction_says j_line_run j_line line_of
  junctions_goes_on set rows q h =
      let says : gives (set ∷ rows ∷ []) ≡ first (word_judgements n w) (gives (junction_set w ∷ rows_of w ∷ [])) = sym (ap said_junctions q) ∙ e in
      let passes : Passing (word_judgements n w) = first_gives (word_judgements n w) _ _ says in
      let same : gives (set ∷ rows ∷ []) ≡ gives (junction_set w ∷ rows_of w ∷ []) = says ∙ first_answer (word_judgements n w) _ passes in
      let sets : set ≡ junction_set w = cc in
      let counts : rows ≡ rows_of w = cc in
      rw (sets, counts) at h ∙ past_checks (word_judgements n w) (j_line (junction_set w) (rows_of w)) old passes

-- ---- refusals

-- E: its number and its place.
pub refusal_goes_on : {p : Said × List ℕ} {k i : ℕ} (number place : ℕ) (old : List ℕ) → k ≡ number → i ≡ place
    → p ≡ room_run (line_of 69 k (field i)) old → p ≡ e_line_run number place old
unfolding e_line_run e_line line_of room_run
refusal_goes_on number place old e f h = h ∙ ap₂ (λ (a b : ℕ). e_line_run a b old) e f

pub ruleset running = (
  word_stopped,
  word_goes_on,
  word_short,
  tableau-stopped,
  tableau-goes_on,
  runs-stopped,
  runs-goes_on,
  tableau-short,
  tableau-alike,
  pair_stopped,
  pair_goes_on,
  pair_alike,
  junctions_stopped,
  junctions_goes_on,
  refusal_goes_on,
  chaining,
)
