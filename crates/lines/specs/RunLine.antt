-- The C line of a word, by the laws of TableauLine: it is a line of the word's tableau.
--     runs_refused, runs-made     its reply, from a refusal and from the reply of the C line's writer
--     run_lining                  the ruleset of the C line of a word
-- Assumes nothing.
use Rattle.std.specs.Prelude.{Result, Err}
use Rattle.std.specs.Prelude.{ℕ, ◌-◌, ◌≤◌, ◌≡◌, List, length, take}
use Rattle.std.proofs.Common.{◌∙◌, arith, rules}
use Rattle.hypoplactic.specs.Insertion.{pair_with}
use Rattle.outcomes.specs.TableauOperations.{pair_run}
use Rattle.refusals.specs.Said.{said_refusal, said_value}
use Rattle.refusals.specs.declared.refusal.Refusal.{Refusal}
use Rattle.run_lines.specs.Operations.{c_line_run, run_line, word_run_line, word_run_line_run}
use Rattle.lines.specs.TableauLine.{Made, cells_reach, line_made, line_refused, tableau_made}

-- The answer is a refusal, and so is that of the C line.
pub runs_refused : (n : ℕ) (w ls ks js : List ℕ) → 1024 ≤ length ls → 1024 ≤ length ks → 1024 ≤ length js → (cs xs ms rs ds : List ℕ) (made : Result ℕ Refusal)
    → (said_value made, (pair_with xs ms rs, ds)) ≡ pair_run n w (pair_with ls ks js) cs → (q : Refusal) (out : List ℕ) → made ≡ Err q
    → (said_refusal q, out) ≡ word_run_line_run n w out
unfolding word_run_line_run
runs_refused n w ls ks js long long' long'' cs xs ms rs ds made e q out h =
    line_refused n w ls ks js long long' long'' cs xs ms rs ds made e q (word_run_line n w) out h

-- What the writer of C lines replies to the first cells is the reply of the C line of the word.
pub runs-made : {n : ℕ} {w xs ms : List ℕ} {m : ℕ} → Made n w xs ms m → (out out' : List ℕ) (r : Result ℕ Refusal)
    → (said_value r, out') ≡ c_line_run n (take m xs) (take m ms) out → (said_value r, out') ≡ word_run_line_run n w out
unfolding c_line_run word_run_line_run word_run_line
runs-made h out out' r e = e ∙ line_made h run_line out

-- Cells taken from the first on.
pub cut-runs : (n m : ℕ) (xs ms out out' : List ℕ) (r : Result ℕ Refusal) → (said_value r, out') ≡ c_line_run n (take (m - 0) xs) (take (m - 0) ms) out
    → (said_value r, out') ≡ c_line_run n (take m xs) (take m ms) out
cut-runs n m xs ms out out' r e = let z : m - 0 ≡ m = omega arith in rw z at e

pub ruleset run_lining = (cut-runs, tableau_made, runs_refused, cells_reach, runs-made, rules)
