-- Every text that a reader takes comes back from the other form, byte for byte (document 02, N9). Room for the other line is told as a number: no line is longer.
--     tableau_line_back     a T line, by way of 515 bytes
--     run_line_back         a C line, by way of 5,128
-- Whatever memory the reader was lent. Assumes nothing.
use Rattle.std.specs.Prelude.{ℕ, ◌≤◌, ◌≡◌, List, [], ◌∷◌, length}
use Rattle.std.proofs.Common.{arith}
use Rattle.grammar.specs.Lines.{t_line}
use Rattle.outcomes.specs.LineReadings.{read_t_run}
use Rattle.outcomes.specs.Replies.{Passes, gives, written}
use Rattle.run_lines.specs.Operations.{read_c_run, run_line, runs_to_tableau_run, tableau_to_runs_run}
use Rattle.run_lines.proofs.Theory.Trips.{LineOf, bytes_of, read_c_held, read_t_held, runs_back, tableau_back}
use Rattle.writers.specs.Lengths.{c_length, t_length}

pub tableau_line_back : (text letters marks counts out out' : List ℕ) → Passes (read_t_run text letters marks counts).0 → 515 ≤ length out
    → length text ≤ length out' → runs_to_tableau_run (bytes_of (tableau_to_runs_run text out)) out' ≡ (gives (length text ∷ []), written text out')
tableau_line_back text letters marks counts out out' h room back =
    let held : LineOf t_line text = read_t_held text letters marks counts h in
    tableau_back text out out' (held, omega (arith, c_length held.tableau)) back

pub run_line_back : (text letters marks counts out out' : List ℕ) → Passes (read_c_run text letters marks counts).0 → 5128 ≤ length out
    → length text ≤ length out' → tableau_to_runs_run (bytes_of (runs_to_tableau_run text out)) out' ≡ (gives (length text ∷ []), written text out')
run_line_back text letters marks counts out out' h room back =
    let held : LineOf run_line text = read_c_held text letters marks counts h in
    runs_back text out out' (held, omega (arith, t_length held.tableau)) back
