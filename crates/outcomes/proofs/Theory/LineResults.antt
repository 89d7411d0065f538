-- Writers of lines: an input that keeps the limits, with room for the bytes, gets its line (theorem i), and the program prints the three lines. Assumes nothing.
use Prim.Native.Nat.{ℕ, ◌≤◌}
use mathlib.Core.Path.{◌≡◌}
use mathlib.Core.List.{List, [], ◌∷◌}
use lib.ListN.{length}
use Rattle.grammar.specs.Lines.{w_line, t_line, p_line, j_line, e_line}
use Rattle.hypoplactic.specs.Words.{Accepted}
use Rattle.hypoplactic.specs.Ribbons.{PairAt, TableauAt}
use Rattle.hypoplactic.specs.Junctions.{junction_set, rows_of}
use Rattle.outcomes.specs.Replies.{Said, gives, passed, written}
use Rattle.outcomes.specs.Judgements.{room_judged, word_judgements, tableau_judgements, pair_judgements}
use Rattle.quasi_crystal.specs.Classes.{tableau_line}
use Rattle.outcomes.specs.LineOperations.{line_run, room_run, w_line_run, t_line_run, p_line_run, tableau_line_run, j_line_run, e_line_run, three_lines, program}
use Rattle.outcomes.proofs.Theory.Passing.{Passing, ran_answer, first_answer, first_past}
use Rattle.outcomes.proofs.Theory.Judgements.{room_judged_lem}
use Rattle.outcomes.proofs.Theory.Judged.{word_passing, tableau_passing, pair_passing}

-- A writer whose checks refuse nothing judges only room.
pub past_checks : (js : List Said) (bytes out : List ℕ) → Passing js → room_run bytes out ≡ line_run js bytes out
unfolding room_run
past_checks js bytes out p = rw (first_past js (room_judged (length bytes) (length out) ∷ []) (gives (length bytes ∷ [])) p)

-- Any writer whose checks refuse nothing, with room for its bytes.
pub line_result : (checks : List Said) (bytes out : List ℕ) → Passing checks → length bytes ≤ length out → line_run checks bytes out ≡ (gives (length bytes ∷ []), written bytes out)
line_result checks bytes out p r = ran_answer checks (room_judged (length bytes) (length out) ∷ []) (length bytes ∷ []) (written bytes out) out p ((room_judged_lem _ _).1 r, tt)

module _ (n : ℕ) (w : List ℕ) (a : Accepted n w) where
  pub w_line_result : (out : List ℕ) → length (w_line n w) ≤ length out → w_line_run n w out ≡ (gives (length (w_line n w) ∷ []), written (w_line n w) out)
  unfolding w_line_run
  w_line_result out r = line_result (word_judgements n w) (w_line n w) out ((word_passing n w).1 a) r

  -- The tableau line of an accepted word is written whole.
  pub tableau_line_result : (out : List ℕ) → length (tableau_line n w) ≤ length out
      → tableau_line_run n w out ≡ (gives (length (tableau_line n w) ∷ []), written (tableau_line n w) out)
  unfolding tableau_line_run
  tableau_line_result out r = line_result (word_judgements n w) (tableau_line n w) out ((word_passing n w).1 a) r

  pub j_line_result : (out : List ℕ) → length (j_line (junction_set w) (rows_of w)) ≤ length out
      → j_line_run n w out ≡ (gives (length (j_line (junction_set w) (rows_of w)) ∷ []), written (j_line (junction_set w) (rows_of w)) out)
  unfolding j_line_run
  j_line_result out r = line_result (word_judgements n w) (j_line (junction_set w) (rows_of w)) out ((word_passing n w).1 a) r

  -- The program prints three lines for an accepted word.
  pub program_result : program n w ≡ three_lines n w
  unfolding program
  program_result = rw (first_answer (word_judgements n w) passed ((word_passing n w).1 a))

pub t_line_result : (n : ℕ) (xs ms out : List ℕ) → TableauAt n xs ms → length (t_line n xs ms) ≤ length out
    → t_line_run n xs ms out ≡ (gives (length (t_line n xs ms) ∷ []), written (t_line n xs ms) out)
unfolding t_line_run
t_line_result n xs ms out h r = line_result (tableau_judgements n xs ms) (t_line n xs ms) out ((tableau_passing n xs ms).1 h) r

pub p_line_result : (n : ℕ) (xs ms rs out : List ℕ) → PairAt n xs ms rs → length (p_line n xs ms rs) ≤ length out
    → p_line_run n xs ms rs out ≡ (gives (length (p_line n xs ms rs) ∷ []), written (p_line n xs ms rs) out)
unfolding p_line_run
p_line_result n xs ms rs out h r = line_result (pair_judgements n xs ms rs) (p_line n xs ms rs) out ((pair_passing n xs ms rs).1 h) r

pub e_line_result : (k p : ℕ) (out : List ℕ) → length (e_line k p) ≤ length out → e_line_run k p out ≡ (gives (length (e_line k p) ∷ []), written (e_line k p) out)
unfolding e_line_run
e_line_result k p out r = line_result [] (e_line k p) out tt r
