-- Demand 3 over C lines (document 02, N9): the agreement of lines for joined words holds for C as it does for T. The statements are in specs/Classes.antt.
--     run-line-tells                 C lines tell tableaux and ranks apart
--     run_lines_as_tableau_lines     so two words have one C line exactly when they have one tableau line
--     run_classes                    demand 3 over C lines, and run_written_classes over what is written of them
--     run_unranked                   without its rank field a C line depends on letters and marks alone
--     run_ranks                      demand 3 of words of two ranks, and run-written_ranks over what is written
-- Each is the core that the theorem of tableau lines uses too, at the C line. Assumes nothing.
use Prim.Native.Nat.{ℕ, ◌≤◌}
use mathlib.Core.Path.{◌≡◌, refl, sym, ap, ap₂, ◌∙◌}
use mathlib.Core.List.{List, [], ◌∷◌, ◌++◌, append_assoc}
use mathlib.Core.Logic.{◌↔◌}
use lib.ListN.{length}
use Rattle.grammar.specs.Lines.{c_line, field, first_run, items, later_run, line, t_line}
use Rattle.grammar.proofs.Theory.Determined.{c_determined}
use Rattle.outcomes.specs.WrittenClasses.{line_bytes}
use Rattle.hypoplactic.specs.Insertion.{letters_of, marks_of}
use Rattle.quasi_crystal.specs.Classes.{tableau_line}
use Rattle.quasi_crystal.specs.Moves.{index_of, move_word}
use Rattle.hypoplactic.specs.Ribbons.{Tableau}
use Rattle.hypoplactic.specs.Words.{Accepted}
use Rattle.hypoplactic.proofs.Theory.Boundary.{tableau_of_word}
use Rattle.quasi_crystal.proofs.Theory.Classes.{faithful, line-tells}
use Rattle.outcomes.proofs.Theory.Memory.{written_needed}
use Rattle.outcomes.proofs.Theory.WrittenClasses.{faithfully_written}
use Rattle.ranks.specs.Unranked.{without_rank}
use Rattle.ranks.proofs.Theory.Ranks.{across}
use Rattle.ranks.proofs.Theory.Unranked.{rank_left_out, ranked}
use Rattle.ranks.proofs.Theory.WrittenRanks.{written-across}
use Rattle.run_lines.specs.Classes.{RunFaithfulLines, RunFaithfulRanks, RunFaithfulWriting, RunWrittenRanks, unranked_run_line}
use Rattle.run_lines.specs.Operations.{run_line, word_run_line, word_run_line_run}
use Rattle.run_lines.specs.Runs.{runs_of}
use Rattle.run_lines.proofs.Theory.Readings.{runs-marked, word_run_line_result}
use Rattle.run_lines.proofs.Theory.Runs.{runs_tell, tableau_runs}

-- ---- of one rank

-- The C line tells tableaux apart, by their runs, and ranks too.
pub run-line-tells : (n m : ℕ) (xs ms ys ns : List ℕ) → Tableau xs ms → Tableau ys ns → run_line n xs ms ≡ run_line m ys ns → (n ≡ m) × (xs ≡ ys) × (ms ≡ ns)
unfolding run_line
run-line-tells n m xs ms ys ns h k e =
    let (rank, size, runs) = c_determined n m (length xs) (length ys) (runs_of xs ms) (runs_of ys ns)
    (runs-marked (runs_of xs ms) (tableau_runs xs ms h)) (runs-marked (runs_of ys ns) (tableau_runs ys ns k)) e in
    let (letters, marks) = runs_tell xs ms ys ns h k runs in
    (rank, letters, marks)

-- Of one rank.
one_rank_tells : (n : ℕ) (xs ms ys ns : List ℕ) → Tableau xs ms → Tableau ys ns → run_line n xs ms ≡ run_line n ys ns → (xs ≡ ys) × (ms ≡ ns)
one_rank_tells n xs ms ys ns h k e = let (rank, letters, marks) = run-line-tells n n xs ms ys ns h k e in (letters, marks)

-- Of any two words: one C line exactly where there is one tableau line.
pub run_lines_as_tableau_lines : (n : ℕ) (u v : List ℕ) → (word_run_line n u ≡ word_run_line n v) ↔ (tableau_line n u ≡ tableau_line n v)
unfolding word_run_line tableau_line
run_lines_as_tableau_lines n u v = (
  λ e.
      let (letters, marks) = one_rank_tells n (letters_of u) (marks_of u) (letters_of v) (marks_of v) (tableau_of_word u) (tableau_of_word v) e in
      ap₂ (t_line n) letters marks,
  λ e.
      let (letters, marks) = line-tells n (letters_of u) (marks_of u) (letters_of v) (marks_of v) (tableau_of_word u) (tableau_of_word v) e in
      ap₂ (run_line n) letters marks,
)

pub run_classes : RunFaithfulLines
unfolding word_run_line move_word
run_classes n u v a b = faithful (run_line n) (λ m. index_of n m.index) (one_rank_tells n) u v

-- The bytes written are the C line.
run-line_bytes : (n : ℕ) (w out : List ℕ) → Accepted n w → length (word_run_line n w) ≤ length out → line_bytes word_run_line_run n w out ≡ word_run_line n w
run-line_bytes n w out a l = rw (word_run_line_result n w out a l) (written_needed (word_run_line n w) out)

pub run_written_classes : RunFaithfulWriting
run_written_classes n u v a b = faithfully_written word_run_line word_run_line_run n (run-line_bytes n) u v a b (run_classes n u v a b)

-- ---- of two ranks

-- The fields of a C line after its rank.
abbrev rest : List ℕ → List ℕ → List ℕ
rest xs ms = field (length xs) ++ items first_run later_run (runs_of xs ms)

runs_left_out : (n : ℕ) (xs ms : List ℕ) → without_rank (run_line n xs ms) ≡ line 67 (rest xs ms)
unfolding run_line c_line
runs_left_out n xs ms = rank_left_out 67 n (rest xs ms) refl

-- The rank field put back gives the C line again.
runs-ranked : (n : ℕ) (xs ms : List ℕ) → ranked n (without_rank (run_line n xs ms)) ≡ run_line n xs ms
unfolding run_line c_line
runs-ranked n xs ms = ap (ranked n) (runs_left_out n xs ms) ∙ ap (λ (s : List ℕ). 67 ∷ s) (sym (append_assoc (field n) (rest xs ms) (10 ∷ [])))

pub run_unranked : (n m : ℕ) (xs ms : List ℕ) → without_rank (run_line n xs ms) ≡ without_rank (run_line m xs ms)
run_unranked n m xs ms = runs_left_out n xs ms ∙ sym (runs_left_out m xs ms)

-- Without it the C line tells tableaux apart.
unranked_tells : (n : ℕ) (xs ms ys ns : List ℕ) → Tableau xs ms → Tableau ys ns → without_rank (run_line n xs ms) ≡ without_rank (run_line n ys ns)
    → (xs ≡ ys) × (ms ≡ ns)
unranked_tells n xs ms ys ns h k e = one_rank_tells n xs ms ys ns h k (sym (runs-ranked n xs ms) ∙ ap (ranked n) e ∙ runs-ranked n ys ns)

pub run_ranks : RunFaithfulRanks
unfolding unranked_run_line word_run_line
run_ranks n m u v a b = across (λ r xs ms. without_rank (run_line r xs ms)) run_unranked unranked_tells n m u v

pub run-written_ranks : RunWrittenRanks
unfolding unranked_run_line
run-written_ranks n m u v a b = written-across word_run_line word_run_line_run run-line_bytes run_ranks run_written_classes n m u v a b
