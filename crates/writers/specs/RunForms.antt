-- The runs of a tableau's cells as items of a line, walked from the first cell on: a run begins with its first cell, and its length follows.
--     run_form xs ms                 how many cells there are, and their runs; form_is, length_form: its parts, and its bytes
--     run_at xs ms i k               the bytes of a run of k cells from place i on
--     run_bytes_from xs ms i          the bytes of the runs from place i on, at which one begins
--     runs_next, runs_none          the run that begins there, and then the others; none past the last cell
--     run-first, run_later          a run's bytes counted
--     run_step_room, run_letter_room, run_length_room, run_laid       a run written: its step, its letter, its length
-- The loops over all runs are in RunLoops. Assumes nothing.
use Rattle.std.specs.Prelude.{ℕ, zero, suc, ◌+◌, ◌≤◌, ◌<◌, ◌≡◌, refl, List, [], ◌∷◌, ◌++◌, drop}
use Rattle.std.proofs.Math.Path.{ap}
use Rattle.std.proofs.Common.{◌∙◌, arith, length-append, drop_of_length-le}
use Rattle.std.proofs.Math.ListN.{length, get_or}
use Rattle.grammar.specs.Lines.{field, first_run, items, later_run}
use Rattle.line_sizes.specs.Sizes.{Counted}
use Rattle.run_lines.specs.Runs.{run_with, runs_of}
use Rattle.writers.specs.Cells.{cell_laid, cell_step_room, cell_at, later_is, letter_room, step_at}
use Rattle.writers.specs.Items.{length-listed, listed}
use Rattle.writers.specs.Laying.{Laid, laid_then}
use Rattle.writers.specs.RunLengths.{Ran, runs_on}

-- How many cells, and the runs.
unfoldable pub run_form : List ℕ → List ℕ → List ℕ
run_form xs ms = listed (length xs) (items first_run later_run (runs_of xs ms))

-- A run: its first cell, and how many cells it has.
unfoldable pub run_at : List ℕ → List ℕ → ℕ → ℕ → List ℕ
run_at xs ms i k = cell_at xs ms i ++ field k

-- The runs from a place on: all of them, or some after the first.
unfoldable pub run_bytes_from : List ℕ → List ℕ → ℕ → List ℕ
run_bytes_from xs ms zero = items first_run later_run (runs_of xs ms)
run_bytes_from xs ms (suc i) = items later_run later_run (runs_of (drop (suc i) xs) (drop (suc i) ms))

-- ---- one run after the other

-- The bytes of a cell are those of its letter, after those of the step unless it is the first.
at_first : (xs ms : List ℕ) (k : ℕ) → run_at xs ms 0 k ≡ first_run (run_with (get_or xs 0 0) k (get_or ms 0 0))
unfolding run_at cell_at
at_first xs ms k = refl

at_later : (xs ms : List ℕ) (i k : ℕ) → run_at xs ms (suc i) k ≡ later_run (run_with (get_or xs (suc i) 0) k (get_or ms (suc i) 0))
unfolding run_at cell_at
at_later xs ms i k = refl

-- Past the first run no place is the first.
from_later : (xs ms : List ℕ) (j : ℕ) → 1 ≤ j → run_bytes_from xs ms j ≡ items later_run later_run (runs_of (drop j xs) (drop j ms))
unfolding run_bytes_from
from_later xs ms zero l = let z : ⊥ = omega arith in absurd z
from_later xs ms (suc j) l = refl

-- The run that begins at a place, and then the others.
pub runs_next : (xs ms : List ℕ) (i k : ℕ) → length ms ≡ length xs → i < length xs → Ran xs i k → run_bytes_from xs ms i ≡ run_at xs ms i k ++ run_bytes_from xs ms (i + k)
unfolding run_bytes_from
runs_next xs ms zero k e l r =
    ap (items first_run later_run) (runs_on xs ms 0 k e l r) ∙ rw (from_later xs ms (0 + k) (omega (arith, r.some)), at_first xs ms k)
runs_next xs ms (suc i) k e l r =
    ap (items later_run later_run) (runs_on xs ms (suc i) k e l r) ∙ rw (from_later xs ms (suc i + k) (omega arith), at_later xs ms i k)

-- Past the last cell there is none.
pub runs_none : (xs ms : List ℕ) (i : ℕ) → length xs ≤ i → run_bytes_from xs ms i ≡ []
unfolding run_bytes_from
runs_none [] ms zero l = refl
runs_none (x ∷ xs) ms zero l = let z : ⊥ = omega arith in absurd z
runs_none xs ms (suc i) l = rw (drop_of_length-le xs l)

-- All of them, after how many cells there are.
pub form_is : (xs ms : List ℕ) → run_form xs ms ≡ listed (length xs) (run_bytes_from xs ms 0)
unfolding run_form run_bytes_from
form_is xs ms = refl

pub length_form : (xs ms : List ℕ) → length (run_form xs ms) ≡ length (field (length xs)) + length (run_bytes_from xs ms 0)
length_form xs ms = ap length (form_is xs ms) ∙ length-listed (length xs) (run_bytes_from xs ms 0)

-- ---- one run

-- Its bytes.
length_run : (xs ms : List ℕ) (i k : ℕ) → length (run_at xs ms i k) ≡ length (cell_at xs ms i) + length (field k)
unfolding run_at
length_run xs ms i k = length-append (cell_at xs ms i) (field k)

-- Counted: the letter, the length, and the step unless the run is the first.
module _ (xs ms : List ℕ) (i k : ℕ) {x : ℕ} {a b : ℕ} (e : x ≡ get_or xs i 0) (n : Counted 21 (field x) a) (m : Counted 21 (field k) b) where
  pub run-first : i ≡ 0 → Counted 44 (run_at xs ms i k) (a + b)
  unfolding cell_at
  run-first z = rw z record {
    is = omega (arith, length_run xs ms 0 k, ap (λ (y : ℕ). length (field y)) (e ∙ ap (λ (j : ℕ). get_or xs j 0) z), n.is, m.is);
    few = omega (arith, n.few, m.few);
  }

  pub run_later : (i ≡ 0 → ⊥) → Counted 44 (run_at xs ms i k) (a + b + 2)
  run_later z = record {
    is = omega (arith, length_run xs ms i k, ap length (later_is xs ms i z), ap (λ (y : ℕ). length (field y)) e, n.is, m.is);
    few = omega (arith, n.few, m.few);
  }

-- Written: the step, the letter, then the length.
module _ (xs ms old : List ℕ) (i k at : ℕ) (h : at + length (run_at xs ms i k) ≤ length old) where
  cell_fits : at + length (cell_at xs ms i) ≤ length old
  cell_fits = omega (arith, h, length_run xs ms i k)

  pub run_step_room : at + length (step_at ms i) ≤ length old
  run_step_room = cell_step_room xs ms old i at cell_fits

  module _ {step : List ℕ} {from x : ℕ} (l : Laid (step_at ms i) old at step from) (e : x ≡ get_or xs i 0) where
    pub run_letter_room : from + length (field x) ≤ length step
    run_letter_room = letter_room xs ms old i at cell_fits l e

    module _ {mid : List ℕ} {end : ℕ} (g : Laid (field x) step from mid end) where
      first_cell_lem : Laid (cell_at xs ms i) old at mid end
      first_cell_lem = cell_laid xs ms old i at cell_fits l e g

      pub run_length_room : end + length (field k) ≤ length mid
      run_length_room = omega (arith, h, length_run xs ms i k, first_cell_lem.ends, first_cell_lem.long)

      pub run_laid : {now : List ℕ} {last : ℕ} → Laid (field k) mid end now last → Laid (run_at xs ms i k) old at now last
      unfolding run_at
      run_laid p = laid_then first_cell_lem p
