-- The runs of a tableau (document 02, N9): its different letters, each with its count and the step into it.
--     runs_of xs ms               the runs of letters and marks
--     run_letters rs, run_marks rs the letters and the marks of the cells that runs stand for
--     run_cells rs                how many cells they stand for
--     Runs rs                    what the runs of a tableau are: each letter above the one before it, at least one cell each, the first mark 0, each other 0 or 1
-- A run is told by the mark of its first cell; the steps between equal letters go right. Assumes nothing.
use Rattle.std.specs.Prelude.{ℕ, zero, suc, ◌+◌, ◌≤◌, ◌<◌, ◌≡◌, cond, List, [], ◌∷◌, ◌++◌, eqb, replicate}
use Rattle.grammar.specs.Lines.{Run}

-- Three numbers as a run.
abbrev pub run_with : ℕ → ℕ → ℕ → Run
run_with x k m = record { letter = x; times = k; mark = m }

-- A cell before the cells of runs: it makes the first run one longer where that has its letter, and its mark is then the run's; else it is a run of its own.
abbrev pub cell_before : ℕ → ℕ → List Run → List Run
cell_before x m [] = run_with x 1 m ∷ []
cell_before x m (r ∷ rs) = cond (eqb x r.letter) (run_with x (suc r.times) m ∷ rs) (run_with x 1 m ∷ r ∷ rs)

-- The runs of letters and marks, as many as there are of both.
abbrev pub runs_of : List ℕ → List ℕ → List Run
runs_of [] ms = []
runs_of (x ∷ xs) [] = []
runs_of (x ∷ xs) (m ∷ ms) = cell_before x m (runs_of xs ms)

-- The letters of runs: each as often as its run says.
abbrev pub run_letters : List Run → List ℕ
run_letters [] = []
run_letters (r ∷ rs) = replicate r.times r.letter ++ run_letters rs

-- The marks of so many equal letters: that of the first, then right steps.
abbrev pub marks_of_run : ℕ → ℕ → List ℕ
marks_of_run m zero = []
marks_of_run m (suc k) = m ∷ replicate k 0

-- The marks of runs.
abbrev pub run_marks : List Run → List ℕ
run_marks [] = []
run_marks (r ∷ rs) = marks_of_run r.mark r.times ++ run_marks rs

-- The cells of runs.
abbrev pub run_cells : List Run → ℕ
run_cells [] = 0
run_cells (r ∷ rs) = r.times + run_cells rs

-- Runs after the letter x: each letter above the one before it, at least one cell each, and each step right or down.
abbrev pub RunsAfter : ℕ → List Run → Type 0
RunsAfter x [] = Unit {0}
RunsAfter x (r ∷ rs) = (x < r.letter) × (1 ≤ r.times) × (r.mark ≤ 1) × RunsAfter r.letter rs

-- And from the first on, into which there is no step: its mark is 0.
abbrev pub Runs : List Run → Type 0
Runs [] = Unit {0}
Runs (r ∷ rs) = (1 ≤ r.times) × (r.mark ≡ 0) × RunsAfter r.letter rs
