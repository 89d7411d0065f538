-- Tableaux and their runs tell each other (document 02, N9).
--     tableau_runs, runs_tableau         the runs of a tableau are Runs, and Runs make a tableau
--     tableau_runs_tableau               from a tableau to its runs and back
--     runs_tableau_runs                  from runs to their tableau and back
--     runs_tell                          two tableaux with the same runs are one
--     runs_length, runs_marks_length     as many letters and as many marks as the runs have cells
--     tableau_runs_length                the runs of a tableau have as many cells as it has letters
-- Assumes nothing.
use Prim.Native.Nat.{ℕ, zero, suc, ◌+◌, ◌≤◌, ◌<◌}
use native.Mathlib.Omega.{arith}
use mathlib.Core.Path.{◌≡◌, refl, sym, ap, ap₂, subst, ◌∙◌}
use mathlib.Core.Bool.{Bool, true, false, cond}
use mathlib.Core.List.{List, [], ◌∷◌, ◌++◌}
use lib.Dec.{eqb}
use lib.ListN.{length, length-append, length-replicate, replicate}
use borrow.Author.Tests.{eqb-true, eqb-false, eq-eqb, ne_eqb}
use Rattle.grammar.specs.Lines.{Run}
use Rattle.hypoplactic.specs.Ribbons.{Along, LetterStep, Tableau}
use Rattle.run_lines.specs.Runs.{Runs, RunsAfter, cell_before, marks_of_run, run_cells, run_letters, run_marks, run_with, runs_of}

-- ---- one cell before runs

-- Its letter comes before those of the runs.
letters_before : (x m : ℕ) (rs : List Run) → run_letters (cell_before x m rs) ≡ x ∷ run_letters rs
letters_before x m [] = refl
letters_before x m (r ∷ rs) = go (eqb x r.letter) refl
  where
    go : (b : Bool) → eqb x r.letter ≡ b → run_letters (cond b (run_with x (suc r.times) m ∷ rs) (run_with x 1 m ∷ r ∷ rs)) ≡ x ∷ run_letters (r ∷ rs)
    go true e = ap (λ (y : ℕ). x ∷ (replicate r.times y ++ run_letters rs)) (eqb-true x r.letter e)
    go false e = refl

-- A run into which the step goes right has right steps alone.
marks_right : (k : ℕ) → marks_of_run 0 k ≡ replicate k 0
marks_right zero = refl
marks_right (suc k) = refl

-- The runs of the cells after a letter x: as RunsAfter says, but that the first may have the letter x too, and is then stepped into to the right.
abbrev After : ℕ → List Run → Type 0
After x [] = Unit {0}
After x (r ∷ rs) = (x ≤ r.letter) × (1 ≤ r.times) × (r.mark ≤ 1) × (x ≡ r.letter → r.mark ≡ 0) × RunsAfter r.letter rs

-- Its mark comes before those of the runs.
marks_before : (x m : ℕ) (rs : List Run) → After x rs → run_marks (cell_before x m rs) ≡ m ∷ run_marks rs
marks_before x m [] h = refl
marks_before x m (r ∷ rs) h = go (eqb x r.letter) refl
  where
    go : (b : Bool) → eqb x r.letter ≡ b → run_marks (cond b (run_with x (suc r.times) m ∷ rs) (run_with x 1 m ∷ r ∷ rs)) ≡ m ∷ run_marks (r ∷ rs)
    go true e =
        let right : r.mark ≡ 0 = h.3 (eqb-true x r.letter e) in
        ap (λ (ms : List ℕ). m ∷ (ms ++ run_marks rs)) (sym (ap (λ (k : ℕ). marks_of_run k r.times) right ∙ marks_right r.times))
    go false e = refl

-- The first run is then of its letter and has its mark.
record Begun (x m : ℕ) (rs : List Run) : Type 0 where
  more : ℕ
  rest : List Run
  is : rs ≡ run_with x (suc more) m ∷ rest
  rising : RunsAfter x rest

begun : (x m : ℕ) (rs : List Run) → After x rs → Begun x m (cell_before x m rs)
begun x m [] h = record { more = 0; rest = []; is = refl; rising = tt }
begun x m (r ∷ rs) h = go (eqb x r.letter) refl
  where
    go : (b : Bool) → eqb x r.letter ≡ b → Begun x m (cond b (run_with x (suc r.times) m ∷ rs) (run_with x 1 m ∷ r ∷ rs))
    go true e = record { more = r.times; rest = rs; is = refl; rising = subst (λ (y : ℕ). RunsAfter y rs) (sym (eqb-true x r.letter e)) h.4 }
    go false e =
        record { more = 0; rest = r ∷ rs; is = refl; rising = (omega (arith, h.0, eqb-false x r.letter e), h.1, h.2, h.4) }

-- ---- a tableau's runs

-- What a step tells.
letter_step : (m x y : ℕ) → LetterStep m x y → (x ≤ y) × (m ≤ 1) × (x ≡ y → m ≡ 0)
letter_step zero x y h = (h, omega arith, λ e. refl)
letter_step (suc zero) x y h = (omega arith, omega arith, λ e. omega arith)
letter_step (suc (suc m)) x y h = absurd h

along_runs : (x : ℕ) (ys ms : List ℕ) → Along LetterStep x ys ms → After x (runs_of ys ms)
along_runs x [] [] h = tt
along_runs x [] (m ∷ ms) h = absurd h
along_runs x (y ∷ ys) [] h = absurd h
along_runs x (y ∷ ys) (m ∷ ms) h =
    let (low, small, right) = letter_step m x y h.0 in
    let b = begun y m (runs_of ys ms) (along_runs y ys ms h.1) in
    subst (After x) (sym b.is) (low, omega arith, small, right, b.rising)

-- The runs of a tableau are Runs.
pub tableau_runs : (xs ms : List ℕ) → Tableau xs ms → Runs (runs_of xs ms)
tableau_runs [] [] h = tt
tableau_runs [] (m ∷ ms) h = absurd h
tableau_runs (x ∷ xs) [] h = absurd h
tableau_runs (x ∷ xs) (m ∷ ms) h =
    let b = begun x m (runs_of xs ms) (along_runs x xs ms h.1) in
    subst Runs (sym b.is) (omega arith, h.0, b.rising)

-- The way back of the cells from one on, from that of the cells after it.
cell_back : (x m : ℕ) (xs ms : List ℕ) → Along LetterStep x xs ms → (run_letters (runs_of xs ms) ≡ xs) × (run_marks (runs_of xs ms) ≡ ms)
    → (run_letters (runs_of (x ∷ xs) (m ∷ ms)) ≡ x ∷ xs) × (run_marks (runs_of (x ∷ xs) (m ∷ ms)) ≡ m ∷ ms)
cell_back x m xs ms h (letters, marks) = (
  letters_before x m (runs_of xs ms) ∙ ap (λ (zs : List ℕ). x ∷ zs) letters,
  marks_before x m (runs_of xs ms) (along_runs x xs ms h) ∙ ap (λ (zs : List ℕ). m ∷ zs) marks,
)

along_back : (x : ℕ) (ys ms : List ℕ) → Along LetterStep x ys ms → (run_letters (runs_of ys ms) ≡ ys) × (run_marks (runs_of ys ms) ≡ ms)
along_back x [] [] h = (refl, refl)
along_back x [] (m ∷ ms) h = absurd h
along_back x (y ∷ ys) [] h = absurd h
along_back x (y ∷ ys) (m ∷ ms) h = cell_back y m ys ms h.1 (along_back y ys ms h.1)

-- The letters and the marks of a tableau's runs are the tableau's.
pub tableau_runs_tableau : (xs ms : List ℕ) → Tableau xs ms → (run_letters (runs_of xs ms) ≡ xs) × (run_marks (runs_of xs ms) ≡ ms)
tableau_runs_tableau [] [] h = (refl, refl)
tableau_runs_tableau [] (m ∷ ms) h = absurd h
tableau_runs_tableau (x ∷ xs) [] h = absurd h
tableau_runs_tableau (x ∷ xs) (m ∷ ms) h = cell_back x m xs ms h.1 (along_back x xs ms h.1)

-- So tableaux with the same runs are the same.
pub runs_tell : (xs ms ys ns : List ℕ) → Tableau xs ms → Tableau ys ns → runs_of xs ms ≡ runs_of ys ns → (xs ≡ ys) × (ms ≡ ns)
runs_tell xs ms ys ns h g e =
    let (letters, marks) = tableau_runs_tableau xs ms h in
    let (letters', marks') = tableau_runs_tableau ys ns g in
    (sym letters ∙ ap run_letters e ∙ letters', sym marks ∙ ap run_marks e ∙ marks')

-- ---- the tableau of runs

-- Equal letters are stepped between to the right.
along_equal : (x k : ℕ) (ys ms : List ℕ) → Along LetterStep x ys ms → Along LetterStep x (replicate k x ++ ys) (replicate k 0 ++ ms)
along_equal x zero ys ms h = h
along_equal x (suc k) ys ms h = (omega arith, along_equal x k ys ms h)

step_up : (m x y : ℕ) → m ≤ 1 → x < y → LetterStep m x y
step_up zero x y small up = omega arith
step_up (suc zero) x y small up = up
step_up (suc (suc m)) x y small up = omega arith

runs_along : (x : ℕ) (rs : List Run) → RunsAfter x rs → Along LetterStep x (run_letters rs) (run_marks rs)
runs_along x [] h = tt
runs_along x (r ∷ rs) h = go r.times h.1 (runs_along r.letter rs h.3)
  where
    go : (k : ℕ) → 1 ≤ k → Along LetterStep r.letter (run_letters rs) (run_marks rs)
        → Along LetterStep x (replicate k r.letter ++ run_letters rs) (marks_of_run r.mark k ++ run_marks rs)
    go zero some a = let z : ⊥ = omega arith in absurd z
    go (suc k) some a = (step_up r.mark x r.letter h.2 h.0, along_equal r.letter k (run_letters rs) (run_marks rs) a)

-- Runs make a tableau.
pub runs_tableau : (rs : List Run) → Runs rs → Tableau (run_letters rs) (run_marks rs)
runs_tableau [] h = tt
runs_tableau (r ∷ rs) h = go r.times h.0
  where
    go : (k : ℕ) → 1 ≤ k → Tableau (replicate k r.letter ++ run_letters rs) (marks_of_run r.mark k ++ run_marks rs)
    go zero some = let z : ⊥ = omega arith in absurd z
    go (suc k) some = (h.1, along_equal r.letter k (run_letters rs) (run_marks rs) (runs_along r.letter rs h.2))

-- A cell before runs of greater letters is a run of its own.
before_greater : (x m : ℕ) (rs : List Run) → RunsAfter x rs → cell_before x m rs ≡ run_with x 1 m ∷ rs
before_greater x m [] h = refl
before_greater x m (r ∷ rs) h = rw (ne_eqb x r.letter (λ e. omega (arith, h.0))) refl

-- Equal letters before greater ones are one run.
stretch : (x k m : ℕ) (xs ms : List ℕ) (rs : List Run) → RunsAfter x rs → runs_of xs ms ≡ rs
    → runs_of (replicate (suc k) x ++ xs) (m ∷ (replicate k 0 ++ ms)) ≡ run_with x (suc k) m ∷ rs
stretch x zero m xs ms rs h e = ap (cell_before x m) e ∙ before_greater x m rs h
stretch x (suc k) m xs ms rs h e = ap (cell_before x m) (stretch x k 0 xs ms rs h e) ∙ rw (eq-eqb x x refl) refl

back_run : (r : Run) (rs : List Run) → 1 ≤ r.times → RunsAfter r.letter rs → runs_of (run_letters rs) (run_marks rs) ≡ rs
    → runs_of (run_letters (r ∷ rs)) (run_marks (r ∷ rs)) ≡ r ∷ rs
back_run r rs some h e = go r.times some
  where
    go : (k : ℕ) → 1 ≤ k
        → runs_of (replicate k r.letter ++ run_letters rs) (marks_of_run r.mark k ++ run_marks rs) ≡ run_with r.letter k r.mark ∷ rs
    go zero some = let z : ⊥ = omega arith in absurd z
    go (suc k) some = stretch r.letter k r.mark (run_letters rs) (run_marks rs) rs h e

after_back : (x : ℕ) (rs : List Run) → RunsAfter x rs → runs_of (run_letters rs) (run_marks rs) ≡ rs
after_back x [] h = refl
after_back x (r ∷ rs) h = back_run r rs h.1 h.3 (after_back r.letter rs h.3)

-- The runs of the tableau that runs make are these runs.
pub runs_tableau_runs : (rs : List Run) → Runs rs → runs_of (run_letters rs) (run_marks rs) ≡ rs
runs_tableau_runs [] h = refl
runs_tableau_runs (r ∷ rs) h = back_run r rs h.0 h.2 (after_back r.letter rs h.2)

-- ---- how many cells

-- As many letters as cells, whatever the runs are,
pub runs_length : (rs : List Run) → run_cells rs ≡ length (run_letters rs)
runs_length [] = refl
runs_length (r ∷ rs) =
    sym (length-append (replicate r.times r.letter) (run_letters rs) ∙ ap₂ ◌+◌ (length-replicate r.times r.letter) (sym (runs_length rs)))

run_marks_length : (m k : ℕ) → length (marks_of_run m k) ≡ k
run_marks_length m zero = refl
run_marks_length m (suc k) = ap suc (length-replicate {A = ℕ} k 0)

-- and as many marks.
pub runs_marks_length : (rs : List Run) → run_cells rs ≡ length (run_marks rs)
runs_marks_length [] = refl
runs_marks_length (r ∷ rs) =
    sym (length-append (marks_of_run r.mark r.times) (run_marks rs) ∙ ap₂ ◌+◌ (run_marks_length r.mark r.times) (sym (runs_marks_length rs)))

-- The runs of a tableau have as many cells as it has letters.
pub tableau_runs_length : (xs ms : List ℕ) → Tableau xs ms → run_cells (runs_of xs ms) ≡ length xs
tableau_runs_length xs ms h = runs_length (runs_of xs ms) ∙ ap length (tableau_runs_tableau xs ms h).0
