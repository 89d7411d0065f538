-- Lines are read exactly: w_exact, t_exact, c_exact, p_exact, n_exact, from the exactness of numbers and steps.
--     runs_same     a settled reading of runs is read_runs, however many were allowed
-- Assumes nothing.
use Prim.Native.Nat.{ℕ, zero, suc, ◌≤◌}
use mathlib.Core.Path.{◌≡◌, refl, sym, ap, ◌∙◌}
use mathlib.Core.List.{List, [], ◌∷◌, ◌++◌, append-nil}
use lib.ListN.{length, length-map}
use Rattle.grammar.specs.Lines.{Run, line, field, items, first_cell, cell, cells, first_run, later_run, w_line, t_line, c_line, p_line, n_line}
use Rattle.grammar.specs.Values.{Items, Short, Small, Marked, RunWith, WGood, TGood, CGood, PGood}
use Rattle.grammar.specs.Reading.{Read, many, until_feed, counted, twice, counted_twice, read_line, read_first, read_cell, read_run_by, read_runs, letters, marks, read_w, read_t, read_c, read_p, read_n}
use Rattle.grammar.proofs.Theory.Items.{Cell, First, cells_of, ribbon_of}
use Rattle.grammar.proofs.Theory.Exact.{Exact, nothing_exact, ended_exact, after_exact, both_exact}
use Rattle.grammar.proofs.Theory.NumbersExact.{field_exact, step_exact}
use Rattle.grammar.proofs.Theory.UntilFeed.{Settled, settled_same, until_feed_exact}

-- So many items.
many_exact : {A : Type 0} {P Q : A → Type 0} {p q : A → List ℕ} {r s : List ℕ → Read A} → Exact P p r → Exact Q q s
    → (n : ℕ) → Exact (λ l. (length l ≡ n) × Items P Q l) (items p q) (many r s n)
many_exact {p} {q} f g zero = nothing_exact (items p q) [] (refl, tt) refl
many_exact {P} {Q} {p} {q} f g (suc n) =
    both_exact (λ l. (length l ≡ suc n) × Items P Q l) (items p q) ◌∷◌ f (λ a. many_exact g g n)
    (λ a l x y. ((ap suc y.0, (x, y.1)), refl))

-- A count and its items.
counted_exact : {A : Type 0} {P Q : A → Type 0} {p q : A → List ℕ} {r s : List ℕ → Read A} → Exact P p r → Exact Q q s
    → Exact (λ l. Short (length l) × Items P Q l) (λ l. field (length l) ++ items p q l) (counted r s)
counted_exact {P} {Q} {p} {q} f g =
    both_exact (λ l. Short (length l) × Items P Q l) (λ l. field (length l) ++ items p q l) (λ n l. l) field_exact (many_exact f g)
    (λ n l x y. ((rw y.0 x, y.1), rw y.0))

-- So many items of one sort, then as many of another.
twice_exact : {A B : Type 0} {P Q : A → Type 0} {R : B → Type 0} {p q : A → List ℕ} {o : B → List ℕ} {r s : List ℕ → Read A} {u : List ℕ → Read B}
    → Exact P p r → Exact Q q s → Exact R o u → (n : ℕ)
    → Exact (λ (v : List A × List B). (length v.0 ≡ n) × Items P Q v.0 × (length v.1 ≡ n) × Items R R v.1)
    (λ v. items p q v.0 ++ items o o v.1) (twice r s u n)
twice_exact {A} {B} {P} {Q} {R} {p} {q} {o} f g h n =
    both_exact (λ (v : List A × List B). (length v.0 ≡ n) × Items P Q v.0 × (length v.1 ≡ n) × Items R R v.1)
    (λ v. items p q v.0 ++ items o o v.1) (λ l k. (l, k)) (many_exact f g n) (λ l. many_exact h h n)
    (λ l k x y. ((x.0, x.1, y.0, y.1), refl))

-- One count, then so many items of each sort.
counted_twice_exact : {A B : Type 0} {P Q : A → Type 0} {R : B → Type 0} {p q : A → List ℕ} {o : B → List ℕ} {r s : List ℕ → Read A} {u : List ℕ → Read B}
    → Exact P p r → Exact Q q s → Exact R o u
    → Exact (λ (v : List A × List B). Short (length v.0) × Items P Q v.0 × (length v.1 ≡ length v.0) × Items R R v.1)
    (λ v. field (length v.0) ++ (items p q v.0 ++ items o o v.1)) (counted_twice r s u)
counted_twice_exact {A} {B} {P} {Q} {R} {p} {q} {o} f g h =
    both_exact (λ (v : List A × List B). Short (length v.0) × Items P Q v.0 × (length v.1 ≡ length v.0) × Items R R v.1)
    (λ v. field (length v.0) ++ (items p q v.0 ++ items o o v.1)) (λ n v. v) field_exact (twice_exact f g h)
    (λ n v x y. ((rw y.0 x, y.1, y.2 ∙ sym y.0, y.3), rw y.0))

-- The first cell and the others.
first_exact : Exact (First Short) first_cell read_first
first_exact =
    both_exact (First Short) first_cell (λ x m. (x, m)) field_exact (λ x. nothing_exact {Good = λ m. m ≡ 0} (λ m. []) 0 refl refl)
    (λ x m h g. ((h, g), sym (append-nil (field x))))

cell_exact : Exact (Cell Short) cell read_cell
cell_exact = both_exact (Cell Short) cell (λ m x. (x, m)) (after_exact 44 step_exact) (λ m. field_exact) (λ m x h g. ((g, h), refl))

-- A whole line.
line_exact : {A : Type 0} {P : A → Type 0} {p : A → List ℕ} {r : List ℕ → Read A} (kind : ℕ) → Exact P p r → Exact P (λ a. line kind (p a)) (read_line kind r)
line_exact {P} {p} kind f =
    after_exact kind (both_exact P (λ a. p a ++ (10 ∷ [])) (λ a u. a) f (λ a. after_exact 10 ended_exact) (λ a u h g. (h, refl)))

-- W lines and their exact reading.
pub w_exact : Exact WGood (λ v. w_line v.0 v.1) read_w
unfolding w_line read_w
w_exact =
    line_exact 87
    (both_exact WGood (λ v. field v.0 ++ (field (length v.1) ++ items field field v.1)) (λ n xs. (n, xs)) field_exact
    (λ n. counted_exact field_exact field_exact)
    (λ n xs h g. ((h, g), refl)))

-- T lines and their exact reading.
pub t_exact : Exact TGood (λ v. t_line v.0 v.1 v.2) read_t
unfolding t_line read_t
t_exact =
    line_exact 84
    (both_exact TGood (λ v. field v.0 ++ (field (length v.1) ++ items first_cell cell (cells v.1 v.2))) (λ n cs. (n, letters cs, marks cs)) field_exact
    (λ n. counted_exact first_exact cell_exact)
    (λ n cs h g.
    let r : Items Short Short (letters cs) × Marked (letters cs) (marks cs) = ribbon_of Short cs g.1 in
    let e : length (letters cs) ≡ length cs = length-map cs (λ c. c.0) in
    ((h, (rw e g.0, r.0), r.1), rw (e, cells_of cs))))

-- A run: a cell, then how often its letter stands.
run_exact : (M : ℕ → Type 0) (put : ℕ × ℕ → List ℕ) {get : List ℕ → Read (ℕ × ℕ)} → Exact (λ c. Short c.0 × M c.1) put get
    → Exact (RunWith M) (λ r. put (r.letter, r.mark) ++ field r.times) (read_run_by get)
run_exact M put f =
    both_exact (RunWith M) (λ r. put (r.letter, r.mark) ++ field r.times) (λ c k. record { letter = c.0; times = k; mark = c.1 }) f (λ c. field_exact)
    (λ c k x y. ((x.0, y, x.1), refl))

-- The first run and the others.
pub first_run_exact : Exact (RunWith (λ m. m ≡ 0)) first_run (read_run_by read_first)
first_run_exact = run_exact (λ m. m ≡ 0) first_cell first_exact

pub later_run_exact : Exact (RunWith (λ m. m ≤ 1)) later_run (read_run_by read_cell)
later_run_exact = run_exact (λ m. m ≤ 1) cell cell_exact

-- Runs up to the line feed, which no run opens with.
runs_exact : Exact (Items (RunWith (λ m. m ≡ 0)) (RunWith (λ m. m ≤ 1))) (items first_run later_run) read_runs
unfolding read_runs
runs_exact = until_feed_exact first_run_exact later_run_exact (λ r t. refl) (λ r t. refl)

-- However many were allowed.
pub runs_same : (k : ℕ) (t : List ℕ) → Settled (until_feed (read_run_by read_first) (read_run_by read_cell) k t)
    → read_runs t ≡ until_feed (read_run_by read_first) (read_run_by read_cell) k t
unfolding read_runs
runs_same = settled_same first_run_exact later_run_exact (λ r t. refl) (λ r t. refl)

-- C lines and their exact reading.
pub c_exact : Exact CGood (λ v. c_line v.0 v.1 v.2) read_c
unfolding c_line read_c
c_exact =
    line_exact 67
    (both_exact CGood (λ v. field v.0 ++ (field v.1 ++ items first_run later_run v.2)) (λ n v. (n, v.0, v.1)) field_exact
    (λ n. both_exact (λ (v : ℕ × List Run). Short v.0 × Items (RunWith (λ m. m ≡ 0)) (RunWith (λ m. m ≤ 1)) v.1)
    (λ v. field v.0 ++ items first_run later_run v.1) (λ k rs. (k, rs)) field_exact (λ k. runs_exact) (λ k rs h g. ((h, g), refl)))
    (λ n v h g. ((h, g.0, g.1), refl)))

-- P lines and their exact reading.
pub p_exact : Exact PGood (λ v. p_line v.0 v.1 v.2 v.3) read_p
unfolding p_line read_p
p_exact =
    line_exact 80
    (both_exact PGood (λ v. field v.0 ++ (field (length v.1) ++ (items first_cell cell (cells v.1 v.2) ++ items field field v.3)))
    (λ n parts. (n, letters parts.0, marks parts.0, parts.1)) field_exact (λ n. counted_twice_exact first_exact cell_exact field_exact)
    (λ n parts h g.
    let cs : List (ℕ × ℕ) = parts.0 in
    let r : Items Short Short (letters cs) × Marked (letters cs) (marks cs) = ribbon_of Short cs g.1 in
    let e : length (letters cs) ≡ length cs = length-map cs (λ c. c.0) in
    ((h, (rw e g.0, r.0), r.1, g.2 ∙ sym e, g.3), rw (e, cells_of cs))))

-- N lines and their exact reading.
pub n_exact : Exact Small n_line read_n
unfolding n_line read_n
n_exact = line_exact 78 (counted_exact field_exact field_exact)
