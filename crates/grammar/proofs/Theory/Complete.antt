-- What a line's definition gives, the grammar reads back: w_complete, t_complete, c_complete, p_complete, n_complete.
-- Assumes nothing.
use Prim.Native.Nat.{ℕ, zero, suc, ◌≤◌}
use mathlib.Core.Path.{◌≡◌, refl, sym, ap, ◌∙◌, subst}
use mathlib.Core.Bool.{true}
use mathlib.Core.List.{List, [], ◌∷◌, ◌++◌, append_assoc}
use native.Mathlib.Omega.{arith}
use borrow.Author.Tests.{eq-eqb}
use lib.ListN.{length}
use Rattle.grammar.specs.Numbers.{decimal}
use Rattle.grammar.specs.Lines.{Run, line, field, items, step, first_cell, cell, cells, first_run, later_run, w_line, t_line, c_line, p_line, n_line}
use Rattle.grammar.specs.Values.{Items, Short, Small, Stepped, Marked, RunWith, CGood}
use Rattle.grammar.specs.Reading.{Read, got, read_field, read_step, read_first, read_cell, read_run_by, read_runs, letters, marks, read_w, read_t, read_c, read_p, read_n, both, many, feed_next, until_feed, read_line, counted, twice, counted_twice, ranked}
use Rattle.grammar.proofs.Theory.Items.{items_open, Cell, First, stepped, cells-length, cells-letters, cells-marks, ribbon_good}
use Rattle.grammar.proofs.Theory.Numbers.{Ends, number_read}
use Rattle.grammar.proofs.Theory.UntilFeed.{Past, Settled}
use Rattle.grammar.proofs.Theory.LinesExact.{runs_same}

-- A reader of items takes what a writer gives of good values where no digit follows, and what is written begins with no digit.
pub record Complete {A : Type 0} (Good : A → Type 0) (put : A → List ℕ) (get : List ℕ → Read A) : Type 0 where
  pub reads : (a : A) (t : List ℕ) → Good a → Ends t → get (put a ++ t) ≡ got a t
  pub opens : (a : A) (t : List ℕ) → Ends (put a ++ t)

-- So many items are read back.
many_complete : {A : Type 0} {P Q : A → Type 0} {p q : A → List ℕ} {r s : List ℕ → Read A} → Complete P p r → Complete Q q s
    → (l : List A) (t : List ℕ) → Items P Q l → Ends t → many r s (length l) (items p q l ++ t) ≡ got l t
many_complete f g [] t h e = refl
many_complete {p} {q} f g (a ∷ l) t h e =
    rw (append_assoc, f.reads a (items q q l ++ t) h.0 (items_open q q g.opens l t e), many_complete g g l t h.1 e)

-- Items before the line feed are read back, where one more is allowed than there are.
until_complete : {A : Type 0} {P Q : A → Type 0} {p q : A → List ℕ} {r s : List ℕ → Read A} → Complete P p r → Complete Q q s → Past p → Past q
    → (l : List A) (t : List ℕ) → Items P Q l → feed_next t ≡ true → Ends t → until_feed r s (suc (length l)) (items p q l ++ t) ≡ got l t
until_complete f g c d [] t h x e = rw x
until_complete {p} {q} f g c d (a ∷ l) t h x e =
    rw (append_assoc, c a (items q q l ++ t), f.reads a (items q q l ++ t) h.0 (items_open q q g.opens l t e), until_complete g g d d l t h.1 x e)

field_complete : Complete Short field read_field
field_complete = record { reads = number_read; opens = λ a t. refl }

-- A number and what depends on it are read back.
onward_complete : {B C : Type 0} (j : ℕ → B → C) (second : ℕ → List ℕ → Read B) (n : ℕ) (body t : List ℕ) (b : B)
    → Short n → Ends (body ++ t) → second n (body ++ t) ≡ got b t → both j read_field second (field n ++ body ++ t) ≡ got (j n b) t
onward_complete j second n body t b h e g = rw (append_assoc (decimal n) body t, number_read n (body ++ t) h e, g)

-- A count and its items are read back.
counted_complete : {A : Type 0} {P Q : A → Type 0} {p q : A → List ℕ} {r s : List ℕ → Read A} → Complete P p r → Complete Q q s
    → (l : List A) (t : List ℕ) → Short (length l) → Items P Q l → Ends t → counted r s (field (length l) ++ items p q l ++ t) ≡ got l t
counted_complete {p} {q} {r} {s} f g l t k h e =
    onward_complete (λ n a. a) (many r s) (length l) (items p q l) t l k (items_open p q f.opens l t e) (many_complete f g l t h e)

-- So many items of one sort and as many of another are read back.
twice_complete : {A B : Type 0} {P Q : A → Type 0} {R : B → Type 0} {p q : A → List ℕ} {o : B → List ℕ} {r s : List ℕ → Read A} {u : List ℕ → Read B}
    → Complete P p r → Complete Q q s → Complete R o u → (l : List A) (k : List B) (t : List ℕ) → length k ≡ length l → Items P Q l → Items R R k → Ends t
    → twice r s u (length l) ((items p q l ++ items o o k) ++ t) ≡ got (l, k) t
twice_complete {p} {q} {o} f g h l k t d x y e =
    rw (append_assoc, many_complete f g l (items o o k ++ t) x (items_open o o h.opens k t e), ← d, many_complete h h k t y e)

-- One count and its items of both sorts are read back.
counted_twice_complete : {A B : Type 0} {P Q : A → Type 0} {R : B → Type 0} {p q : A → List ℕ} {o : B → List ℕ} {r s : List ℕ → Read A} {u : List ℕ → Read B}
    → Complete P p r → Complete Q q s → Complete R o u → (l : List A) (k : List B) (t : List ℕ) → length k ≡ length l → Short (length l) → Items P Q l → Items R R k → Ends t
    → counted_twice r s u (field (length l) ++ (items p q l ++ items o o k) ++ t) ≡ got (l, k) t
counted_twice_complete {p} {q} {o} {r} {s} {u} f g h l k t d n x y e =
    let opened : Ends ((items p q l ++ items o o k) ++ t) =
    rw (append_assoc) (items_open p q f.opens l (items o o k ++ t) (items_open o o h.opens k t e)) in
    onward_complete (λ n a. a) (twice r s u) (length l) (items p q l ++ items o o k) t (l, k) n opened (twice_complete f g h l k t d x y e)

-- What a reader takes up to the line feed is read from the whole line.
line_complete : {A : Type 0} (kind : ℕ) (r : List ℕ → Read A) (body : List ℕ) (a : A) → r (body ++ (10 ∷ [])) ≡ got a (10 ∷ []) → read_line kind r (line kind body) ≡ got a []
line_complete kind r body a h = rw (eq-eqb kind kind refl, h)

-- A rank, a count and its items are read back.
ranked_complete : {A B : Type 0} {P Q : A → Type 0} {p q : A → List ℕ} {r s : List ℕ → Read A} → Complete P p r → Complete Q q s
    → (join : ℕ → List A → B) (n : ℕ) (l : List A) (t : List ℕ) → Short n → Short (length l) → Items P Q l → Ends t
    → ranked join r s (field n ++ (field (length l) ++ items p q l) ++ t) ≡ got (join n l) t
ranked_complete {p} {q} {r} {s} f g join n l t k h x e =
    onward_complete join (λ m. counted r s) n (field (length l) ++ items p q l) t l k refl (counted_complete f g l t h x e)

step_read : (m : ℕ) (t : List ℕ) → m ≤ 1 → read_step (step m ∷ t) ≡ got m t
step_read zero t h = refl
step_read (suc zero) t h = refl
step_read (suc (suc m)) t h = let z : ⊥ = omega arith in absurd z

first_complete : Complete (First Short) first_cell read_first
first_complete =
    record {
      reads = λ c t h e. rw (number_read c.0 t h.0 e) (ap (λ (m : ℕ). got (c.0, m) t) (sym h.1));
      opens = λ c t. refl;
    }

cell_complete : Complete (Cell Short) cell read_cell
cell_complete =
    record {
      reads = λ c t h e. rw (step_read c.1 (field c.0 ++ t) h.1, number_read c.0 t h.0 e);
      opens = λ c t. refl;
    }

-- A run: a cell, then how often its letter stands.
run_complete : (M : ℕ → Type 0) (put : ℕ × ℕ → List ℕ) (get : List ℕ → Read (ℕ × ℕ)) → Complete (λ c. Short c.0 × M c.1) put get
    → Complete (RunWith M) (λ r. put (r.letter, r.mark) ++ field r.times) (read_run_by get)
run_complete M put get f =
    record {
      reads = λ r t h e.
          rw (append_assoc, f.reads (r.letter, r.mark) (field r.times ++ t) (h.0, h.2) refl, number_read r.times t h.1 e);
      opens = λ r t. rw append_assoc (f.opens (r.letter, r.mark) (field r.times ++ t));
    }

-- Runs before the line feed are read back.
runs_complete : (rs : List Run) (t : List ℕ) → Items (RunWith (λ m. m ≡ 0)) (RunWith (λ m. m ≤ 1)) rs → feed_next t ≡ true → Ends t
    → read_runs (items first_run later_run rs ++ t) ≡ got rs t
runs_complete rs t h x e =
    let text : List ℕ = items first_run later_run rs ++ t in
    let r : until_feed (read_run_by read_first) (read_run_by read_cell) (suc (length rs)) text ≡ got rs t =
    until_complete (run_complete (λ m. m ≡ 0) first_cell read_first first_complete) (run_complete (λ m. m ≤ 1) cell read_cell cell_complete)
    (λ r t. refl) (λ r t. refl) rs t h x e in
    runs_same (suc (length rs)) text (subst Settled (sym r) x) ∙ r

-- A number and runs.
abbrev sized_runs : List ℕ → Read (ℕ × List Run)
sized_runs = both {C = ℕ × List Run} (λ k rs. (k, rs)) read_field (λ k. read_runs)

-- W: rank and letters are read back from their line.
pub w_complete : (n : ℕ) (xs : List ℕ) → Short n → Small xs → read_w (w_line n xs) ≡ got (n, xs) []
unfolding w_line read_w
w_complete n xs k h =
    line_complete 87 (ranked (λ m a. (m, a)) read_field read_field) (field n ++ (field (length xs) ++ items field field xs)) (n, xs)
    (ranked_complete field_complete field_complete (λ m a. (m, a)) n xs (10 ∷ []) k h.0 h.1 refl)

-- T: rank, letters and marks are read back from their line.
pub t_complete : (n : ℕ) (xs ms : List ℕ) → Short n → Small xs → Marked xs ms → read_t (t_line n xs ms) ≡ got (n, xs, ms) []
unfolding t_line read_t
t_complete n xs ms k h m =
    let s : Stepped xs ms = stepped xs ms m in
    let e : length (cells xs ms) ≡ length xs = cells-length xs ms s in
    rw (← e)
    (line_complete 84 (ranked (λ m c. (m, letters c, marks c)) read_first read_cell) (field n ++ (field (length (cells xs ms)) ++ items first_cell cell (cells xs ms))) (n, xs, ms)
    (ranked_complete first_complete cell_complete (λ m c. (m, letters c, marks c)) n (cells xs ms) (10 ∷ []) k (rw e h.0) (ribbon_good Short xs ms h.1 m) refl
    ∙ rw (cells-letters xs ms s, cells-marks xs ms s)))

-- C: rank, number of cells and runs are read back from their line.
pub c_complete : (n k : ℕ) (rs : List Run) → CGood (n, k, rs) → read_c (c_line n k rs) ≡ got (n, k, rs) []
unfolding c_line read_c
c_complete n k rs h =
    let body : List ℕ = items first_run later_run rs in
    line_complete 67 (both (λ n v. (n, v.0, v.1)) read_field (λ n. sized_runs)) (field n ++ (field k ++ body)) (n, k, rs)
    (onward_complete (λ n (v : ℕ × List Run). (n, v.0, v.1)) (λ n. sized_runs) n (field k ++ body) (10 ∷ []) (k, rs) h.0 refl
    (onward_complete {C = ℕ × List Run} (λ k rs. (k, rs)) (λ k. read_runs) k body (10 ∷ []) rs h.1 (items_open first_run later_run (λ r t. refl) rs (10 ∷ []) refl)
    (runs_complete rs (10 ∷ []) h.2 refl refl)))

-- P: rank, letters, marks and entries are read back from their line.
pub p_complete : (n : ℕ) (xs ms rs : List ℕ) → Short n → Small xs → Marked xs ms → length rs ≡ length xs → Items Short Short rs
    → read_p (p_line n xs ms rs) ≡ got (n, xs, ms, rs) []
unfolding p_line read_p
p_complete n xs ms rs k h m d x =
    let s : Stepped xs ms = stepped xs ms m in
    let e : length (cells xs ms) ≡ length xs = cells-length xs ms s in
    let body : List ℕ = items first_cell cell (cells xs ms) ++ items field field rs in
    rw (← e)
    (line_complete 80 (both (λ n parts. (n, letters parts.0, marks parts.0, parts.1)) read_field (λ n. counted_twice read_first read_cell read_field))
    (field n ++ (field (length (cells xs ms)) ++ body)) (n, xs, ms, rs)
    (onward_complete (λ n parts. (n, letters parts.0, marks parts.0, parts.1)) (λ n. counted_twice read_first read_cell read_field) n
    (field (length (cells xs ms)) ++ body) (10 ∷ []) (cells xs ms, rs) k refl
    (counted_twice_complete first_complete cell_complete field_complete (cells xs ms) rs (10 ∷ []) (d ∙ sym e) (rw e h.0) (ribbon_good Short xs ms h.1 m) x refl)
    ∙ rw (cells-letters xs ms s, cells-marks xs ms s)))

-- N: entries are read back from their line.
pub n_complete : (xs : List ℕ) → Small xs → read_n (n_line xs) ≡ got xs []
unfolding n_line read_n
n_complete xs h =
    line_complete 78 (counted read_field read_field) (field (length xs) ++ items field field xs) xs
    (counted_complete field_complete field_complete xs (10 ∷ []) h.0 h.1 refl)
