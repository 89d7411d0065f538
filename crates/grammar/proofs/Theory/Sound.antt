-- What the grammar takes is the line of its values, which a line can hold, and nothing is left: w_sound, t_sound, c_sound, p_sound, n_sound.
-- Assumes nothing.
use Prim.Native.Nat.{ℕ}
use mathlib.Core.Path.{◌≡◌, refl, sym, ap, ◌∙◌}
use mathlib.Core.Bool.{Bool, true, false, cond}
use mathlib.Core.List.{List, [], ◌∷◌, ◌++◌, append-nil}
use lib.ListN.{length}
use lib.Dec.{eqb}
use Rattle.grammar.specs.Lines.{Run, w_line, t_line, c_line, p_line, n_line}
use Rattle.grammar.specs.Values.{Items, Short, Small, Marked, CGood}
use Rattle.grammar.specs.Reading.{Read, got, broken, turned, onward, both, after, ended, read_line, counted, counted_twice, ranked, read_field, read_first, read_cell, read_runs, letters, marks, read_w, read_t, read_c, read_p, read_n}
use Rattle.grammar.proofs.Theory.Exact.{Exact, not_both}
use Rattle.grammar.proofs.Theory.LinesExact.{w_exact, t_exact, c_exact, p_exact, n_exact}

-- A reader that leaves nothing.
record Last {A : Type 0} (get : List ℕ → Read A) : Type 0 where
  last : (t : List ℕ) (a : A) (rest : List ℕ) → get t ≡ got a rest → rest ≡ []

ended_last : Last ended
ended_last = record { last = go }
  where
    go : (t : List ℕ) (u : Unit {0}) (rest : List ℕ) → ended t ≡ got u rest → rest ≡ []
    go [] u rest h = cc
    go (b ∷ t) u rest h = absurd (not_both (sym h))

after_last : {A : Type 0} {get : List ℕ → Read A} (k : ℕ) → Last get → Last (after k get)
after_last {A} {get} k f = record { last = go }
  where
    choose : (x : Bool) (b : ℕ) (t : List ℕ) (a : A) (rest : List ℕ) → cond x (get t) (broken (b ∷ t)) ≡ got a rest → rest ≡ []
    choose true b t a rest h = f.last t a rest h
    choose false b t a rest h = absurd (not_both (sym h))

    go : (t : List ℕ) (a : A) (rest : List ℕ) → after k get t ≡ got a rest → rest ≡ []
    go [] a rest h = absurd (not_both (sym h))
    go (b ∷ t) a rest h = choose (eqb b k) b t a rest h

both_last : {A B C : Type 0} (join : A → B → C) (r : List ℕ → Read A) {s : A → List ℕ → Read B} → ((a : A) → Last (s a)) → Last (both join r s)
both_last {A} {B} {C} join r {s} f = record { last = λ t c rest h. first (r t) c rest h }
  where
    second : (a : A) (u : List ℕ) (y : Read B) → s a u ≡ y → (c : C) (rest : List ℕ) → turned (join a) y ≡ got c rest → rest ≡ []
    second a u (got b v) e c rest h = let x : v ≡ rest = cc in (f a).last u b rest (rw x at e)
    second a u (broken v) e c rest h = absurd (not_both (sym h))

    first : (x : Read A) (c : C) (rest : List ℕ) → onward join s x ≡ got c rest → rest ≡ []
    first (got a u) c rest h = second a u (s a u) refl c rest h
    first (broken u) c rest h = absurd (not_both (sym h))

-- A whole line leaves nothing.
line_last : {A : Type 0} (kind : ℕ) (r : List ℕ → Read A) → Last (read_line kind r)
line_last kind r = after_last kind (both_last (λ a u. a) r (λ a. after_last 10 ended_last))

-- So the text is what is written of the value.
whole_sound : {A : Type 0} {Good : A → Type 0} {put : A → List ℕ} {get : List ℕ → Read A} → Exact Good put get → Last get
    → (text : List ℕ) (a : A) (rest : List ℕ) → get text ≡ got a rest → (text ≡ put a) × (rest ≡ []) × Good a
whole_sound {put} f l text a rest h =
    let r = f.sound text a rest h in
    let e : rest ≡ [] = l.last text a rest h in
    (r.1 ∙ ap (λ (s : List ℕ). put a ++ s) e ∙ append-nil (put a), e, r.0)

-- A text taken as a W line is the W line of its values.
pub w_sound : (text : List ℕ) (n : ℕ) (ws rest : List ℕ) → read_w text ≡ got (n, ws) rest → (text ≡ w_line n ws) × (rest ≡ []) × Short n × Small ws
unfolding read_w
w_sound text n ws rest h =
    let r : (text ≡ w_line n ws) × (rest ≡ []) × (Short n × Small ws) =
    whole_sound w_exact (line_last 87 (ranked (λ n ws. (n, ws)) read_field read_field)) text (n, ws) rest h in
    (r.0, r.1, r.2.0, r.2.1)

-- A text taken as a T line is the T line of its values.
pub t_sound : (text : List ℕ) (n : ℕ) (xs ms rest : List ℕ) → read_t text ≡ got (n, xs, ms) rest
    → (text ≡ t_line n xs ms) × (rest ≡ []) × Short n × Small xs × Marked xs ms
unfolding read_t
t_sound text n xs ms rest h =
    let r : (text ≡ t_line n xs ms) × (rest ≡ []) × (Short n × Small xs × Marked xs ms) =
    whole_sound t_exact (line_last 84 (ranked (λ n cs. (n, letters cs, marks cs)) read_first read_cell)) text (n, xs, ms) rest h in
    (r.0, r.1, r.2.0, r.2.1, r.2.2)

-- A text taken as a C line is the C line of its values.
pub c_sound : (text : List ℕ) (n k : ℕ) (rs : List Run) (rest : List ℕ) → read_c text ≡ got (n, k, rs) rest → (text ≡ c_line n k rs) × (rest ≡ []) × CGood (n, k, rs)
unfolding read_c
c_sound text n k rs rest h =
    whole_sound c_exact (line_last 67 (both (λ n v. (n, v.0, v.1)) read_field (λ n. both {C = ℕ × List Run} (λ k rs. (k, rs)) read_field (λ k. read_runs))))
    text (n, k, rs) rest h

-- A text taken as a P line is the P line of its values, with as many entries as letters.
pub p_sound : (text : List ℕ) (n : ℕ) (xs ms rs rest : List ℕ) → read_p text ≡ got (n, xs, ms, rs) rest
    → (text ≡ p_line n xs ms rs) × (rest ≡ []) × Short n × Small xs × Marked xs ms × (length rs ≡ length xs) × Items Short Short rs
unfolding read_p
p_sound text n xs ms rs rest h =
    let r : (text ≡ p_line n xs ms rs) × (rest ≡ []) × (Short n × Small xs × Marked xs ms × (length rs ≡ length xs) × Items Short Short rs) =
    whole_sound p_exact (line_last 80 (both (λ n parts. (n, letters parts.0, marks parts.0, parts.1)) read_field (λ n. counted_twice read_first read_cell read_field)))
    text (n, xs, ms, rs) rest h in
    (r.0, r.1, r.2.0, r.2.1, r.2.2, r.2.3, r.2.4)

-- A text taken as an N line is the N line of its entries.
pub n_sound : (text xs rest : List ℕ) → read_n text ≡ got xs rest → (text ≡ n_line xs) × (rest ≡ []) × Small xs
unfolding read_n
n_sound text xs rest h = whole_sound n_exact (line_last 78 (counted read_field read_field)) text xs rest h
