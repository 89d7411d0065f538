-- A line determines its values: w_determined, t_determined, c_determined, p_determined, n_determined, j_determined, e_determined.
-- They hold of all numbers; of runs only the marks are asked.
-- Assumes nothing.
use Prim.Native.Nat.{ℕ, zero, suc, ◌≤◌}
use mathlib.Core.Path.{◌≡◌, refl, sym, ap, ◌∙◌}
use mathlib.Core.Bool.{true, true≢false}
use mathlib.Core.List.{List, [], ◌∷◌, ◌++◌, append_assoc}
use native.Mathlib.Omega.{arith}
use lib.ListN.{length, drop, get_or}
use Rattle.grammar.specs.Numbers.{decimal}
use Rattle.grammar.specs.Lines.{Run, field, items, step, first_cell, cell, cells, first_run, later_run, w_line, t_line, c_line, p_line, n_line, j_line, e_line}
use Rattle.grammar.specs.Values.{Items, Stepped, Marked, MarkedRuns}
use Rattle.grammar.specs.Reading.{letters, marks, feed_next}
use Rattle.grammar.proofs.Theory.Items.{items_open, Cell, First, stepped, cells-length, cells-letters, cells-marks, ribbon_good}
use Rattle.grammar.proofs.Theory.Numbers.{Ends, decimal_cut}
use Rattle.grammar.proofs.Theory.UntilFeed.{Past}

-- What a writer gives of good values begins with no digit, and where no digit follows it determines the value and what follows.
record Cut {A : Type 0} (Good : A → Type 0) (put : A → List ℕ) : Type 0 where
  cut : (a b : A) (s t : List ℕ) → Good a → Good b → Ends s → Ends t → put a ++ s ≡ put b ++ t → (a ≡ b) × (s ≡ t)
  opens : (a : A) (t : List ℕ) → Ends (put a ++ t)

-- As many items determine the list of them and what follows.
items_cut : {A : Type 0} {P Q : A → Type 0} {p q : A → List ℕ} → Cut P p → Cut Q q → (l k : List A) (s t : List ℕ)
    → length l ≡ length k → Items P Q l → Items P Q k → Ends s → Ends t → items p q l ++ s ≡ items p q k ++ t → (l ≡ k) × (s ≡ t)
items_cut f g [] [] s t n x y d e h = (refl, h)
items_cut f g [] (b ∷ k) s t n x y d e h = let z : ⊥ = omega arith in absurd z
items_cut f g (a ∷ l) [] s t n x y d e h = let z : ⊥ = omega arith in absurd z
items_cut {p} {q} f g (a ∷ l) (b ∷ k) s t n x y d e h =
    let head : (a ≡ b) × (items q q l ++ s ≡ items q q k ++ t) =
    f.cut a b (items q q l ++ s) (items q q k ++ t) x.0 y.0 (items_open q q g.opens l s d) (items_open q q g.opens k t e)
    (sym (append_assoc (p a) (items q q l) s) ∙ h ∙ append_assoc (p b) (items q q k) t) in
    let rest : (l ≡ k) × (s ≡ t) = items_cut g g l k s t (omega arith) x.1 y.1 d e head.1 in
    (cc, rest.1)

-- Items before the line feed determine the list of them, however many there are.
fed_cut : {A : Type 0} {P Q : A → Type 0} {p q : A → List ℕ} → Cut P p → Cut Q q → Past p → Past q → (l k : List A) (s t : List ℕ)
    → Items P Q l → Items P Q k → feed_next s ≡ true → feed_next t ≡ true → Ends s → Ends t → items p q l ++ s ≡ items p q k ++ t → l ≡ k
fed_cut f g c o [] [] s t x y u v d e h = refl
fed_cut {p} {q} f g c o [] (b ∷ k) s t x y u v d e h = absurd (true≢false (sym u ∙ ap feed_next (h ∙ append_assoc (p b) (items q q k) t) ∙ c b (items q q k ++ t)))
fed_cut {p} {q} f g c o (a ∷ l) [] s t x y u v d e h = absurd (true≢false (sym v ∙ ap feed_next (sym h ∙ append_assoc (p a) (items q q l) s) ∙ c a (items q q l ++ s)))
fed_cut {p} {q} f g c o (a ∷ l) (b ∷ k) s t x y u v d e h =
    let head : (a ≡ b) × (items q q l ++ s ≡ items q q k ++ t) =
    f.cut a b (items q q l ++ s) (items q q k ++ t) x.0 y.0 (items_open q q g.opens l s d) (items_open q q g.opens k t e)
    (sym (append_assoc (p a) (items q q l) s) ∙ h ∙ append_assoc (p b) (items q q k) t) in
    let rest : l ≡ k = fed_cut g g o o l k s t x.1 y.1 u v d e head.1 in
    λ i. head.0 i ∷ rest i

-- A number's field and what follows it.
field_cut : (n m : ℕ) (b c s t : List ℕ) → Ends (b ++ s) → Ends (c ++ t) → field n ++ b ++ s ≡ field m ++ c ++ t → (n ≡ m) × (b ++ s ≡ c ++ t)
field_cut n m b c s t d e h =
    decimal_cut n m (b ++ s) (c ++ t) d e (sym (append_assoc (decimal n) b s) ∙ ap (drop 1) h ∙ append_assoc (decimal m) c t)

-- A count and its items.
counted_cut : {A : Type 0} {P Q : A → Type 0} {p q : A → List ℕ} → Cut P p → Cut Q q → (l k : List A) (s t : List ℕ)
    → Items P Q l → Items P Q k → Ends s → Ends t → field (length l) ++ items p q l ++ s ≡ field (length k) ++ items p q k ++ t → (l ≡ k) × (s ≡ t)
counted_cut {p} {q} f g l k s t x y d e h =
    let head : (length l ≡ length k) × (items p q l ++ s ≡ items p q k ++ t) =
    field_cut (length l) (length k) (items p q l) (items p q k) s t (items_open p q f.opens l s d) (items_open p q f.opens k t e) h in
    items_cut f g l k s t head.0 x y d e head.1

-- One count and its items of both sorts.
counted_twice_cut : {A B : Type 0} {P Q : A → Type 0} {R : B → Type 0} {p q : A → List ℕ} {o : B → List ℕ} → Cut P p → Cut Q q → Cut R o
    → (l k : List A) (u v : List B) (s t : List ℕ) → length u ≡ length l → length v ≡ length k → Items P Q l → Items P Q k → Items R R u → Items R R v → Ends s → Ends t
    → field (length l) ++ (items p q l ++ items o o u) ++ s ≡ field (length k) ++ (items p q k ++ items o o v) ++ t → (l ≡ k) × (u ≡ v)
counted_twice_cut {p} {q} {o} f g h l k u v s t n m x y z w d e eq =
    let after_l : Ends (items o o u ++ s) = items_open o o h.opens u s d in
    let after_k : Ends (items o o v ++ t) = items_open o o h.opens v t e in
    let opens_l : Ends ((items p q l ++ items o o u) ++ s) = rw append_assoc (items_open p q f.opens l (items o o u ++ s) after_l) in
    let opens_k : Ends ((items p q k ++ items o o v) ++ t) = rw append_assoc (items_open p q f.opens k (items o o v ++ t) after_k) in
    let head : (length l ≡ length k) × ((items p q l ++ items o o u) ++ s ≡ (items p q k ++ items o o v) ++ t) =
    field_cut (length l) (length k) (items p q l ++ items o o u) (items p q k ++ items o o v) s t opens_l opens_k eq in
    let one : (l ≡ k) × (items o o u ++ s ≡ items o o v ++ t) =
    items_cut f g l k (items o o u ++ s) (items o o v ++ t) head.0 x y after_l after_k
    (sym (append_assoc (items p q l) (items o o u) s) ∙ head.1 ∙ append_assoc (items p q k) (items o o v) t) in
    (one.0, (items_cut h h u v s t (n ∙ head.0 ∙ sym m) z w d e one.1).0)

-- Any number, any list of numbers.
abbrev Any : ℕ → Type 0
Any n = Unit

any : (xs : List ℕ) → Items Any Any xs
any [] = tt
any (x ∷ xs) = (tt, any xs)

field_cuts : Cut Any field
field_cuts = record { cut = λ n m s t x y d e h. decimal_cut n m s t d e (ap (drop 1) h); opens = λ n t. refl }

-- Cells of one letter and one mark, and what follows them.
cell_cut : (a b : ℕ × ℕ) (s t : List ℕ) → Ends s → Ends t → decimal a.0 ++ s ≡ decimal b.0 ++ t → a.1 ≡ b.1 → (a ≡ b) × (s ≡ t)
cell_cut a b s t d e h m = let r : (a.0 ≡ b.0) × (s ≡ t) = decimal_cut a.0 b.0 s t d e h in (λ i. (r.0 i, m i), r.1)

-- A step's letter tells the mark.
step_mark : (m k : ℕ) → m ≤ 1 → k ≤ 1 → step m ≡ step k → m ≡ k
step_mark zero zero h g e = refl
step_mark zero (suc k) h g e = let z : ⊥ = omega arith in absurd z
step_mark (suc m) zero h g e = let z : ⊥ = omega arith in absurd z
step_mark (suc m) (suc k) h g e = omega arith

first_cuts : Cut (First Any) first_cell
first_cuts = record { cut = λ a b s t x y d e h. cell_cut a b s t d e (ap (drop 1) h) (x.1 ∙ sym y.1); opens = λ a t. refl }

cell_cuts : Cut (Cell Any) cell
cell_cuts =
    record {
      cut = λ a b s t x y d e h.
          cell_cut a b s t d e (ap (drop 3) h) (step_mark a.1 b.1 x.1 y.1 (ap (λ (l : List ℕ). get_or l 1 0) h));
      opens = λ a t. refl;
    }

-- A run: a cell, then how often its letter stands.
run_cuts : (M : ℕ → Type 0) (put : ℕ × ℕ → List ℕ) → Cut (λ c. Any c.0 × M c.1) put
    → Cut (λ (r : Run). M r.mark) (λ r. put (r.letter, r.mark) ++ field r.times)
run_cuts M put f =
    record {
      cut = λ a b s t x y d e h.
          let r : ◌≡◌ {A = ℕ × ℕ} (a.letter, a.mark) (b.letter, b.mark) × (field a.times ++ s ≡ field b.times ++ t) =
          f.cut (a.letter, a.mark) (b.letter, b.mark) (field a.times ++ s) (field b.times ++ t) (tt, x) (tt, y) refl refl
          (sym (append_assoc (put (a.letter, a.mark)) (field a.times) s) ∙ h ∙ append_assoc (put (b.letter, b.mark)) (field b.times) t) in
          let n : (a.times ≡ b.times) × (s ≡ t) = decimal_cut a.times b.times s t d e (ap (drop 1) r.1) in
          (λ i. record { letter = (r.0 i).0; times = n.0 i; mark = (r.0 i).1 }, n.1);
      opens = λ r t. rw append_assoc (f.opens (r.letter, r.mark) (field r.times ++ t));
    }

-- A number, a count and its items, up to the line feed.
ranked_cut : {A : Type 0} {P Q : A → Type 0} {p q : A → List ℕ} → Cut P p → Cut Q q → (n m : ℕ) (l k : List A) → Items P Q l → Items P Q k
    → field n ++ (field (length l) ++ items p q l) ++ (10 ∷ []) ≡ field m ++ (field (length k) ++ items p q k) ++ (10 ∷ []) → (n ≡ m) × (l ≡ k)
ranked_cut {p} {q} f g n m l k x y h =
    let r : (n ≡ m) × (field (length l) ++ items p q l ++ (10 ∷ []) ≡ field (length k) ++ items p q k ++ (10 ∷ [])) =
    field_cut n m (field (length l) ++ items p q l) (field (length k) ++ items p q k) (10 ∷ []) (10 ∷ []) refl refl h in
    (r.0, (counted_cut f g l k (10 ∷ []) (10 ∷ []) x y refl refl r.1).0)

-- Two numbers, up to the line feed.
two_cut : (a b c d : ℕ) → field a ++ field b ++ (10 ∷ []) ≡ field c ++ field d ++ (10 ∷ []) → (a ≡ c) × (b ≡ d)
two_cut a b c d h =
    let r : (a ≡ c) × (field b ++ (10 ∷ []) ≡ field d ++ (10 ∷ [])) = field_cut a c (field b) (field d) (10 ∷ []) (10 ∷ []) refl refl h in
    (r.0, (field_cuts.cut b d (10 ∷ []) (10 ∷ []) tt tt refl refl r.1).0)

-- A W line determines rank and letters.
pub w_determined : (n m : ℕ) (u v : List ℕ) → w_line n u ≡ w_line m v → (n ≡ m) × (u ≡ v)
unfolding w_line
w_determined n m u v h = ranked_cut field_cuts field_cuts n m u v (any u) (any v) (ap (drop 1) h)

-- A T line determines rank, letters and marks.
pub t_determined : (n m : ℕ) (xs ys ms ns : List ℕ) → Marked xs ms → Marked ys ns → t_line n xs ms ≡ t_line m ys ns → (n ≡ m) × (xs ≡ ys) × (ms ≡ ns)
unfolding t_line
t_determined n m xs ys ms ns x y h =
    let s : Stepped xs ms = stepped xs ms x in
    let z : Stepped ys ns = stepped ys ns y in
    let d : length (cells xs ms) ≡ length xs = cells-length xs ms s in
    let e : length (cells ys ns) ≡ length ys = cells-length ys ns z in
    let r : (n ≡ m) × (cells xs ms ≡ cells ys ns) =
    ranked_cut first_cuts cell_cuts n m (cells xs ms) (cells ys ns) (ribbon_good Any xs ms (any xs) x) (ribbon_good Any ys ns (any ys) y) (rw (d, e) (ap (drop 1) h)) in (
      r.0,
      sym (cells-letters xs ms s) ∙ ap letters r.1 ∙ cells-letters ys ns z,
      sym (cells-marks xs ms s) ∙ ap marks r.1 ∙ cells-marks ys ns z,
    )

-- A C line determines rank, number of cells and runs.
pub c_determined : (n m k j : ℕ) (rs ss : List Run) → MarkedRuns rs → MarkedRuns ss → c_line n k rs ≡ c_line m j ss → (n ≡ m) × (k ≡ j) × (rs ≡ ss)
unfolding c_line
c_determined n m k j rs ss x y h =
    let a : List ℕ = items first_run later_run rs in
    let b : List ℕ = items first_run later_run ss in
    let one : (n ≡ m) × (field k ++ a ++ (10 ∷ []) ≡ field j ++ b ++ (10 ∷ [])) =
    field_cut n m (field k ++ a) (field j ++ b) (10 ∷ []) (10 ∷ []) refl refl (ap (drop 1) h) in
    let first : Cut (λ (r : Run). r.mark ≡ 0) first_run = run_cuts (λ m. m ≡ 0) first_cell first_cuts in
    let later : Cut (λ (r : Run). r.mark ≤ 1) later_run = run_cuts (λ m. m ≤ 1) cell cell_cuts in
    let two : (k ≡ j) × (a ++ (10 ∷ []) ≡ b ++ (10 ∷ [])) =
    field_cut k j a b (10 ∷ []) (10 ∷ []) (items_open first_run later_run first.opens rs (10 ∷ []) refl)
    (items_open first_run later_run first.opens ss (10 ∷ []) refl) one.1 in
    (one.0, two.0, fed_cut first later (λ r t. refl) (λ r t. refl) rs ss (10 ∷ []) (10 ∷ []) x y refl refl refl refl two.1)

-- A P line determines rank, letters, marks and entries.
pub p_determined : (n m : ℕ) (xs ys ms ns rs ss : List ℕ) → Marked xs ms → Marked ys ns → length rs ≡ length xs → length ss ≡ length ys
    → p_line n xs ms rs ≡ p_line m ys ns ss → (n ≡ m) × (xs ≡ ys) × (ms ≡ ns) × (rs ≡ ss)
unfolding p_line
p_determined n m xs ys ms ns rs ss x y k l h =
    let s : Stepped xs ms = stepped xs ms x in
    let z : Stepped ys ns = stepped ys ns y in
    let d : length (cells xs ms) ≡ length xs = cells-length xs ms s in
    let e : length (cells ys ns) ≡ length ys = cells-length ys ns z in
    let a : List ℕ = items first_cell cell (cells xs ms) ++ items field field rs in
    let b : List ℕ = items first_cell cell (cells ys ns) ++ items field field ss in
    let r : (n ≡ m) × (field (length (cells xs ms)) ++ a ++ (10 ∷ []) ≡ field (length (cells ys ns)) ++ b ++ (10 ∷ [])) =
    field_cut n m (field (length (cells xs ms)) ++ a) (field (length (cells ys ns)) ++ b) (10 ∷ []) (10 ∷ []) refl refl (rw (d, e) (ap (drop 1) h)) in
    let parts : (cells xs ms ≡ cells ys ns) × (rs ≡ ss) =
    counted_twice_cut first_cuts cell_cuts field_cuts (cells xs ms) (cells ys ns) rs ss (10 ∷ []) (10 ∷ []) (k ∙ sym d) (l ∙ sym e)
    (ribbon_good Any xs ms (any xs) x) (ribbon_good Any ys ns (any ys) y) (any rs) (any ss) refl refl r.1 in (
      r.0,
      sym (cells-letters xs ms s) ∙ ap letters parts.0 ∙ cells-letters ys ns z,
      sym (cells-marks xs ms s) ∙ ap marks parts.0 ∙ cells-marks ys ns z,
      parts.1,
    )

-- An N line determines its entries.
pub n_determined : (u v : List ℕ) → n_line u ≡ n_line v → u ≡ v
unfolding n_line
n_determined u v h = (counted_cut field_cuts field_cuts u v (10 ∷ []) (10 ∷ []) (any u) (any v) refl refl (ap (drop 1) h)).0

-- A J line determines junction set and rows.
pub j_determined : (a b c d : ℕ) → j_line a b ≡ j_line c d → (a ≡ c) × (b ≡ d)
unfolding j_line
j_determined a b c d h = two_cut a b c d (ap (drop 1) h)

-- An E line determines number and place.
pub e_determined : (a b c d : ℕ) → e_line a b ≡ e_line c d → (a ≡ c) × (b ≡ d)
unfolding e_line
e_determined a b c d h = two_cut a b c d (ap (drop 1) h)
