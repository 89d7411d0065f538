-- What rewriting keeps: joined words have each letter as often, and the same precedence of neighbouring letters; so they have one tableau.
-- Each rule exchanges one or two pairs x y of letters side by side, x < y, and beside each pair stands a letter b of the rule with x < b ≤ y to
-- its left or x ≤ b < y to its right. One lemma about such an exchange (kept_swap) serves all four rules.
--     Kept u v           u and v have equal counts, and equal before for every p < q between which no letter lies
--     tick_swap          two tests count in either order
--     kept_swap          an exchange of two letters with such a b beside them keeps both
--     joined_kept        a chain of steps keeps both
--     joined_count, joined_inversion, joined_tableau     so joined words have equal counts, equal inversions and one tableau
-- Assumes nothing.
use Prim.Native.Nat.{ℕ, suc, ◌≤◌, ◌<◌}
use mathlib.Core.Path.{◌≡◌, refl, sym, ap₂, ◌∙◌}
use mathlib.Core.List.{List, [], ◌∷◌, ◌++◌}
use mathlib.Core.Bool.{Bool, true, false, ◌&&◌, ◌||◌, and-false, or-true}
use mathlib.Core.Logic.{◌⊎◌, inl, inr}
use native.Mathlib.Omega.{arith}
use lib.Dec.{eqb}
use borrow.Author.Tests.{ltb-true, eq-eqb, ne_eqb, eqb-true}
use Rattle.hypoplactic.specs.Words.{tick, count, occurs, before}
use Rattle.hypoplactic.specs.Insertion.{letters_of, marks_of}
use Rattle.hypoplactic.specs.Rewriting.{Rule, acb_cab, bac_bca, cadb_acbd, bdac_dbca, Step, forth, back, Joined, same, via}
use Rattle.hypoplactic.proofs.Theory.Letters.{letters_same}
use Rattle.hypoplactic.proofs.Theory.Marks.{Apart, marks_same}
use Rattle.hypoplactic.proofs.Theory.Occurrences.{before_append, count_append, count_tail, occurs_count, occurs_same}
use Rattle.hypoplactic.proofs.Theory.Pairs.{le-or-lt}

-- Equal counts, and equal precedence of neighbouring letters.
pub record Kept (u v : List ℕ) : Type 0 where
  pub counts : (a : ℕ) → count a u ≡ count a v
  pub order : (p q : ℕ) → p < q → Apart p q u → before u p q ≡ before v p q

kept_refl : (u : List ℕ) → Kept u u
kept_refl u = record { counts = λ a. refl; order = λ p q l apart. refl }

kept_sym : {u v : List ℕ} → Kept u v → Kept v u
kept_sym k = record { counts = λ a. sym (k.counts a); order = λ p q l apart. sym (k.order p q l (λ x g h. k.counts x ∙ apart x g h)) }

kept_trans : {u v w : List ℕ} → Kept u v → Kept v w → Kept u w
kept_trans k m = record {
  counts = λ a. k.counts a ∙ m.counts a;
  order = λ p q l apart. k.order p q l apart ∙ m.order p q l (λ x g h. sym (k.counts x) ∙ apart x g h);
}

kept_front : (s : List ℕ) {u v : List ℕ} → Kept u v → Kept (s ++ u) (s ++ v)
kept_front s {u} {v} k = record {
  counts = λ a. rw (count_append a s u, count_append a s v, k.counts a);
  order = λ p q l apart. rw (
    before_append s u p q,
    before_append s v p q,
    occurs_same p u v (k.counts p),
    k.order p q l (λ x g h. omega (arith, apart x g h, count_append x s u)),
  );
}

-- ---- an exchange of two letters side by side

-- A letter b beside x and y: left of them with x < b ≤ y, or right of them with x ≤ b < y.
data Beside (s t : List ℕ) (x y : ℕ) : Type 0 where
  on_left : (b : ℕ) → occurs b s ≡ true → x < b → b ≤ y → Beside s t x y
  on_right : (b : ℕ) → occurs b t ≡ true → x ≤ b → b < y → Beside s t x y

-- Two tests count in either order.
pub tick_swap : (s t : Bool) (n : ℕ) → tick s (tick t n) ≡ tick t (tick s n)
tick_swap true true n = refl
tick_swap true false n = refl
tick_swap false t n = refl

count_swap : (s t : List ℕ) (x y a : ℕ) → count a (s ++ x ∷ y ∷ t) ≡ count a (s ++ y ∷ x ∷ t)
count_swap s t x y a = rw (count_append a s (x ∷ y ∷ t), count_append a s (y ∷ x ∷ t), tick_swap (eqb x a) (eqb y a) (count a t))

-- Two letters change their precedence only if the one is p and the other q.
order_swap : (xp xq yp yq t z : Bool) → (xq && yp) ≡ false → (yq && xp) ≡ false
    → (xq && (yp || t) || (yq && t || z)) ≡ (yq && (xp || t) || (xq && t || z))
order_swap xp true true yq t z e f = cc
order_swap xp true false false t z e f = refl
order_swap true true false true t z e f = cc
order_swap false true false true t z e f = refl
order_swap xp false yp false t z e f = refl
order_swap true false yp true t z e f = cc
order_swap false false yp true t z e f = refl

counted : (b : ℕ) (w : List ℕ) → occurs b w ≡ true → 0 < count b w
counted b w o = ltb-true 0 (count b w) (sym (occurs_count b w) ∙ o)

-- No letter of the word lies between x and y.
apart_between : (x y b : ℕ) (w : List ℕ) → Apart x y w → 0 < count b w → x < b → b < y → ⊥
apart_between x y b w apart c g h = omega (arith, apart b g h)

module _ (s t : List ℕ) (x y : ℕ) (l : x < y) where
  -- The exchanged letters are p and q themselves: b is one of them, so some q stands left of some p before and after.
  before_held : Beside s t x y → Apart x y (s ++ x ∷ y ∷ t) → before (s ++ x ∷ y ∷ t) x y ≡ before (s ++ y ∷ x ∷ t) x y
  before_held (on_left b o g h) apart =
      let in_front : 0 < count b (s ++ x ∷ y ∷ t) = omega (arith, counted b s o, count_append b s (x ∷ y ∷ t)) in
      let not-below : ¬ (b < y) = apart_between x y b (s ++ x ∷ y ∷ t) apart in_front g in
      let y_is : y ≡ b = omega arith in
      let y_in : occurs y s ≡ true = rw y_is o in
      simp (before_append s, y_in, eq-eqb x x refl, ne_eqb y x (omega arith), or-true)
  before_held (on_right b o g h) apart =
      let behind : 0 < count b (s ++ x ∷ y ∷ t) = omega (arith, counted b t o, count_append b s (x ∷ y ∷ t), count_tail b y t, count_tail b x (y ∷ t)) in
      let not-above : ¬ (x < b) = λ k. apart_between x y b (s ++ x ∷ y ∷ t) apart behind k h in
      let x_is : x ≡ b = omega arith in
      let x_in : occurs x t ≡ true = rw x_is o in
      simp (before_append s, x_in, eq-eqb x x refl, eq-eqb y y refl, ne_eqb y x (omega arith), ne_eqb x y (omega arith), or-true)

  -- The exchange keeps the precedence of neighbouring letters.
  before_swap : Beside s t x y → (p q : ℕ) → p < q → Apart p q (s ++ x ∷ y ∷ t) → before (s ++ x ∷ y ∷ t) p q ≡ before (s ++ y ∷ x ∷ t) p q
  before_swap held p q m apart = go (eqb x p) refl (eqb y q) refl
    where
      never : (q ≤ x) ⊎ (x < q) → (eqb x q && eqb y p) ≡ false
      never (inl h) = rw (ne_eqb y p (omega arith), and-false)
      never (inr h) = rw (ne_eqb x q (omega arith))

      apartly : (eqb y q && eqb x p) ≡ false → before (s ++ x ∷ y ∷ t) p q ≡ before (s ++ y ∷ x ∷ t) p q
      apartly e = before_append s (x ∷ y ∷ t) p q
          ∙ ap₂ (λ (o r : Bool). before s p q || occurs q s && o || r) (occurs_same p (x ∷ y ∷ t) (y ∷ x ∷ t) (count_swap [] t x y p))
          (order_swap (eqb x p) (eqb x q) (eqb y p) (eqb y q) (occurs p t) (before t p q) (never (le-or-lt q x)) e)
          ∙ sym (before_append s (y ∷ x ∷ t) p q)

      go : (i : Bool) → eqb x p ≡ i → (j : Bool) → eqb y q ≡ j → before (s ++ x ∷ y ∷ t) p q ≡ before (s ++ y ∷ x ∷ t) p q
      go true e true f =
          let x_is : x ≡ p = eqb-true x p e in
          let y_is : y ≡ q = eqb-true y q f in
          rw (← x_is, ← y_is) (before_held held (λ b g h. apart b (omega arith) (omega arith)))
      go true e false f = apartly (rw f)
      go false e j f = apartly (rw (f, e, and-false))

  kept_swap : Beside s t x y → Kept (s ++ x ∷ y ∷ t) (s ++ y ∷ x ∷ t)
  kept_swap held = record { counts = count_swap s t x y; order = before_swap held }

-- ---- rules, steps, chains

occurs_head : (b : ℕ) (w : List ℕ) → occurs b (b ∷ w) ≡ true
occurs_head b w = rw (eq-eqb b b refl)

occurs_next : (x b : ℕ) (w : List ℕ) → occurs b (x ∷ b ∷ w) ≡ true
occurs_next x b w = rw (eq-eqb b b refl, or-true)

-- Each rule is one exchange or two.
rule_kept : {u v : List ℕ} (t : List ℕ) → Rule u v → Kept (u ++ t) (v ++ t)
rule_kept t (acb_cab {a} {b} {c} g h) = kept_swap [] (b ∷ t) a c (omega arith) (on_right b (occurs_head b t) g h)
rule_kept t (bac_bca {a} {b} {c} g h) = kept_swap (b ∷ []) t a c (omega arith) (on_left b (occurs_head b []) g h)
rule_kept t (cadb_acbd {a} {b} {c} {d} g h k) =
    kept_trans (kept_sym (kept_swap [] (d ∷ b ∷ t) a c (omega arith) (on_right b (occurs_next d b t) g h)))
    (kept_sym (kept_swap (a ∷ c ∷ []) t b d (omega arith) (on_left c (occurs_next a c []) h k)))
rule_kept t (bdac_dbca {a} {b} {c} {d} g h k) =
    kept_trans (kept_swap [] (a ∷ c ∷ t) b d (omega arith) (on_right c (occurs_next a c t) h k))
    (kept_swap (d ∷ b ∷ []) t a c (omega arith) (on_left b (occurs_next d b []) g h))

step_kept : {u v : List ℕ} → Step u v → Kept u v
step_kept (forth s t r) = kept_front s (rule_kept t r)
step_kept (back s t r) = kept_sym (kept_front s (rule_kept t r))

-- A chain of steps keeps counts and the precedence of neighbouring letters.
pub joined_kept : {u v : List ℕ} → Joined u v → Kept u v
joined_kept (same {u}) = kept_refl u
joined_kept (via s j) = kept_trans (step_kept s) (joined_kept j)

-- Joined words have each letter as often.
pub joined_count : {u v : List ℕ} → Joined u v → (a : ℕ) → count a u ≡ count a v
joined_count j = (joined_kept j).counts

-- No letter lies between i and i + 1, so joined words have the same inversions.
pub joined_inversion : {u v : List ℕ} → Joined u v → (i : ℕ) → before u i (suc i) ≡ before v i (suc i)
joined_inversion j i = (joined_kept j).order i (suc i) (omega arith) (λ x g h. omega arith)

-- Joined words have one tableau.
pub joined_tableau : {u v : List ℕ} → Joined u v → (letters_of u ≡ letters_of v) × (marks_of u ≡ marks_of v)
joined_tableau {u} {v} j = (letters_same u v (joined_count j), marks_same u v (joined_count j) (joined_kept j).order)
