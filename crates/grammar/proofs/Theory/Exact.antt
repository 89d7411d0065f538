-- Exact readers, and how they are put together.
--     Exact        a reader takes only what its writer gives of good values, and where it breaks, what went before begins what the writer gives of some good value;
--                  in both cases nothing after the next byte matters
--     nothing_exact, ended_exact, after_exact, both_exact     the grammar's combinators keep this
-- Assumes nothing.
use Prim.Native.Nat.{ℕ}
use mathlib.Core.Path.{◌≡◌, refl, sym, ap, ◌∙◌, subst}
use mathlib.Core.Bool.{Bool, true, false}
use mathlib.Core.Logic.{◌⊎◌, inl, inr, ⊎_elim}
use mathlib.Core.List.{List, [], ◌∷◌, ◌++◌, append_assoc}
use native.Mathlib.Omega.{arith}
use lib.Dec.{eqb}
use borrow.Author.Tests.{eq-eqb, eqb-true}
use Rattle.grammar.specs.Reading.{Read, got, broken, turned, onward, both, after, ended}

-- A reading that broke: what went before goes on to what is written of a good value, and whatever comes after the next byte it breaks there.
pub record Broke {A : Type 0} (Good : A → Type 0) (put : A → List ℕ) (get : List ℕ → Read A) (text rest : List ℕ) : Type 0 where
  pub begun : List ℕ
  pub parts : text ≡ begun ++ rest
  pub value : A
  pub good : Good value
  pub tail : List ℕ
  pub goes_on : put value ≡ begun ++ tail
  pub stays : (b : ℕ) (s z : List ℕ) → rest ≡ b ∷ s → get (begun ++ (b ∷ z)) ≡ broken (b ∷ z)

pub record Exact {A : Type 0} (Good : A → Type 0) (put : A → List ℕ) (get : List ℕ → Read A) : Type 0 where
  pub some : A
  pub fine : Good some
  pub sound : (t : List ℕ) (a : A) (rest : List ℕ) → get t ≡ got a rest → Good a × (t ≡ put a ++ rest)
  pub steady : (t : List ℕ) (a : A) (b : ℕ) (s z : List ℕ) → get t ≡ got a (b ∷ s) → get (put a ++ (b ∷ z)) ≡ got a (b ∷ z)
  pub broke : (t rest : List ℕ) → get t ≡ broken rest → Broke Good put get t rest

-- A reading cannot both give and break.
pub not_both : {A : Type 0} {a : A} {s t : List ℕ} → got a s ≡ broken t → ⊥
not_both h = let z : ◌≡◌ {A = ℕ} 0 1 = cc in omega arith

-- A reader that breaks at its first byte, or for want of one.
pub at_once : {A : Type 0} {Good : A → Type 0} (put : A → List ℕ) (get : List ℕ → Read A) (a : A) → Good a → (t rest : List ℕ) → t ≡ rest
    → ((b : ℕ) (s z : List ℕ) → rest ≡ b ∷ s → get (b ∷ z) ≡ broken (b ∷ z)) → Broke Good put get t rest
at_once put get a g t rest e f = record { begun = []; parts = e; value = a; good = g; tail = put a; goes_on = refl; stays = f }

-- Nothing is read, a value is given.
pub nothing_exact : {A : Type 0} {Good : A → Type 0} (put : A → List ℕ) (a : A) → Good a → put a ≡ [] → Exact Good put (got a)
nothing_exact {Good} put a g e =
    record {
      some = a;
      fine = g;
      sound = λ t c rest h. let p : a ≡ c = cc in let q : t ≡ rest = cc in (subst Good p g, rw (← p, e) q);
      steady = λ t c b s z h. let p : a ≡ c = cc in rw (← p, e);
      broke = λ t rest h. absurd (not_both h);
    }

-- The end of the text.
pub ended_exact : Exact (λ u. Unit {0}) (λ u. []) ended
ended_exact = record { some = tt; fine = tt; sound = sound; steady = steady; broke = broke }
  where
    sound : (t : List ℕ) (u : Unit {0}) (rest : List ℕ) → ended t ≡ got u rest → Unit {0} × (t ≡ rest)
    sound [] u rest h = (tt, cc)
    sound (b ∷ t) u rest h = absurd (not_both (sym h))

    steady : (t : List ℕ) (u : Unit {0}) (b : ℕ) (s z : List ℕ) → ended t ≡ got u (b ∷ s) → ended (b ∷ z) ≡ got u (b ∷ z)
    steady [] u b s z h = cc
    steady (c ∷ t) u b s z h = absurd (not_both (sym h))

    broke : (t rest : List ℕ) → ended t ≡ broken rest → Broke (λ u. Unit {0}) (λ u. []) ended t rest
    broke [] rest h = absurd (not_both h)
    broke (c ∷ t) rest h = at_once (λ u. []) ended tt tt (c ∷ t) rest (cc) (λ b s z e. refl)

-- A byte, and what follows it.
module _ {A : Type 0} {Good : A → Type 0} {put : A → List ℕ} {get : List ℕ → Read A} (k : ℕ) (f : Exact Good put get) where
  -- The byte that is due is passed; at any other the reading breaks.
  after_cases : (c : ℕ) (t : List ℕ) → ((c ≡ k) × (after k get (c ∷ t) ≡ get t)) ⊎ ((eqb c k ≡ false) × (after k get (c ∷ t) ≡ broken (c ∷ t)))
  after_cases c t = go (eqb c k) refl
    where
      go : (x : Bool) → eqb c k ≡ x → ((c ≡ k) × (after k get (c ∷ t) ≡ get t)) ⊎ ((eqb c k ≡ false) × (after k get (c ∷ t) ≡ broken (c ∷ t)))
      go true e = inl (eqb-true c k e, rw e)
      go false e = inr (e, rw e)

  after_sound : (t : List ℕ) (a : A) (rest : List ℕ) → after k get t ≡ got a rest → Good a × (t ≡ k ∷ (put a ++ rest))
  after_sound [] a rest h = absurd (not_both (sym h))
  after_sound (b ∷ t) a rest h =
      ⊎_elim (λ c. let r : Good a × (t ≡ put a ++ rest) = f.sound t a rest (sym c.1 ∙ h) in (r.0, rw (c.0, r.1))) (λ c. absurd (not_both (sym h ∙ c.1)))
      (after_cases b t)

  after_steady : (t : List ℕ) (a : A) (b : ℕ) (s z : List ℕ) → after k get t ≡ got a (b ∷ s) → after k get (k ∷ (put a ++ (b ∷ z))) ≡ got a (b ∷ z)
  after_steady [] a b s z h = absurd (not_both (sym h))
  after_steady (c ∷ t) a b s z h =
      ⊎_elim (λ d. rw (eq-eqb k k refl) (f.steady t a b s z (sym d.1 ∙ h))) (λ d. absurd (not_both (sym h ∙ d.1))) (after_cases c t)

  after_broke : (t rest : List ℕ) → after k get t ≡ broken rest → Broke Good (λ a. k ∷ put a) (after k get) t rest
  after_broke [] rest h = at_once (λ a. k ∷ put a) (after k get) f.some f.fine [] rest (cc) (λ b s z e. cc)
  after_broke (c ∷ t) rest h = ⊎_elim (λ d. on d.0 (sym d.1 ∙ h)) (λ d. here d.0 (sym d.1 ∙ h)) (after_cases c t)
    where
      on : c ≡ k → get t ≡ broken rest → Broke Good (λ a. k ∷ put a) (after k get) (c ∷ t) rest
      on q h =
          let r : Broke Good put get t rest = f.broke t rest h in
          record {
            begun = k ∷ r.begun;
            parts = λ i. q i ∷ r.parts i;
            value = r.value;
            good = r.good;
            tail = r.tail;
            goes_on = λ i. k ∷ r.goes_on i;
            stays = λ b s z d. rw (eq-eqb k k refl) (r.stays b s z d);
          }

      here : eqb c k ≡ false → ◌≡◌ {A = Read A} (broken (c ∷ t)) (broken rest) → Broke Good (λ a. k ∷ put a) (after k get) (c ∷ t) rest
      here e h = at_once (λ a. k ∷ put a) (after k get) f.some f.fine (c ∷ t) rest (cc) (λ b s z d. let q : c ≡ b = cc in rw (← q, e))

  pub after_exact : Exact Good (λ a. k ∷ put a) (after k get)
  after_exact = record { some = f.some; fine = f.fine; sound = after_sound; steady = after_steady; broke = after_broke }

-- Nothing after the next byte matters, even where some of what is left is known.
steady_on : {A : Type 0} {Good : A → Type 0} {put : A → List ℕ} {get : List ℕ → Read A} → Exact Good put get → (t : List ℕ) (a : A) (u l : List ℕ) (b : ℕ) (s z : List ℕ)
    → get t ≡ got a u → u ≡ l ++ (b ∷ s) → get (put a ++ (l ++ (b ∷ z))) ≡ got a (l ++ (b ∷ z))
steady_on f t a u [] b s z h e = f.steady t a b s z (rw e at h)
steady_on f t a u (x ∷ l) b s z h e = f.steady t a x (l ++ (b ∷ s)) (l ++ (b ∷ z)) (rw e at h)

-- One reader and then another, which may depend on the first one's value.
module _ {A B C : Type 0} {P : A → Type 0} {Q : A → B → Type 0} {p : A → List ℕ} {q : B → List ℕ} {r : List ℕ → Read A} {s : A → List ℕ → Read B}
    (R : C → Type 0) (w : C → List ℕ) (join : A → B → C) (f : Exact P p r) (g : (a : A) → Exact (Q a) q (s a))
    (law : (a : A) (b : B) → P a → Q a b → R (join a b) × (w (join a b) ≡ p a ++ q b)) where
  -- What both gave.
  record Gave (t : List ℕ) (c : C) (rest : List ℕ) : Type 0 where
    left : A
    between : List ℕ
    right : B
    one : r t ≡ got left between
    two : s left between ≡ got right rest
    is : c ≡ join left right

  both_gave : (t : List ℕ) (c : C) (rest : List ℕ) → both join r s t ≡ got c rest → Gave t c rest
  both_gave t c rest h = first (r t) refl h
    where
      second : (a : A) (u : List ℕ) → r t ≡ got a u → (y : Read B) → s a u ≡ y → turned (join a) y ≡ got c rest → Gave t c rest
      second a u d (got b v) e h = let x : v ≡ rest = cc in record { left = a; between = u; right = b; one = d; two = rw (← x) e; is = cc }
      second a u d (broken v) e h = absurd (not_both (sym h))

      first : (x : Read A) → r t ≡ x → onward join s x ≡ got c rest → Gave t c rest
      first (got a u) d h = second a u d (s a u) refl h
      first (broken u) d h = absurd (not_both (sym h))

  -- What is written of both, before a text.
  both_spelled : (a : A) (b : B) (t : List ℕ) → P a → Q a b → w (join a b) ++ t ≡ p a ++ (q b ++ t)
  both_spelled a b t x y = rw (law a b x y).1 (append_assoc (p a) (q b) t)

  both_sound : (t : List ℕ) (c : C) (rest : List ℕ) → both join r s t ≡ got c rest → R c × (t ≡ w c ++ rest)
  both_sound t c rest h =
      let x : Gave t c rest = both_gave t c rest h in
      let a : P x.left × (t ≡ p x.left ++ x.between) = f.sound t x.left x.between x.one in
      let b : Q x.left x.right × (x.between ≡ q x.right ++ rest) = (g x.left).sound x.between x.right rest x.two in (
        subst R (sym x.is) (law x.left x.right a.0 b.0).0,
        a.1 ∙ ap (λ (u : List ℕ). p x.left ++ u) b.1 ∙ sym (both_spelled x.left x.right rest a.0 b.0) ∙ ap (λ (d : C). w d ++ rest) (sym x.is),
      )

  both_steady : (t : List ℕ) (c : C) (b : ℕ) (v z : List ℕ) → both join r s t ≡ got c (b ∷ v) → both join r s (w c ++ (b ∷ z)) ≡ got c (b ∷ z)
  both_steady t c b v z h =
      let x : Gave t c (b ∷ v) = both_gave t c (b ∷ v) h in
      let y : P x.left × (t ≡ p x.left ++ x.between) = f.sound t x.left x.between x.one in
      let k : Q x.left x.right × (x.between ≡ q x.right ++ (b ∷ v)) = (g x.left).sound x.between x.right (b ∷ v) x.two in
      rw (x.is, both_spelled x.left x.right (b ∷ z) y.0 k.0, steady_on f t x.left x.between (q x.right) b v z x.one k.1, (g x.left).steady x.between x.right b v z x.two)

  -- The first breaks: some value of the second completes what is written.
  first_broke : (t rest : List ℕ) → r t ≡ broken rest → Broke R w (both join r s) t rest
  first_broke t rest h =
      let x : Broke P p r t rest = f.broke t rest h in
      let b : B = (g x.value).some in
      let l : R (join x.value b) × (w (join x.value b) ≡ p x.value ++ q b) = law x.value b x.good (g x.value).fine in
      record {
        begun = x.begun;
        parts = x.parts;
        value = join x.value b;
        good = l.0;
        tail = x.tail ++ q b;
        goes_on = l.1 ∙ ap (λ (v : List ℕ). v ++ q b) x.goes_on ∙ append_assoc x.begun x.tail (q b);
        stays = λ c v z e. ap (onward join s) (x.stays c v z e);
      }

  -- The second breaks.
  second_broke : (t rest : List ℕ) (a : A) (u : List ℕ) → r t ≡ got a u → s a u ≡ broken rest → Broke R w (both join r s) t rest
  second_broke t rest a u d h =
      let y : P a × (t ≡ p a ++ u) = f.sound t a u d in
      let x : Broke (Q a) q (s a) u rest = (g a).broke u rest h in
      let l : R (join a x.value) × (w (join a x.value) ≡ p a ++ q x.value) = law a x.value y.0 x.good in
      record {
        begun = p a ++ x.begun;
        parts = y.1 ∙ ap (λ (v : List ℕ). p a ++ v) x.parts ∙ sym (append_assoc (p a) x.begun rest);
        value = join a x.value;
        good = l.0;
        tail = x.tail;
        goes_on = l.1 ∙ ap (λ (v : List ℕ). p a ++ v) x.goes_on ∙ sym (append_assoc (p a) x.begun x.tail);
        stays = λ c v z e.
            ap (both join r s) (append_assoc (p a) x.begun (c ∷ z))
            ∙ ap (onward join s) (steady_on f t a u x.begun c v z d (x.parts ∙ ap (λ (k : List ℕ). x.begun ++ k) e))
            ∙ ap (turned (join a)) (x.stays c v z e);
      }

  both_broke : (t rest : List ℕ) → both join r s t ≡ broken rest → Broke R w (both join r s) t rest
  both_broke t rest h = first (r t) refl h
    where
      second : (a : A) (u : List ℕ) → r t ≡ got a u → (y : Read B) → s a u ≡ y → turned (join a) y ≡ broken rest → Broke R w (both join r s) t rest
      second a u d (got b v) e h = absurd (not_both h)
      second a u d (broken v) e h = let x : v ≡ rest = cc in second_broke t rest a u d (rw x at e)

      first : (x : Read A) → r t ≡ x → onward join s x ≡ broken rest → Broke R w (both join r s) t rest
      first (got a u) d h = second a u d (s a u) refl h
      first (broken u) d h = let x : u ≡ rest = cc in first_broke t rest (rw x at d)

  pub both_exact : Exact R w (both join r s)
  both_exact =
      record {
        some = join f.some (g f.some).some;
        fine = (law f.some (g f.some).some f.fine (g f.some).fine).0;
        sound = both_sound;
        steady = both_steady;
        broke = both_broke;
      }
