-- Items up to the line feed.
--     Past                what is written of an item is not taken for the line feed
--     until_exact         a reader of so many items at most is exact
--     Settled             a reading that broke or stands before the line feed
--     settled_same        such a reading is the reading with one item more allowed than there are bytes, however many were allowed for it
--     until_feed_exact    so that reader, which has no bound of its own, is exact
-- Assumes nothing.
use Prim.Native.Nat.{ℕ, zero, suc, ◌≤◌, ◌<◌}
use mathlib.Core.Path.{◌≡◌, refl, sym, ap, ◌∙◌, subst}
use mathlib.Core.Bool.{Bool, true, false, cond, true≢false}
use mathlib.Core.List.{List, [], ◌∷◌, ◌++◌}
use native.Mathlib.Decide.{dec_le}
use native.Mathlib.Omega.{arith}
use lib.ListN.{length, length-append}
use Rattle.grammar.specs.Lines.{items}
use Rattle.grammar.specs.Values.{Items}
use Rattle.grammar.specs.Reading.{Read, got, broken, turned, onward, feed_next, until_feed}
use Rattle.grammar.proofs.Theory.Exact.{Broke, Exact, not_both, nothing_exact, both_exact}

-- What is written of an item is not taken for the line feed.
abbrev pub Past : {A : Type 0} → (A → List ℕ) → Type 0
Past {A} put = (a : A) (t : List ℕ) → feed_next (put a ++ t) ≡ false

-- ---- A reader that first asks for the line feed

-- Whether the line feed stands next is told by the next byte.
same_next : (l : List ℕ) (b : ℕ) (s z : List ℕ) → feed_next (l ++ (b ∷ s)) ≡ feed_next (l ++ (b ∷ z))
same_next [] b s z = refl
same_next (x ∷ l) b s z = refl

module _ {A : Type 0} {Good : A → Type 0} {put : A → List ℕ} {get : List ℕ → Read A} (f : Exact Good put get)
    (none : A) (fine : Good none) (empty : put none ≡ []) where
  -- Nothing before the line feed, else what the reader takes.
  abbrev or_none : List ℕ → Read A
  or_none t = cond (feed_next t) (got none t) (get t)

  or_sound : (t : List ℕ) (a : A) (rest : List ℕ) → or_none t ≡ got a rest → Good a × (t ≡ put a ++ rest)
  or_sound t a rest h = go (feed_next t) h
    where
      go : (x : Bool) → cond x (got none t) (get t) ≡ got a rest → Good a × (t ≡ put a ++ rest)
      go true h = (nothing_exact {Good = Good} put none fine empty).sound t a rest h
      go false h = f.sound t a rest h

  or_steady : (t : List ℕ) (a : A) (b : ℕ) (s z : List ℕ) → or_none t ≡ got a (b ∷ s) → or_none (put a ++ (b ∷ z)) ≡ got a (b ∷ z)
  or_steady t a b s z h = go (feed_next t) refl h
    where
      go : (x : Bool) → feed_next t ≡ x → cond x (got none t) (get t) ≡ got a (b ∷ s) → or_none (put a ++ (b ∷ z)) ≡ got a (b ∷ z)
      go true e h =
          let same : none ≡ a = cc in
          let text : t ≡ b ∷ s = cc in
          let feed : feed_next (b ∷ z) ≡ true = ap feed_next (sym text) ∙ e in
          rw (← same, empty, feed)
      go false e h =
          let text : t ≡ put a ++ (b ∷ s) = (f.sound t a (b ∷ s) h).1 in
          let next : feed_next (put a ++ (b ∷ z)) ≡ false = same_next (put a) b z s ∙ ap feed_next (sym text) ∙ e in
          rw next (f.steady t a b s z h)

  or_broke : (t rest : List ℕ) → or_none t ≡ broken rest → Broke Good put or_none t rest
  or_broke t rest h = go (feed_next t) refl h
    where
      go : (x : Bool) → feed_next t ≡ x → cond x (got none t) (get t) ≡ broken rest → Broke Good put or_none t rest
      go true e h = absurd (not_both h)
      go false e h =
          let x : Broke Good put get t rest = f.broke t rest h in
          record {
            begun = x.begun;
            parts = x.parts;
            value = x.value;
            good = x.good;
            tail = x.tail;
            goes_on = x.goes_on;
            stays = λ b s z d.
                let text : t ≡ x.begun ++ (b ∷ s) = x.parts ∙ ap (λ (l : List ℕ). x.begun ++ l) d in
                let next : feed_next (x.begun ++ (b ∷ z)) ≡ false = same_next x.begun b z s ∙ ap feed_next (sym text) ∙ e in
                rw next (x.stays b s z d);
          }

  or_exact : Exact Good put or_none
  or_exact = record { some = none; fine = fine; sound = or_sound; steady = or_steady; broke = or_broke }

-- So many items at most.
until_exact : {A : Type 0} {P Q : A → Type 0} {p q : A → List ℕ} {r s : List ℕ → Read A} → Exact P p r → Exact Q q s
    → (k : ℕ) → Exact (Items P Q) (items p q) (until_feed r s k)
until_exact {p} {q} f g zero = nothing_exact (items p q) [] tt refl
until_exact {P} {Q} {p} {q} f g (suc k) =
    or_exact (both_exact (Items P Q) (items p q) ◌∷◌ f (λ a. until_exact g g k) (λ a l x y. ((x, y), refl))) [] tt refl

-- ---- How many are allowed

-- A reading that broke or stands before the line feed.
abbrev pub Settled : {A : Type 0} → Read A → Type 0
Settled (got a t) = feed_next t ≡ true
Settled (broken t) = Unit

module _ {A : Type 0} where
  -- What is allowed beyond a settled reading plays no part.
  more_allowed : (r s : List ℕ → Read A) (k j : ℕ) (t : List ℕ) → k ≤ j → Settled (until_feed r s k t) → until_feed r s j t ≡ until_feed r s k t
  more_allowed r s zero zero t h x = refl
  more_allowed r s zero (suc j) t h x = rw x
  more_allowed r s (suc k) zero t h x = let z : ⊥ = omega arith in absurd z
  more_allowed r s (suc k) (suc j) t h x = go (feed_next t) (r t) (λ u. more_allowed s s k j u (omega arith)) x
    where
      turn : (a : A) (w y : Read (List A)) → Settled (turned (λ l. a ∷ l) w) → (Settled w → y ≡ w) → turned (λ l. a ∷ l) y ≡ turned (λ l. a ∷ l) w
      turn a (got l u) y x f = ap (turned (λ k. a ∷ k)) (f x)
      turn a (broken u) y x f = ap (turned (λ k. a ∷ k)) (f x)

      go : (b : Bool) (v : Read A) → ((u : List ℕ) → Settled (until_feed s s k u) → until_feed s s j u ≡ until_feed s s k u)
          → Settled (cond b (got [] t) (onward ◌∷◌ (λ a u. until_feed s s k u) v))
          → cond b (got [] t) (onward ◌∷◌ (λ a u. until_feed s s j u) v) ≡ cond b (got [] t) (onward ◌∷◌ (λ a u. until_feed s s k u) v)
      go true v f x = refl
      go false (got a u) f x = turn a (until_feed s s k u) (until_feed s s j u) x (f u)
      go false (broken u) f x = refl

  -- A reader that takes a byte or breaks.
  abbrev pub Eats : (List ℕ → Read A) → Type 0
  Eats r = (t : List ℕ) (a : A) (u : List ℕ) → r t ≡ got a u → length u < length t

  -- So does an exact reader of what is not taken for the line feed.
  pub eats : {P : A → Type 0} {p : A → List ℕ} {r : List ℕ → Read A} → Exact P p r → Past p → Eats r
  eats {p} f past t a u h = go (p a) (past a (10 ∷ [])) (f.sound t a u h).1
    where
      go : (l : List ℕ) → feed_next (l ++ (10 ∷ [])) ≡ false → t ≡ l ++ u → length u < length t
      go [] d e = absurd (true≢false d)
      go (b ∷ l) d e = let n = ap length e ∙ length-append (b ∷ l) u in omega arith

  -- With more allowed than there are bytes a reading is settled.
  enough : (r s : List ℕ → Read A) → Eats r → Eats s → (k : ℕ) (t : List ℕ) → length t < k → Settled (until_feed r s k t)
  enough r s f g zero t h = let z : ⊥ = omega arith in absurd z
  enough r s f g (suc k) t h = go (feed_next t) refl (r t) refl (enough s s g g k)
    where
      turn : (a : A) (w : Read (List A)) → Settled w → Settled (turned (λ l. a ∷ l) w)
      turn a (got l u) x = x
      turn a (broken u) x = tt

      go : (b : Bool) → feed_next t ≡ b → (v : Read A) → r t ≡ v → ((u : List ℕ) → length u < k → Settled (until_feed s s k u))
          → Settled (cond b (got [] t) (onward ◌∷◌ (λ a u. until_feed s s k u) v))
      go true e v d more = e
      go false e (got a u) d more = let n : length u < length t = f t a u d in turn a (until_feed s s k u) (more u (omega arith))
      go false e (broken u) d more = tt

-- ---- No bound

module _ {A : Type 0} {P Q : A → Type 0} {p q : A → List ℕ} {r s : List ℕ → Read A} (f : Exact P p r) (g : Exact Q q s) (c : Past p) (d : Past q) where
  -- One item more allowed than there are bytes.
  abbrev whole : List ℕ → Read (List A)
  whole t = until_feed r s (suc (length t)) t

  whole_settled : (t : List ℕ) → Settled (whole t)
  whole_settled t = enough r s (eats f c) (eats g d) (suc (length t)) t (omega arith)

  -- A settled reading is that one.
  pub settled_same : (k : ℕ) (t : List ℕ) → Settled (until_feed r s k t) → whole t ≡ until_feed r s k t
  settled_same k t x =
      elim (dec_le k (suc (length t))) [
        | yes h ↦ more_allowed r s k (suc (length t)) t h x
        | no h ↦ sym (more_allowed r s (suc (length t)) k t (omega arith) (whole_settled t))
      ]

  -- And so is what a settled reading is equal to.
  same_as : (k : ℕ) (t : List ℕ) (x : Read (List A)) → Settled x → until_feed r s k t ≡ x → whole t ≡ x
  same_as k t x h e = settled_same k t (subst Settled (sym e) h) ∙ e

  pub until_feed_exact : Exact (Items P Q) (items p q) whole
  until_feed_exact =
      record {
        some = [];
        fine = tt;
        sound = λ t. (until_exact f g (suc (length t))).sound t;
        steady = λ t l b u z h.
            same_as (suc (length t)) (items p q l ++ (b ∷ z)) (got l (b ∷ z)) (subst Settled h (whole_settled t))
            ((until_exact f g (suc (length t))).steady t l b u z h);
        broke = λ t rest h.
            let x : Broke (Items P Q) (items p q) (until_feed r s (suc (length t))) t rest = (until_exact f g (suc (length t))).broke t rest h in
            record {
              begun = x.begun;
              parts = x.parts;
              value = x.value;
              good = x.good;
              tail = x.tail;
              goes_on = x.goes_on;
              stays = λ b u z e. same_as (suc (length t)) (x.begun ++ (b ∷ z)) (broken (b ∷ z)) tt (x.stays b u z e);
            };
      }
