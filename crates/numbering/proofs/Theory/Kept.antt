-- The words that a ribbon with free steps tells, by the order of letters in the word, and what their first letter takes out of it.
--     KeptStep w m p q      the word w keeps a step with mark m from p to q: right, no q stands left of a p, unless they are equal; down, some q does; free, it is always kept
--     Kept ys ms w          w has the letters ys, each as often, and keeps every step
--     kept_first            a choice: w after its letter is kept exactly when w is by what it leaves
--     kept_letter           the first letter of a word that is kept is that of a choice
-- Assumes nothing.
use Prim.Native.Nat.{ℕ, zero, suc, ◌≤◌, ◌<◌}
use native.Mathlib.Omega.{arith}
use mathlib.Core.Path.{◌≡◌, refl, sym, ap, subst, ◌∙◌}
use mathlib.Core.Logic.{◌⊎◌, inl, inr, ◌↔◌}
use mathlib.Core.Bool.{Bool, true, false, ◌&&◌, ◌||◌, true≢false, false≢true, and-false}
use mathlib.Core.List.{List, [], ◌∷◌, map}
use lib.Dec.{eqb}
use lib.ListN.{get_or}
use borrow.Author.Tests.{eq-eqb, ne_eqb, lt-ltb}
use Rattle.hypoplactic.specs.Words.{before, count, occurs, tick}
use Rattle.hypoplactic.specs.Ribbons.{Along}
use Rattle.hypoplactic.proofs.Theory.Letters.{count_head, count_low, tick_inj}
use Rattle.hypoplactic.proofs.Theory.Limits.{count-outside, occurs_none}
use Rattle.hypoplactic.proofs.Theory.Occurrences.{count_tail, occurs_count}
use Rattle.hypoplactic.proofs.Theory.Pairs.{le-or-lt}
use Rattle.numbering.specs.Orders.{Choice, behind, choices, freed, may_enter, may_leave, with_if}
use Rattle.numbering.proofs.Theory.Each.{Every, every_both}
use Rattle.numbering.proofs.Theory.Choices.{FirstFree, LinkStep, OpenRibbon, Some, choice_letters, entered_rise, every_choice, link_le, link_rising}

abbrev pub KeptStep : List ℕ → ℕ → ℕ → ℕ → Type 0
KeptStep w zero p q = p < q → before w p q ≡ false
KeptStep w (suc zero) p q = before w p q ≡ true
KeptStep w (suc (suc m)) p q = Unit {0}

pub record Kept (ys ms w : List ℕ) : Type 0 where
  pub counts : (b : ℕ) → count b ys ≡ count b w
  pub steps : Along (KeptStep w) 0 ys ms

-- ---- one letter in front of a word

before_skip : (a : ℕ) (w : List ℕ) (p q : ℕ) → (a ≡ q → ⊥) → before (a ∷ w) p q ≡ before w p q
before_skip a w p q n = rw (ne_eqb a q n)

before_first : (a : ℕ) (w : List ℕ) (p : ℕ) → occurs p w ≡ true → before (a ∷ w) p a ≡ true
before_first a w p e = rw (eq-eqb a a refl, e)

-- Nothing stands left of an absent letter.
before_gone : (w : List ℕ) (p q : ℕ) → occurs p w ≡ false → before w p q ≡ false
before_gone [] p q e = refl
before_gone (x ∷ w) p q e = go (eqb x p) (occurs p w) refl e (before_gone w p q)
  where
    go : (s t : Bool) → occurs p w ≡ t → (s || t) ≡ false → (occurs p w ≡ false → before w p q ≡ false) → (eqb x q && occurs p w || before w p q) ≡ false
    go true t f e ih = absurd (true≢false e)
    go false true f e ih = absurd (true≢false e)
    go false false f e ih = rw (f, and-false (eqb x q)) (ih f)

-- A step that is not free comes from a letter of w.
abbrev Seen : List ℕ → ℕ → List ℕ → Type 0
Seen w p ms = get_or ms 0 2 ≤ 1 → occurs p w ≡ true

module _ (a : ℕ) (w : List ℕ) where
  -- A step to another letter than a is kept by w and by w after a alike.
  kept_skip : (m p q : ℕ) → LinkStep m p q → (p < q → a ≡ q → ⊥) → KeptStep (a ∷ w) m p q ↔ KeptStep w m p q
  kept_skip zero p q l n = (λ h r. sym (before_skip a w p q (n r)) ∙ h r, λ h r. before_skip a w p q (n r) ∙ h r)
  kept_skip (suc zero) p q l n = (λ h. sym (before_skip a w p q (n l)) ∙ h, λ h. before_skip a w p q (n l) ∙ h)
  kept_skip (suc (suc m)) p q l n = (λ h. h, λ h. h)

  -- So are all steps from a letter on that is not below a.
  kept_past : (p : ℕ) (ys ms : List ℕ) → a ≤ p → Along LinkStep p ys ms → Along (KeptStep (a ∷ w)) p ys ms ↔ Along (KeptStep w) p ys ms
  kept_past p [] [] l h = (λ k. k, λ k. k)
  kept_past p [] (m ∷ ms) l h = absurd h
  kept_past p (y ∷ ys) [] l h = absurd h
  kept_past p (y ∷ ys) (m ∷ ms) l h =
      let step : KeptStep (a ∷ w) m p y ↔ KeptStep w m p y = kept_skip m p y h.0 (λ r e. omega arith) in
      let rest : Along (KeptStep (a ∷ w)) y ys ms ↔ Along (KeptStep w) y ys ms = kept_past y ys ms (omega (arith, link_le m p y h.0)) h.1 in
      (λ k. (step.0 k.0, rest.0 k.1), λ k. (step.1 k.0, rest.1 k.1))

  -- Letters of a part of the ribbon: none more often than in the word, and all of its letters a.
  abbrev Part : List ℕ → Type 0
  Part ys = ((b : ℕ) → count b ys ≤ count b (a ∷ w)) × (count a ys ≡ count a (a ∷ w))

  part_seen : (y : ℕ) (ys ms : List ℕ) → y < a → Part (y ∷ ys) → Seen w y ms
  part_seen y ys ms l part h =
      let other : count y (a ∷ w) ≡ count y w = rw (ne_eqb a y (omega arith)) in
      occurs_count y w ∙ lt-ltb 0 (count y w) (omega (arith, part.0 y, count_head y ys, other))

  part_rest : (y : ℕ) (ys : List ℕ) → y < a → Part (y ∷ ys) → Part ys
  part_rest y ys l part =
      let other : count a (y ∷ ys) ≡ count a ys = rw (ne_eqb y a (omega arith)) in
      (λ b. omega (arith, part.0 b, count_tail b y ys), sym other ∙ part.1)

  -- ---- the step across the cell of a

  -- Past the last a, w has no a.
  last_gone : (z : ℕ) (zs ms : List ℕ) → Part (a ∷ (z ∷ zs)) → a < z → Along LinkStep z zs ms → occurs a w ≡ false
  last_gone z zs ms part l h =
      occurs_none a w (omega (arith, part.1, count_head a (z ∷ zs), count_head a w, count_low a z (z ∷ zs) l (omega arith, link_rising z zs ms h)))

  -- The steps past the cell of a: kept by w after a, with the step out of it, exactly as by w with that step freed.
  across_cell : (p : ℕ) (ys ms : List ℕ) → Part (a ∷ ys) → may_leave ms ≡ true → Along LinkStep a ys ms
      → Along (KeptStep (a ∷ w)) a ys ms ↔ Along (KeptStep w) p ys (freed ms)
  across_cell p [] [] part e h = (λ k. k, λ k. k)
  across_cell p [] (m ∷ ms) part e h = absurd h
  across_cell p (z ∷ zs) [] part e h = absurd h
  across_cell p (z ∷ zs) (m ∷ ms) part e h =
      let rest : Along (KeptStep (a ∷ w)) z zs ms ↔ Along (KeptStep w) z zs ms = kept_past z zs ms (link_le m a z h.0) h.1 in
      (λ k. (tt, rest.0 k.1), λ k. (out m e h.0, rest.1 k.1))
    where
      out : (m : ℕ) → may_leave (m ∷ ms) ≡ true → LinkStep m a z → KeptStep (a ∷ w) m a z
      out zero e k = λ l. before_skip a w a z (λ s. omega arith) ∙ before_gone w a z (last_gone z zs ms part l h.1)
      out (suc zero) e k = absurd (false≢true e)
      out (suc (suc m)) e k = tt

  -- The step into it is kept by w after a.
  into_cell : (m p : ℕ) (ms : List ℕ) → may_enter m ≡ true → Seen w p (m ∷ ms) → KeptStep (a ∷ w) m p a
  into_cell zero p ms e s = absurd (false≢true e)
  into_cell (suc zero) p ms e s = before_first a w p (s (omega arith))
  into_cell (suc (suc m)) p ms e s = tt

  -- ---- the first letter

  behind_some : (y m : ℕ) (cs : List Choice) → Some (λ c. c.letter ≡ a) cs → Some (λ c. c.letter ≡ a) (map (behind y m) cs)
  behind_some y m [] h = h
  behind_some y m (c ∷ cs) (inl e) = inl e
  behind_some y m (c ∷ cs) (inr h) = inr (behind_some y m cs h)

  with_some : (b : Bool) (c : Choice) (cs : List Choice) → Some (λ c. c.letter ≡ a) cs → Some (λ c. c.letter ≡ a) (with_if b c cs)
  with_some true c cs h = inr h
  with_some false c cs h = h

  -- A step into the first a lets it go first,
  may_enter_lem : (m p : ℕ) (ms : List ℕ) → p < a → Seen w p (m ∷ ms) → KeptStep (a ∷ w) m p a → may_enter m ≡ true
  may_enter_lem zero p ms l s k = absurd (true≢false (sym (before_first a w p (s (omega arith))) ∙ k l))
  may_enter_lem (suc m) p ms l s k = refl

  -- and so does the step out of it.
  may_leave_lem : (ys ms : List ℕ) → Part (a ∷ ys) → Along LinkStep a ys ms → Along (KeptStep (a ∷ w)) a ys ms → may_leave ms ≡ true
  may_leave_lem ys [] part h k = refl
  may_leave_lem ys (zero ∷ ms) part h k = refl
  may_leave_lem [] (suc zero ∷ ms) part h k = absurd h
  may_leave_lem (z ∷ zs) (suc zero ∷ ms) part h k =
      absurd (false≢true (sym (before_skip a w a z (λ e. omega arith) ∙ before_gone w a z (last_gone z zs ms part h.0 h.1)) ∙ k.0))
  may_leave_lem ys (suc (suc m) ∷ ms) part h k = refl

  -- The first cell with the letter a is a choice.
  first_found : (p : ℕ) (ys ms : List ℕ) → p < a → Along LinkStep p ys ms → Part ys → Seen w p ms → Along (KeptStep (a ∷ w)) p ys ms
      → Some (λ c. c.letter ≡ a) (choices ys ms)
  first_found p [] ms l h part s k = let z : ⊥ = omega (arith, part.1, count_head a w) in z
  first_found p (y ∷ ys) [] l h part s k = absurd h
  first_found p (y ∷ ys) (m ∷ ms) l h part s k =
      go (le-or-lt y a) (λ r. first_found y ys ms r h.1 (part_rest y ys r part) (part_seen y ys ms r part) k.1)
    where
      Goal : Type 0
      Goal = Some (λ c. c.letter ≡ a) (choices (y ∷ ys) (m ∷ ms))

      here : y ≡ a → Along LinkStep p (y ∷ ys) (m ∷ ms) → Part (y ∷ ys) → Along (KeptStep (a ∷ w)) p (y ∷ ys) (m ∷ ms) → Goal
      here e = subst (λ (x : ℕ). Along LinkStep p (x ∷ ys) (m ∷ ms) → Part (x ∷ ys) → Along (KeptStep (a ∷ w)) p (x ∷ ys) (m ∷ ms)
          → Some (λ c. c.letter ≡ a) (choices (x ∷ ys) (m ∷ ms))) (sym e)
          (λ h part k. rw (may_enter_lem m p ms l s k.0, may_leave_lem ys ms part h.1 k.1) (inl refl))

      go : (y ≤ a) ⊎ (a < y) → (y < a → Some (λ c. c.letter ≡ a) (choices ys ms)) → Goal
      go (inl r) rest = next (le-or-lt a y)
        where
          next : (a ≤ y) ⊎ (y < a) → Goal
          next (inl q) = here (omega arith) h part k
          next (inr q) =
              with_some (may_enter m && may_leave ms) (record { letter = y; letters = ys; marks = freed ms }) (map (behind y m) (choices ys ms))
              (behind_some y m (choices ys ms) (rest q))
      go (inr r) rest = absurd (omega (arith, part.1, count_head a w, count_low a y (y ∷ ys) r (omega arith, link_rising y ys ms h.1)))

-- ---- what holds of each choice

-- Of the cells after one with the letter p, under what the walk up to them knows: the letter is above p, and the steps are kept as told, by any word.
Walked : ℕ → List ℕ → List ℕ → Choice → Type 0
Walked p ys ms c =
    (p < c.letter)
    × ((w : List ℕ) → Part c.letter w ys → Seen w p ms → Along (KeptStep (c.letter ∷ w)) p ys ms ↔ Along (KeptStep w) p c.letters c.marks)

choices_walked : (p : ℕ) (ys ms : List ℕ) → Along LinkStep p ys ms → Every (Walked p ys ms) (choices ys ms)
unfolding Walked
choices_walked p [] ms h = tt
choices_walked p (y ∷ ys) [] h = tt
choices_walked p (y ∷ ys) (m ∷ ms) h =
    every_choice (Walked p (y ∷ ys) (m ∷ ms)) (Walked y ys ms) y m ys ms here there (choices_walked y ys ms h.1)
  where
    here : may_enter m ≡ true → may_leave ms ≡ true → Walked p (y ∷ ys) (m ∷ ms) (record { letter = y; letters = ys; marks = freed ms })
    here e f = (
      entered_rise m p y e h.0,
      λ w part s.
          let past : Along (KeptStep (y ∷ w)) y ys ms ↔ Along (KeptStep w) p ys (freed ms) = across_cell y w p ys ms part f h.1 in
          (λ k. past.0 k.1, λ k. (into_cell y w m p ms e s, past.1 k)),
    )

    there : (c : Choice) → Walked y ys ms c → Walked p (y ∷ ys) (m ∷ ms) (behind y m c)
    there c (l, t) = (
      omega (arith, link_le m p y h.0),
      λ w part s.
          let step : KeptStep (c.letter ∷ w) m p y ↔ KeptStep w m p y = kept_skip c.letter w m p y h.0 (λ r e. omega arith) in
          let rest : Along (KeptStep (c.letter ∷ w)) y ys ms ↔ Along (KeptStep w) y c.letters c.marks
          = t w (part_rest c.letter w y ys l part) (part_seen c.letter w y ys ms l part) in
          (λ k. (step.0 k.0, rest.0 k.1), λ k. (step.1 k.0, rest.1 k.1)),
    )

free_seen : (w ms : List ℕ) → FirstFree ms → Seen w 0 ms
free_seen w [] f h = let z : ⊥ = omega arith in absurd z
free_seen w (m ∷ ms) f h = let z : ⊥ = omega arith in absurd z

-- A word after a choice's letter is kept exactly when the word is, by what the choice leaves.
pub kept_first : (n l : ℕ) (ys ms : List ℕ) → OpenRibbon n l ys ms
    → Every (λ c. (w : List ℕ) → Kept ys ms (c.letter ∷ w) ↔ Kept c.letters c.marks w) (choices ys ms)
unfolding Walked
kept_first n l ys ms h = every_both _ _ _ (choices ys ms) both (choice_letters ys ms) (choices_walked 0 ys ms h.linked)
  where
    both : (c : Choice) → ((b : ℕ) → count b ys ≡ tick (eqb c.letter b) (count b c.letters)) → Walked 0 ys ms c
        → (w : List ℕ) → Kept ys ms (c.letter ∷ w) ↔ Kept c.letters c.marks w
    both c e (low, walk) w = (forth, back)
      where
        t : Part c.letter w ys → Seen w 0 ms → Along (KeptStep (c.letter ∷ w)) 0 ys ms ↔ Along (KeptStep w) 0 c.letters c.marks
        t = walk w

        part : ((b : ℕ) → count b ys ≡ count b (c.letter ∷ w)) → Part c.letter w ys
        part k = (λ b. omega (arith, k b), k c.letter)

        forth : Kept ys ms (c.letter ∷ w) → Kept c.letters c.marks w
        forth k = record {
          counts = λ b. tick_inj (eqb c.letter b) _ _ (sym (e b) ∙ k.counts b);
          steps = (t (part k.counts) (free_seen w ms h.first)).0 k.steps;
        }

        back : Kept c.letters c.marks w → Kept ys ms (c.letter ∷ w)
        back k =
            let counts : (b : ℕ) → count b ys ≡ count b (c.letter ∷ w) = λ b. e b ∙ ap (tick (eqb c.letter b)) (k.counts b) in
            record { counts = counts; steps = (t (part counts) (free_seen w ms h.first)).1 k.steps }

-- The first letter of a word that is kept is that of a choice.
pub kept_letter : (n l a : ℕ) (ys ms w : List ℕ) → OpenRibbon n l ys ms → Kept ys ms (a ∷ w) → Some (λ c. c.letter ≡ a) (choices ys ms)
kept_letter n l a ys ms w h k =
    first_found a w 0 ys ms (low a refl) h.linked (λ b. omega (arith, k.counts b), k.counts a) (free_seen w ms h.first) k.steps
  where
    low : (b : ℕ) → b ≡ a → 0 < b
    low zero e = absurd (omega (arith, k.counts a, count_head a w, count-outside a ys h.letters (λ i. omega arith)))
    low (suc b) e = omega arith
