-- The words that a ribbon with free steps tells, listed: of all words of the rank in dictionary order those that are kept by the ribbon, and as many as it has orders.
--     taken-kept        the words of a test that passes exactly for the words kept by a ribbon are the ribbon's words
--     taken_size        they are as many as the ribbon has orders
-- Assumes nothing.
use Prim.Native.Nat.{ℕ, zero, suc, ◌+◌, ◌≤◌, ◌<◌}
use native.Mathlib.Omega.{arith}
use mathlib.Core.Path.{◌≡◌, refl, sym, ap, ap₂, ◌∙◌}
use mathlib.Core.Logic.Iff
use mathlib.Core.Logic.{◌⊎◌, inl, inr, ◌↔◌}
use mathlib.Core.Bool.{Bool, true, false, cond}
use mathlib.Core.List.{List, [], ◌∷◌, ◌++◌, map}
use lib.ListN.{length, length-append, length-map}
use Rattle.hypoplactic.specs.Words.{Within}
use Rattle.hypoplactic.proofs.Theory.Pairs.{le-or-lt}
use Rattle.numbering.specs.Dictionary.{keep, startings, words}
use Rattle.numbering.specs.Orders.{Choice, choices, orders, taken_from, taken_words}
use Rattle.numbering.proofs.Theory.Counting.{orders_of}
use Rattle.numbering.proofs.Theory.Each.{Every, every_both, every_map}
use Rattle.numbering.proofs.Theory.Choices.{Climbing, OpenRibbon, Some, choice_orders, choices_climb, choices_open, climb_above, every_choice}
use Rattle.numbering.proofs.Theory.Kept.{Kept, kept_first, kept_letter}

-- ---- words that pass a test

-- A word before others, if it passes.
keep_one : (b : Bool) (w : List ℕ) (us vs : List (List ℕ)) → cond b (w ∷ (us ++ vs)) (us ++ vs) ≡ cond b (w ∷ us) us ++ vs
keep_one true w us vs = refl
keep_one false w us vs = refl

keep_append : (test : List ℕ → Bool) (us vs : List (List ℕ)) → keep test (us ++ vs) ≡ keep test us ++ keep test vs
keep_append test [] vs = refl
keep_append test (u ∷ us) vs = rw (keep_append test us vs) (keep_one (test u) u (keep test us) (keep test vs))

-- Words that begin with one letter.
keep-behind : (test : List ℕ → Bool) (a : ℕ) (ws : List (List ℕ))
    → keep test (map (λ (w : List ℕ). a ∷ w) ws) ≡ map (λ (w : List ℕ). a ∷ w) (keep (λ w. test (a ∷ w)) ws)
keep-behind test a [] = refl
keep-behind test a (w ∷ ws) = go (test (a ∷ w)) (keep-behind test a ws)
  where
    go : (b : Bool) → keep test (map (λ (w : List ℕ). a ∷ w) ws) ≡ map (λ (w : List ℕ). a ∷ w) (keep (λ w. test (a ∷ w)) ws)
        → cond b ((a ∷ w) ∷ keep test (map (λ (w : List ℕ). a ∷ w) ws)) (keep test (map (λ (w : List ℕ). a ∷ w) ws))
        ≡ map (λ (w : List ℕ). a ∷ w) (cond b (w ∷ keep (λ w. test (a ∷ w)) ws) (keep (λ w. test (a ∷ w)) ws))
    go true e = ap (λ (vs : List (List ℕ)). (a ∷ w) ∷ vs) e
    go false e = e

keep-none : (test : List ℕ → Bool) (ws : List (List ℕ)) → ((w : List ℕ) → test w ≡ true → ⊥) → keep test ws ≡ []
keep-none test [] n = refl
keep-none test (w ∷ ws) n = go (test w) refl (keep-none test ws n)
  where
    go : (b : Bool) → test w ≡ b → keep test ws ≡ [] → cond b (w ∷ keep test ws) (keep test ws) ≡ []
    go true e ih = absurd (n w e)
    go false e ih = ih

-- ---- a block for each letter, and a block for each choice

module _ (test : List ℕ → Bool) (ws : List (List ℕ)) (f : List ℕ → List ℕ → List (List ℕ)) where
  -- The words that begin with a and pass.
  abbrev block : ℕ → List (List ℕ)
  block a = map (λ (w : List ℕ). a ∷ w) (keep (λ w. test (a ∷ w)) ws)

  -- Letters that no choice has begin no word that passes.
  spread : (m p : ℕ) (cs : List Choice) → Climbing p cs → Every (λ c. c.letter ≤ p + m) cs
      → Every (λ c. keep (λ w. test (c.letter ∷ w)) ws ≡ f c.letters c.marks) cs
      → ((a : ℕ) (w : List ℕ) → p < a → test (a ∷ w) ≡ true → Some (λ c. c.letter ≡ a) cs) → keep test (startings m (suc p) ws) ≡ taken_from f cs
  spread zero p [] h r g s = refl
  spread zero p (c ∷ cs) h r g s = let z : ⊥ = omega (arith, h.0, r.0) in absurd z
  spread (suc m) p [] h r g s =
      keep_append test (map (λ (w : List ℕ). suc p ∷ w) ws) (startings m (suc (suc p)) ws)
      ∙ ap₂ ◌++◌ (keep-behind test (suc p) ws ∙ ap (map (λ (w : List ℕ). suc p ∷ w)) (keep-none (λ w. test (suc p ∷ w)) ws (λ w e. s (suc p) w (omega arith) e)))
      (spread m (suc p) [] tt tt tt (λ a w l e. s a w (omega arith) e))
  spread (suc m) p (c ∷ cs) h r g s =
      keep_append test (map (λ (w : List ℕ). suc p ∷ w) ws) (startings m (suc (suc p)) ws)
      ∙ ap (λ (us : List (List ℕ)). us ++ keep test (startings m (suc (suc p)) ws)) (keep-behind test (suc p) ws)
      ∙ go (le-or-lt c.letter (suc p)) (λ e. spread m (suc p) cs (later e h.1) (bounds cs r.1) g.1 (others e))
      (λ l. spread m (suc p) (c ∷ cs) (l, h.1) (bounds (c ∷ cs) r) g (λ a w k e. s a w (omega arith) e))
    where
      later : c.letter ≡ suc p → Climbing c.letter cs → Climbing (suc p) cs
      later e k = rw (← e) k

      bounds : (cs : List Choice) → Every (λ c. c.letter ≤ p + suc m) cs → Every (λ c. c.letter ≤ suc p + m) cs
      bounds cs k = every_map _ _ cs (λ d l. omega arith) k

      others : c.letter ≡ suc p → (a : ℕ) (w : List ℕ) → suc p < a → test (a ∷ w) ≡ true → Some (λ c. c.letter ≡ a) cs
      others e a w l t = pick (s a w (omega arith) t)
        where
          pick : (c.letter ≡ a) ⊎ Some (λ c. c.letter ≡ a) cs → Some (λ c. c.letter ≡ a) cs
          pick (inl q) = absurd (omega arith)
          pick (inr q) = q

      go : (c.letter ≤ suc p) ⊎ (suc p < c.letter) → (c.letter ≡ suc p → keep test (startings m (suc (suc p)) ws) ≡ taken_from f cs)
          → (suc p < c.letter → keep test (startings m (suc (suc p)) ws) ≡ taken_from f (c ∷ cs))
          → block (suc p) ++ keep test (startings m (suc (suc p)) ws) ≡ taken_from f (c ∷ cs)
      go (inl l) here there =
          let e : c.letter ≡ suc p = omega (arith, h.0) in
          let own : block (suc p) ≡ map (λ (w : List ℕ). c.letter ∷ w) (f c.letters c.marks)
          = rw (← e) (ap (map (λ (w : List ℕ). c.letter ∷ w)) g.0) in
          ap₂ ◌++◌ own (here e)
      go (inr l) here there =
          ap₂ ◌++◌ (ap (map (λ (w : List ℕ). suc p ∷ w)) (keep-none (λ w. test (suc p ∷ w)) ws (λ w e. none (s (suc p) w (omega arith) e)))) (there l)
        where
          none : Some (λ c. c.letter ≡ suc p) (c ∷ cs) → ⊥
          none (inl e) = omega arith
          none (inr k) = climb_above (suc p) c.letter cs (omega arith) h.1 k

-- ---- the words of a ribbon

-- Letters of choices are letters of the ribbon.
choices_letter : (n : ℕ) (ys ms : List ℕ) → Within n ys → Every (λ c. c.letter ≤ 0 + n) (choices ys ms)
choices_letter n [] ms h = tt
choices_letter n (y ∷ ys) [] h = tt
choices_letter n (y ∷ ys) (m ∷ ms) h =
    every_choice (λ c. c.letter ≤ 0 + n) (λ c. c.letter ≤ 0 + n) y m ys ms (λ e f. omega (arith, h.1)) (λ c k. k) (choices_letter n ys ms h.2)

-- Letter by letter: what is kept after the letter of a choice is what is kept by what the choice leaves, and no other letter begins a word that is kept.
pub taken-kept : (n l : ℕ) (ys ms : List ℕ) (test : List ℕ → Bool) → OpenRibbon n l ys ms → ((w : List ℕ) → (test w ≡ true) ↔ Kept ys ms w)
    → keep test (words n l) ≡ taken_words l ys ms
unfolding words
taken-kept n zero [] [] test h k = rw ((k []).1 (record { counts = λ b. refl; steps = tt }))
taken-kept n zero [] (m ∷ ms) test h k = absurd h.linked
taken-kept n zero (y ∷ ys) ms test h k = let z : ⊥ = omega (arith, h.cells) in absurd z
taken-kept n (suc l) ys ms test h k =
    spread test (words n l) (taken_words l) n 0 (choices ys ms) (choices_climb 0 ys ms h.linked) (choices_letter n ys ms h.letters)
    (every_both _ _ _ (choices ys ms) (λ c o e. taken-kept n l c.letters c.marks (λ w. test (c.letter ∷ w)) o (λ w. Iff.trans (k (c.letter ∷ w)) (e w)))
    (choices_open n l ys ms h) (kept_first n (suc l) ys ms h))
    (λ a w l' e. kept_letter n (suc l) a ys ms w h ((k (a ∷ w)).0 e))

-- They are as many as the ribbon has orders.
pub taken_size : (n l : ℕ) (ys ms : List ℕ) → OpenRibbon n l ys ms → length (taken_words l ys ms) ≡ orders ms
unfolding orders
taken_size n zero [] [] h = refl
taken_size n zero [] (m ∷ ms) h = absurd h.linked
taken_size n zero (y ∷ ys) ms h = let z : ⊥ = omega (arith, h.cells) in absurd z
taken_size n (suc l) ys ms h =
    blocks (choices ys ms) (every_map _ _ (choices ys ms) (λ c o. taken_size n l c.letters c.marks o) (choices_open n l ys ms h))
    ∙ sym (choice_orders n l ys ms h)
  where
    blocks : (cs : List Choice) → Every (λ c. length (taken_words l c.letters c.marks) ≡ orders c.marks) cs
        → length (taken_from (taken_words l) cs) ≡ orders_of (map (λ (c : Choice). c.marks) cs)
    blocks [] e = refl
    blocks (c ∷ cs) e =
        length-append (map (λ (w : List ℕ). c.letter ∷ w) (taken_words l c.letters c.marks)) (taken_from (taken_words l) cs)
        ∙ ap₂ ◌+◌ (length-map (taken_words l c.letters c.marks) (λ (w : List ℕ). c.letter ∷ w) ∙ e.0) (blocks cs e.1)
