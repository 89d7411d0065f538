-- The word of a number and the number of a word, by counting orders.
--     taken_word        the word at place k of a ribbon's words is word_at
--     taken-place       the place of a word that the ribbon keeps is place_of, and below the number of its orders
--     class_word_lem        word k of a class, for every k
--     class_number_lem      the number of a word in its own class; number-below: it is below the size of the class
-- Assumes nothing.
use Prim.Native.Nat.{ℕ, zero, suc, ◌+◌, ◌-◌, ◌<◌}
use native.Mathlib.Omega.{arith}
use mathlib.Core.Path.{◌≡◌, refl, sym, ap, ap₂, ◌∙◌}
use mathlib.Core.Logic.{◌⊎◌, inl, inr}
use mathlib.Core.Bool.{Bool, true, false, cond}
use mathlib.Core.List.{List, [], ◌∷◌, ◌++◌, map}
use lib.Dec.{eqb, ltb, leb-suc-suc}
use lib.ListN.{length, get_or, length-append, length-map}
use borrow.Author.Tests.{eq-eqb, eqb-false, eqb-true, le-ltb, lt-ltb}
use Rattle.hypoplactic.specs.Words.{Within}
use Rattle.hypoplactic.specs.Ribbons.{Tableau}
use Rattle.hypoplactic.specs.Insertion.{letters_of, marks_of}
use Rattle.hypoplactic.proofs.Theory.Boundary.{tableau_of_word}
use Rattle.hypoplactic.proofs.Theory.Letters.{count_head}
use Rattle.hypoplactic.proofs.Theory.Limits.{letters-within}
use Rattle.numbering.specs.Dictionary.{class_number, class_size, class_word, class_words, place_in, same_list}
use Rattle.numbering.specs.Orders.{Choice, choices, freed, orders, place_from, place_of, taken_from, taken_words, word_at, word_among}
use Rattle.numbering.proofs.Theory.Each.{Every, every_both, every_map}
use Rattle.numbering.proofs.Theory.Choices.{OpenRibbon, Some, choices_open}
use Rattle.numbering.proofs.Theory.Kept.{Kept, kept_first, kept_letter}
use Rattle.numbering.proofs.Theory.Taken.{taken_size}
use Rattle.numbering.proofs.Theory.ClassSize.{class_kept, class_size_lem, class_words_lem, same_refl, tableau_open}

-- ---- the word of a number

-- Words that begin with one letter, and then others.
block_word : (a : ℕ) (us vs : List (List ℕ)) (k : ℕ)
    → get_or (map (λ (w : List ℕ). a ∷ w) us ++ vs) k [] ≡ cond (ltb k (length us)) (a ∷ get_or us k []) (get_or vs (k - length us) [])
block_word a [] vs k =
    let none : k - 0 ≡ k = omega arith in
    rw (le-ltb k 0 (omega arith)) (ap (λ (i : ℕ). get_or vs i []) (sym none))
block_word a (u ∷ us) vs zero = rw (lt-ltb 0 (suc (length us)) (omega arith))
block_word a (u ∷ us) vs (suc k) =
    let less : suc k - suc (length us) ≡ k - length us = omega arith in
    rw (leb-suc-suc (suc k) (length us), less) (block_word a us vs k)

words_walk : (f : List ℕ → List ℕ → List (List ℕ)) (g : List ℕ → List ℕ → ℕ → List ℕ) (cs : List Choice)
    → Every (λ c. (length (f c.letters c.marks) ≡ orders c.marks) × ((k : ℕ) → get_or (f c.letters c.marks) k [] ≡ g c.letters c.marks k)) cs
    → (k : ℕ) → get_or (taken_from f cs) k [] ≡ word_among g cs k
words_walk f g [] h k = refl
words_walk f g (c ∷ cs) h k =
    block_word c.letter (f c.letters c.marks) (taken_from f cs) k
    ∙ rw (h.0.0, h.0.1 k, words_walk f g cs h.1 (k - orders c.marks))

pub taken_word : (n l : ℕ) (ys ms : List ℕ) → OpenRibbon n l ys ms → (k : ℕ) → get_or (taken_words l ys ms) k [] ≡ word_at l ys ms k
taken_word n zero ys ms h zero = refl
taken_word n zero ys ms h (suc k) = refl
taken_word n (suc l) ys ms h k =
    words_walk (taken_words l) (word_at l) (choices ys ms)
    (every_map _ _ (choices ys ms) (λ c o. (taken_size n l c.letters c.marks o, taken_word n l c.letters c.marks o)) (choices_open n l ys ms h)) k

-- ---- the number of a word

-- Past words that begin with another letter,
place_other : (a b : ℕ) (w : List ℕ) (us vs : List (List ℕ)) → eqb b a ≡ false
    → place_in (a ∷ w) (map (λ (u : List ℕ). b ∷ u) us ++ vs) ≡ length us + place_in (a ∷ w) vs
place_other a b w [] vs e = omega arith
place_other a b w (u ∷ us) vs e =
    let rest : place_in (a ∷ w) (map (λ (u : List ℕ). b ∷ u) us ++ vs) ≡ length us + place_in (a ∷ w) vs = place_other a b w us vs e in
    let one : suc (length us + place_in (a ∷ w) vs) ≡ suc (length us) + place_in (a ∷ w) vs = omega arith in
    rw e (ap suc rest ∙ one)

-- and among those that begin with its own.
place_own : (a : ℕ) (w : List ℕ) (us vs : List (List ℕ)) → place_in w us < length us
    → place_in (a ∷ w) (map (λ (u : List ℕ). a ∷ u) us ++ vs) ≡ place_in w us
place_own a w [] vs l = let z : ⊥ = omega arith in absurd z
place_own a w (u ∷ us) vs l = rw (eq-eqb a a refl) (go (same_list u w) l (place_own a w us vs))
  where
    go : (b : Bool) → cond b 0 (suc (place_in w us)) < suc (length us)
        → (place_in w us < length us → place_in (a ∷ w) (map (λ (u : List ℕ). a ∷ u) us ++ vs) ≡ place_in w us)
        → cond b 0 (suc (place_in (a ∷ w) (map (λ (u : List ℕ). a ∷ u) us ++ vs))) ≡ cond b 0 (suc (place_in w us))
    go true l ih = refl
    go false l ih = ap suc (ih (omega arith))

module _ (a : ℕ) (w : List ℕ) (f : List ℕ → List ℕ → List (List ℕ)) (g : List ℕ → List ℕ → ℕ) where
  -- Where w stands among the words that f gives for a choice, and how many those are.
  abbrev Counted : Choice → Type 0
  Counted c =
      (length (f c.letters c.marks) ≡ orders c.marks)
      × (c.letter ≡ a → (place_in w (f c.letters c.marks) ≡ g c.letters c.marks) × (g c.letters c.marks < orders c.marks))

  places_walk : (cs : List Choice) → Every Counted cs → Some (λ c. c.letter ≡ a) cs
      → (place_in (a ∷ w) (taken_from f cs) ≡ place_from a g cs) × (place_from a g cs < length (taken_from f cs))
  places_walk [] h s = absurd s
  places_walk (c ∷ cs) h s = go (eqb c.letter a) refl s (places_walk cs h.1)
    where
      own : List (List ℕ)
      own = f c.letters c.marks

      all : length (taken_from f (c ∷ cs)) ≡ orders c.marks + length (taken_from f cs)
      all =
          length-append (map (λ (u : List ℕ). c.letter ∷ u) own) (taken_from f cs)
          ∙ ap (λ (k : ℕ). k + length (taken_from f cs)) (length-map own (λ (u : List ℕ). c.letter ∷ u) ∙ h.0.0)

      later : eqb c.letter a ≡ false → (c.letter ≡ a) ⊎ Some (λ c. c.letter ≡ a) cs → Some (λ c. c.letter ≡ a) cs
      later e (inl q) = absurd (eqb-false c.letter a e q)
      later e (inr t) = t

      go : (b : Bool) → eqb c.letter a ≡ b → (c.letter ≡ a) ⊎ Some (λ c. c.letter ≡ a) cs
          → (Some (λ c. c.letter ≡ a) cs → (place_in (a ∷ w) (taken_from f cs) ≡ place_from a g cs) × (place_from a g cs < length (taken_from f cs)))
          → (place_in (a ∷ w) (taken_from f (c ∷ cs)) ≡ cond b (g c.letters c.marks) (orders c.marks + place_from a g cs))
          × (cond b (g c.letters c.marks) (orders c.marks + place_from a g cs) < length (taken_from f (c ∷ cs)))
      go true e s rest =
          let q : c.letter ≡ a = eqb-true c.letter a e in
          let here : (place_in w own ≡ g c.letters c.marks) × (g c.letters c.marks < orders c.marks) = h.0.1 q in
          let below : place_in w own < length own = omega (arith, here.0, here.1, h.0.0) in
          let same : place_in (a ∷ w) (map (λ (u : List ℕ). c.letter ∷ u) own ++ taken_from f cs) ≡ place_in w own = rw q (place_own a w own (taken_from f cs) below) in
          (same ∙ here.0, omega (arith, all, here.1))
      go false e s rest =
          let more : (place_in (a ∷ w) (taken_from f cs) ≡ place_from a g cs) × (place_from a g cs < length (taken_from f cs)) = rest (later e s) in
          (place_other a c.letter w own (taken_from f cs) e ∙ ap₂ ◌+◌ h.0.0 more.0, omega (arith, all, more.1))

pub taken-place : (n l : ℕ) (ys ms w : List ℕ) → OpenRibbon n l ys ms → Kept ys ms w
    → (place_in w (taken_words l ys ms) ≡ place_of w ys ms) × (place_of w ys ms < orders ms)
unfolding orders
taken-place n zero [] [] [] h k = (refl, omega arith)
taken-place n zero [] [] (a ∷ w) h k = absurd (omega (arith, k.counts a, count_head a w))
taken-place n zero [] (m ∷ ms) w h k = absurd h.linked
taken-place n zero (y ∷ ys) ms w h k = absurd (omega (arith, h.cells))
taken-place n (suc l) [] ms [] h k = absurd (omega (arith, h.cells))
taken-place n (suc l) (y ∷ ys) ms [] h k = absurd (omega (arith, k.counts y, count_head y ys))
taken-place n (suc l) ys ms (a ∷ w) h k =
    let walked = places_walk a w (taken_words l) (place_of w) (choices ys ms) (every_both _ _ _ (choices ys ms)
    (λ c o e. (taken_size n l c.letters c.marks o, λ q. taken-place n l c.letters c.marks w o ((e w).0 (rw q k))))
    (choices_open n l ys ms h) (kept_first n (suc l) ys ms h)) (kept_letter n (suc l) a ys ms w h k) in
    (walked.0, omega (arith, walked.1, taken_size n (suc l) ys ms h))

-- ---- classes

-- Word k of a class: past the last one, no letters.
pub class_word_lem : (n : ℕ) (xs ms : List ℕ) → Within n xs → Tableau xs ms → (k : ℕ) → class_word n xs ms k ≡ word_at (length xs) xs (freed ms) k
class_word_lem n xs ms w h k =
    ap (λ (ws : List (List ℕ)). get_or ws k []) (class_words_lem n xs ms w h) ∙ taken_word n (length xs) xs (freed ms) (tableau_open n xs ms w h) k

-- The place of a word in the class of a tableau that it has.
pub class_place : (n : ℕ) (xs ms w : List ℕ) → Within n xs → Tableau xs ms → Kept xs (freed ms) w
    → (place_in w (class_words n xs ms) ≡ place_of w xs (freed ms)) × (place_of w xs (freed ms) < orders (freed ms))
class_place n xs ms w i h k =
    let place = taken-place n (length xs) xs (freed ms) w (tableau_open n xs ms i h) k in
    (ap (place_in w) (class_words_lem n xs ms i h) ∙ place.0, place.1)

-- A word is in the class of its own tableau.
own_kept : (w : List ℕ) → Kept (letters_of w) (freed (marks_of w)) w
own_kept w = (class_kept w (letters_of w) (marks_of w) (tableau_of_word w)).0 (rw (same_refl (letters_of w), same_refl (marks_of w)))

module _ (n : ℕ) (w : List ℕ) (h : Within n w) where
  own_place : (class_number n w ≡ place_of w (letters_of w) (freed (marks_of w))) × (place_of w (letters_of w) (freed (marks_of w)) < orders (freed (marks_of w)))
  own_place = class_place n (letters_of w) (marks_of w) w (letters-within n w h) (tableau_of_word w) (own_kept w)

  -- The number of a word in its own class,
  pub class_number_lem : class_number n w ≡ place_of w (letters_of w) (freed (marks_of w))
  class_number_lem = own_place.0

  -- below the orders of its tableau,
  pub place-below : place_of w (letters_of w) (freed (marks_of w)) < orders (freed (marks_of w))
  place-below = own_place.1

  -- and so below the size of the class.
  pub number-below : class_number n w < class_size n (letters_of w) (marks_of w)
  number-below = omega (arith, own_place.0, own_place.1, class_size_lem n (letters_of w) (marks_of w) (letters-within n w h) (tableau_of_word w))
