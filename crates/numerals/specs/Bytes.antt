-- Single bytes at a place of the text: what is left there is the text without the bytes before it.
--     le-or-lt                       order is decided
--     starts_with k t                 the byte k stands first in t
--     digit_of t                      the digit that stands first in t, if one does
--     starts_inside, digit_inside    where a byte or a digit stands is in the text
--     left_there                     what is left there begins with the byte at that place
--     after_there, after_none        a byte that the grammar asks for, and what follows
-- Assumes nothing.
use Rattle.std.specs.Prelude.{ℕ, ◌+◌, ◌-◌, ◌≤◌, ◌<◌, ◌≡◌, refl, Bool, true, false, cond, ◌⊎◌, List, [], ◌∷◌, Option, Some, None, eqb, leb, length, get_or, drop}
use Rattle.std.proofs.Common.{sym, ◌∙◌, true≢false, inl, inr, ⊎_elim, add-one, drop_of_length-le, drop-cons, leb-false, leb-true}
use Rattle.grammar.specs.Reading.{Read, after, broken, digit}

-- Order is decided.
pub le-or-lt : (a b : ℕ) → (a ≤ b) ⊎ (b < a)
le-or-lt a b = go (leb a b) refl
  where
    go : (t : Bool) → leb a b ≡ t → (a ≤ b) ⊎ (b < a)
    go true e = inl (leb-true a b e)
    go false e = inr (leb-false a b e)

-- The byte stands first.
abbrev pub starts_with : ℕ → List ℕ → Bool
starts_with k [] = false
starts_with k (b ∷ t) = eqb b k

-- The digit that stands first.
abbrev pub digit_of : List ℕ → Option ℕ
digit_of [] = None
digit_of (b ∷ t) = cond (digit b) (Some (b - 48)) None

module _ (text : List ℕ) (at : ℕ) where
  -- No byte stands beyond the text,
  pub stands_none : (k : ℕ) → length text ≤ at → false ≡ starts_with k (drop at text)
  stands_none k l = rw (drop_of_length-le text l)

  -- and in it the one at that place.
  pub stands_byte : (k : ℕ) → at < length text → eqb (get_or text at 0) k ≡ starts_with k (drop at text)
  stands_byte k l = rw (drop-cons text at 0 l)

  pub digit_none : length text ≤ at → None ≡ digit_of (drop at text)
  digit_none l = rw (drop_of_length-le text l)

-- Where a byte or a digit stands is in the text.
module _ (text : List ℕ) (at : ℕ) where
  pub starts_inside : (k : ℕ) → starts_with k (drop at text) ≡ true → at < length text
  starts_inside k e =
      ⊎_elim (λ l. let z : false ≡ true = stands_none text at k l ∙ e in absurd (true≢false (sym z))) (λ l. l) (le-or-lt (length text) at)

  pub digit_inside : {d : ℕ} → Some d ≡ digit_of (drop at text) → at < length text
  digit_inside e = ⊎_elim (λ l. let z : ⊥ = cc (digit_none text at l) in absurd z) (λ l. l) (le-or-lt (length text) at)

  -- What is left there begins with the byte at that place.
  pub left_there : at < length text → drop at text ≡ get_or text at 0 ∷ drop (at + 1) text
  left_there l = rw (add-one at) (drop-cons text at 0 l)

  -- A byte that the grammar asks for: what follows is read on.
  pub after_there : {A : Type 0} (k : ℕ) (r : List ℕ → Read A) → starts_with k (drop at text) ≡ true → after k r (drop at text) ≡ r (drop (at + 1) text)
  after_there k r e =
      let is : eqb (get_or text at 0) k ≡ true = stands_byte text at k (starts_inside k e) ∙ e in
      rw (left_there (starts_inside k e), is)

-- Where it does not stand the grammar breaks.
pub after_none : {A : Type 0} (k : ℕ) (r : List ℕ → Read A) (t : List ℕ) → starts_with k t ≡ false → after k r t ≡ broken t
after_none k r [] e = refl
after_none k r (b ∷ t) e = rw e
