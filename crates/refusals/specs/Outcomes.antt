-- What the operations below say of a word that is accepted, and of one that is not, where their outputs have room for every accepted word.
--     Outcome                  accepted, and the values are given; or refused by the checks of a word alone, whatever checks follow
--     outcome                  one of the two holds of every word
--     not_both, same_values, same_refusal             replies that are equal
--     wrote_memory, wrote_elements, wrote_refused     an answer that says what a run says, where the run gives values
-- Assumes nothing.
use Rattle.std.specs.Prelude.{ℕ, ◌≡◌, refl, List, [], ◌∷◌, ◌++◌, ◌⊎◌, get_or, Result, Ok, Err}
use Rattle.std.proofs.Common.{sym, ap, ◌∙◌, ⊎_elim, inl, inr, arith}
use Rattle.hypoplactic.specs.Words.{Accepted}
use Rattle.outcomes.specs.Replies.{Said, gives, refused, first}
use Rattle.outcomes.specs.Judgements.{word_judgements}
use Rattle.outcomes.proofs.Theory.Judged.{word_passing}
use Rattle.outcomes.proofs.Theory.Passing.{Passing, first-both}
use Rattle.refusals.specs.Said.{said_value}
use Rattle.refusals.specs.declared.refusal.Refusal.{Refusal}

-- ---- words

-- What is said of a word by its checks and those after them, which give the values vs where none refuses.
pub data Outcome (n : ℕ) (w : List ℕ) (ks : List Said) (vs : List ℕ) : Type 0 where
  accepted : Accepted n w → first (word_judgements n w ++ ks) (gives vs) ≡ gives vs → Outcome n w ks vs
  stopped : (k p : ℕ) → ((ls : List Said) (a : Said) → first (word_judgements n w ++ ls) a ≡ refused k p) → Outcome n w ks vs

-- Checks refuse nothing, or refuse whatever follows them.
either : (js : List Said) → Passing js ⊎ ((k : ℕ) × (p : ℕ) × ((ls : List Said) (a : Said) → first (js ++ ls) a ≡ refused k p))
either [] = inl tt
either (gives vs ∷ js) = ⊎_elim (λ h. inl (tt, h)) (λ h. inr h) (either js)
either (refused k p ∷ js) = inr (k, p, λ ls a. refl)

pub outcome : (n : ℕ) (w : List ℕ) (ks : List Said) (vs : List ℕ) → (Accepted n w → Passing ks) → Outcome n w ks vs
outcome n w ks vs enough =
    ⊎_elim
    (λ h. let a : Accepted n w = (word_passing n w).0 h in accepted a (first-both (word_judgements n w) ks (gives vs) h (enough a)))
    (λ h. stopped h.0 h.1 h.2) (either (word_judgements n w))

-- ---- answers

-- A reply does not both give values and refuse.
pub not_both : {vs : List ℕ} {k p : ℕ} → gives vs ≡ refused k p → ⊥
not_both e = let z : ◌≡◌ {A = ℕ} 0 1 = cc in omega arith

-- The values that are given, and the refusal's number and place.
abbrev values : Said → List ℕ
values (gives vs) = vs
values (refused k p) = k ∷ p ∷ []

pub same_values : {us vs : List ℕ} → gives us ≡ gives vs → us ≡ vs
same_values e = ap values e

pub same_refusal : {k p j q : ℕ} → refused k p ≡ refused j q → (k ≡ j) × (p ≡ q)
same_refusal e = (ap (λ (s : Said). get_or (values s) 0 0) e, ap (λ (s : Said). get_or (values s) 1 0) e)

-- An answer r, beside memory that is now so, says what a run says that gives k elements and new memory.
module _ {A : Type 0} (r : Result ℕ Refusal) {now new : A} {k : ℕ} (e : ◌≡◌ {A = Said × A} (said_value r, now) (gives (k ∷ []), new)) where
  said : said_value r ≡ gives (k ∷ [])
  said = ap (λ (o : Said × A). o.0) e

  pub wrote_memory : now ≡ new
  wrote_memory = ap (λ (o : Said × A). o.1) e

  pub wrote_elements : (m : ℕ) → r ≡ Ok m → m ≡ k
  wrote_elements m q = ap (λ (vs : List ℕ). get_or vs 0 0) (same_values (sym (ap said_value q) ∙ said))

  pub wrote_refused : (q : Refusal) → r ≡ Err q → ⊥
  wrote_refused q h = not_both (sym said ∙ ap said_value h)
