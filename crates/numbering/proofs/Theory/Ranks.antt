-- The rank bounds the letters of a class's words and has no part in their numbers (document 02, N5).
--     class_ranks     at every rank that a tableau is within, its class has the same words in the same order
--     size_ranks, word_ranks, number_ranks     so the three operations reply and leave the same at any two ranks that accept their tableau or word,
--                     whatever the letter counts
-- Assumes nothing.
use Prim.Native.Nat.{ℕ}
use mathlib.Core.Path.{◌≡◌, refl, sym, ap, ◌∙◌}
use mathlib.Core.List.{List, [], ◌∷◌, ◌++◌}
use lib.ListN.{length, get_or}
use Rattle.hypoplactic.specs.Words.{Accepted, Within}
use Rattle.hypoplactic.specs.Ribbons.{Tableau, TableauAt}
use Rattle.hypoplactic.specs.Insertion.{letters_of, marks_of}
use Rattle.outcomes.specs.Replies.{Said, first, gives, ran_to, written}
use Rattle.outcomes.specs.Counts.{counts_judged}
use Rattle.outcomes.specs.Judgements.{room_judged, tableau_judgements, word_judgements}
use Rattle.hypoplactic.proofs.Theory.Boundary.{tableau_of_word}
use Rattle.hypoplactic.proofs.Theory.Limits.{letters-within}
use Rattle.outcomes.proofs.Theory.Judged.{tableau_passing, word_passing}
use Rattle.outcomes.proofs.Theory.Passing.{Passing, first_past}
use Rattle.numbering.specs.Dictionary.{class_size, class_word, class_words, place_in}
use Rattle.numbering.specs.Operations.{class_judgements, class_number_says, class_size_says, class_word_run, class_word_says, number_judged, small_judged}
use Rattle.numbering.proofs.Theory.ClassSize.{class_words_lem}

-- The words of a class at two ranks that its tableau is within.
pub class_ranks : (n m : ℕ) (xs ms : List ℕ) → Within n xs → Within m xs → Tableau xs ms → class_words n xs ms ≡ class_words m xs ms
class_ranks n m xs ms l k h = class_words_lem n xs ms l h ∙ sym (class_words_lem m xs ms k h)

-- Past judgements that refuse nothing, two chains go on alike.
past-both : (js ks rest : List Said) (a b : Said) → Passing js → Passing ks → a ≡ b → first (js ++ rest) a ≡ first (ks ++ rest) b
past-both js ks rest a b p q e = first_past js rest a p ∙ ap (first rest) e ∙ sym (first_past ks rest b q)

module _ (n m : ℕ) (xs ms cs : List ℕ) (h : TableauAt n xs ms) (g : TableauAt m xs ms) where
  same_words : class_words n xs ms ≡ class_words m xs ms
  same_words = class_ranks n m xs ms h.word.letters g.word.letters h.tableau

  -- The checks of the tableau pass at both ranks; what is said after them is said at both.
  same_said : (rest : List Said) (a b : Said) → a ≡ b → first (tableau_judgements n xs ms ++ rest) a ≡ first (tableau_judgements m xs ms ++ rest) b
  same_said rest a b e =
      past-both (tableau_judgements n xs ms) (tableau_judgements m xs ms) rest a b ((tableau_passing n xs ms).1 h) ((tableau_passing m xs ms).1 g) e

  pub size_ranks : class_size_says n xs ms cs ≡ class_size_says m xs ms cs
  unfolding class_size_says
  size_ranks = same_said (counts_judged cs xs ∷ small_judged (length xs) ∷ []) _ _ (ap (λ (ws : List (List ℕ)). gives (length ws ∷ [])) same_words)

  pub word_ranks : (k : ℕ) (out : List ℕ) → class_word_run n xs ms cs k out ≡ class_word_run m xs ms cs k out
  unfolding class_word_run class_word_says
  word_ranks k out =
      let made : List (List ℕ) → Said × List ℕ
      = λ ws.
      ran_to (first (class_judgements m xs ms cs ++ (number_judged k (length ws) ∷ room_judged (length xs) (length out) ∷ [])) (gives (length xs ∷ [])))
      (written (get_or ws k []) out) out in
      ap (λ (s : Said). ran_to s (written (class_word n xs ms k) out) out)
      (same_said (counts_judged cs xs ∷ small_judged (length xs) ∷ number_judged k (class_size n xs ms) ∷ room_judged (length xs) (length out) ∷ [])
      (gives (length xs ∷ [])) _ refl)
      ∙ ap made same_words

pub number_ranks : (n m : ℕ) (w : List ℕ) → Accepted n w → Accepted m w → class_number_says n w ≡ class_number_says m w
unfolding class_number_says
number_ranks n m w a b =
    past-both (word_judgements n w) (word_judgements m w) (small_judged (length w) ∷ []) _ _ ((word_passing n w).1 a) ((word_passing m w).1 b)
    (ap (λ (ws : List (List ℕ)). gives (place_in w ws ∷ []))
    (class_ranks n m (letters_of w) (marks_of w) (letters-within n w a.letters) (letters-within m w b.letters) (tableau_of_word w)))
