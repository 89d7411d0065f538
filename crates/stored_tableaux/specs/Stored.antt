-- What the operations on two tableaux say from their marks and letter counts.
--     marks_equal                       the library's test of two lists of marks
--     other_counts, by_marks            whether they are of one class, past the checks, from what the tests find
--     weights_tested                    what the comparison of the counts says, past the checks
--     class_refused, weights_refused    what is said where the checks refuse
--     storing                           the ruleset of the operations
-- Assumes nothing.
use Rattle.std.specs.Prelude.{ℕ, ◌≡◌, refl, List, [], ◌∷◌, Bool, true, false, ◌&&◌, eqb, Ok}
use Rattle.std.specs.Cmp.Lexicographic.{pointwise}
use Rattle.std.proofs.Common.{sym, ap, ◌∙◌, rules}
use Rattle.outcomes.specs.Counts.{TrueCounts}
use Rattle.outcomes.specs.Replies.{Said, gives, passed, first}
use Rattle.hypoplactic.specs.Junctions.{same_counts}
use Rattle.hypoplactic.specs.Weights.{Comparison}
use Rattle.outcomes.specs.WordOperations.{comparison_number}
use Rattle.hypoplactic.specs.Words.{tick}
use Rattle.outcomes.proofs.Theory.Passing.{first_else}
use Rattle.numbering.specs.Dictionary.{same_list}
use Rattle.letter_counts.specs.TwoTableaux.{same_class_tableaux_says, same_stored, tableaux_judgements, weights_tableaux_says}
use Rattle.letter_counts.proofs.Theory.TwoTableaux.{tableaux_passing}
use Rattle.refusals.specs.Chains.{halts, proceeds}
use Rattle.refusals.specs.Running.{all_passing}
use Rattle.refusals.specs.Said.{said_class, said_refusal}
use Rattle.refusals.specs.declared.refusal.Refusal.{Refusal}
use Rattle.classes.specs.Classes.{class_said}
use Rattle.classes.specs.Tables.{same_true, same_tables}
use Rattle.weight_sums.specs.Tables.{compare_tables}
use Rattle.weights.specs.Weights.{compare_true}

-- The library's test compares one by one.
marks_equal : (xs ys : List ℕ) → pointwise eqb xs ys ≡ same_list xs ys
marks_equal [] [] = refl
marks_equal [] (y ∷ ys) = refl
marks_equal (x ∷ xs) [] = refl
marks_equal (x ∷ xs) (y ∷ ys) = ap (λ (b : Bool). eqb x y && b) (marks_equal xs ys)

module _ (n : ℕ) (xs ms cs : List ℕ) (m : ℕ) (ys ns ds : List ℕ) where
  -- ---- past the checks

  module _ (e : gives [] ≡ first (tableaux_judgements n xs ms cs m ys ns ds) passed) where
    -- The counts of both are true,
    both_true : TrueCounts xs cs × TrueCounts ys ds
    both_true = let (h, k, c, d) = (tableaux_passing n xs ms cs m ys ns ds).0 (all_passing {v = Ok tt} (tableaux_judgements n xs ms cs m ys ns ds) e refl) in (c, d)

    -- so equal counts tell that each letter stands equally often,
    counts-told : {b : Bool} → b ≡ same_tables cs ds → same_counts 64 1 xs ys ≡ b
    counts-told f = let (c, d) = both_true in sym (f ∙ same_true xs ys c d)

    class_told : (b : Bool) → b ≡ same_stored xs ms ys ns → said_class (Ok b) ≡ same_class_tableaux_says n xs ms cs m ys ns ds
    unfolding same_class_tableaux_says
    class_told b h =
        class_said b ∙ proceeds e (ap (λ (c : Bool). gives (tick c 0 ∷ [])) h) ∙ first_else (tableaux_judgements n xs ms cs m ys ns ds) _

    -- other counts are of other classes,
    pub other_counts : {b : Bool} → b ≡ same_tables cs ds → b ≡ false → said_class (Ok b) ≡ same_class_tableaux_says n xs ms cs m ys ns ds
    unfolding same_stored
    other_counts {b} f q = class_told b (rw (counts-told f, q))

    -- the marks decide where they are equal,
    pub by_marks : {b t : Bool} → b ≡ same_tables cs ds → b ≡ true → t ≡ pointwise eqb ms ns
        → said_class (Ok t) ≡ same_class_tableaux_says n xs ms cs m ys ns ds
    unfolding same_stored
    by_marks {b} {t} f q p = class_told t (rw (counts-told f, q) (p ∙ marks_equal ms ns))

    -- and the comparison of the counts is that of the weights.
    pub weights_tested : {s : Said} → s ≡ gives (comparison_number (compare_tables cs ds) ∷ []) → s ≡ weights_tableaux_says n xs ms cs m ys ns ds
    unfolding weights_tableaux_says
    weights_tested f =
        let (c, d) = both_true in
        proceeds e (f ∙ ap (λ (c : Comparison). gives (comparison_number c ∷ [])) (compare_true xs ys c d))
        ∙ first_else (tableaux_judgements n xs ms cs m ys ns ds) _

  -- ---- where they refuse

  pub class_refused : (r : Refusal) → said_refusal r ≡ first (tableaux_judgements n xs ms cs m ys ns ds) passed
      → said_refusal r ≡ same_class_tableaux_says n xs ms cs m ys ns ds
  unfolding same_class_tableaux_says
  class_refused r e = halts r _ e ∙ first_else (tableaux_judgements n xs ms cs m ys ns ds) _

  pub weights_refused : (r : Refusal) → said_refusal r ≡ first (tableaux_judgements n xs ms cs m ys ns ds) passed
      → said_refusal r ≡ weights_tableaux_says n xs ms cs m ys ns ds
  unfolding weights_tableaux_says
  weights_refused r e = halts r _ e ∙ first_else (tableaux_judgements n xs ms cs m ys ns ds) _

pub ruleset storing = (other_counts, by_marks, weights_tested, class_refused, weights_refused, rules)
