-- Two tableaux with letter counts, operation against operation (document 02, N6): what the class and the weights of two tableaux reply is what those of their
-- column readings do.
--     tableaux_passing             1 to 6 and 17 refuse nothing exactly for two tableaux within the limits whose letter counts are true
--     class_tableaux_result, weights_tableaux_result       what such tableaux get
--     class_as_readings            they are of one class as their column readings are
--     weights_as_readings          and their weights compare as those of their column readings
-- Each tableau is within the limits of its own rank. Assumes nothing.
use Prim.Native.Nat.{ℕ}
use mathlib.Core.Path.{◌≡◌, sym, ap, ◌∙◌}
use mathlib.Core.Logic.{◌↔◌}
use mathlib.Core.List.{List, [], ◌∷◌}
use mathlib.Core.Bool.{Bool}
use lib.ListN.{length}
use Rattle.hypoplactic.specs.Words.{tick}
use Rattle.outcomes.specs.Counts.{TrueCounts, counts_judged}
use Rattle.hypoplactic.specs.Ribbons.{TableauAt}
use Rattle.hypoplactic.specs.Reading.{column_reading}
use Rattle.hypoplactic.specs.Weights.{Comparison, compare_weights}
use Rattle.outcomes.specs.Replies.{gives}
use Rattle.outcomes.specs.Judgements.{letters_judged, marks_judged, rising_judged}
use Rattle.outcomes.specs.WordOperations.{comparison_number, same_class_says, weights_says}
use Rattle.quasi_crystal.proofs.Theory.Closure.{reading_accepted}
use Rattle.outcomes.proofs.Theory.Counts.{counts-judged}
use Rattle.outcomes.proofs.Theory.Judged.{tableau_passing}
use Rattle.outcomes.proofs.Theory.Passing.{Passing, first_answer, passes-further, passes_nearer}
use Rattle.outcomes.proofs.Theory.Results.{same_class_result, weights_result}
use Rattle.letter_counts.specs.TwoTableaux.{same_class_tableaux_says, same_stored, tableaux_judgements, weights_tableaux_says}
use Rattle.letter_counts.proofs.Theory.StoredCounts.{class_stored, weights_stored}

module _ (n : ℕ) (xs ms cs : List ℕ) (m : ℕ) (ys ns ds : List ℕ) where
  -- Both are tableaux within the limits, and the letter counts of both are true.
  abbrev Counted : Type 0
  Counted = TableauAt n xs ms × TableauAt m ys ns × TrueCounts xs cs × TrueCounts ys ds

  -- 1 to 6 and 17 refuse nothing: exactly then.
  pub tableaux_passing : Passing (tableaux_judgements n xs ms cs m ys ns ds)
      ↔ (TableauAt n xs ms × TableauAt m ys ns × TrueCounts xs cs × TrueCounts ys ds)
  tableaux_passing = (there, back)
    where
      there : Passing (tableaux_judgements n xs ms cs m ys ns ds) → Counted
      there (rank, (rank', (short, (short', (alike, (alike', (letters, (letters', (rising, (rising', (marks, (marks', (counts, (counts', t)))))))))))))) =
          let inside = passes_nearer (length xs) (letters_judged m ys) letters' in
          let rises = passes_nearer (length xs) (rising_judged ys) rising' in
          let steps = passes_nearer (length xs) (marks_judged ys ns) marks' in
          let counted = passes_nearer 64 (counts_judged ds ys) counts' in (
            (tableau_passing n xs ms).0 (rank, (short, (alike, (letters, (rising, (marks, tt)))))),
            (tableau_passing m ys ns).0 (rank', (short', (alike', (inside, (rises, (steps, tt)))))),
            (counts-judged cs xs).0 counts,
            (counts-judged ds ys).0 counted,
          )

      back : Counted → Passing (tableaux_judgements n xs ms cs m ys ns ds)
      back (h, k, c, d) =
          let (rank, (short, (alike, (letters, (rising, (marks, t)))))) = (tableau_passing n xs ms).1 h in
          let (rank', (short', (alike', (letters', (rising', (marks', t')))))) = (tableau_passing m ys ns).1 k in
          let inside = passes-further (length xs) (letters_judged m ys) letters' in
          let rises = passes-further (length xs) (rising_judged ys) rising' in
          let steps = passes-further (length xs) (marks_judged ys ns) marks' in
          let counted = passes-further 64 (counts_judged ds ys) ((counts-judged ds ys).1 d) in
          (rank, (rank', (short, (short', (alike, (alike', (letters, (inside, (rising, (rises, (marks, (steps, ((counts-judged cs xs).1 c, (counted, tt))))))))))))))

  module _ (h : TableauAt n xs ms) (k : TableauAt m ys ns) (c : TrueCounts xs cs) (d : TrueCounts ys ds) where
    -- Whether they are of one class: 1 or 0.
    pub class_tableaux_result : same_class_tableaux_says n xs ms cs m ys ns ds ≡ gives (tick (same_stored xs ms ys ns) 0 ∷ [])
    unfolding same_class_tableaux_says
    class_tableaux_result = first_answer (tableaux_judgements n xs ms cs m ys ns ds) _ (tableaux_passing.1 (h, k, c, d))

    -- The comparison of their weights.
    pub weights_tableaux_result : weights_tableaux_says n xs ms cs m ys ns ds ≡ gives (comparison_number (compare_weights xs ys) ∷ [])
    unfolding weights_tableaux_says
    weights_tableaux_result = first_answer (tableaux_judgements n xs ms cs m ys ns ds) _ (tableaux_passing.1 (h, k, c, d))

    -- The class of two tableaux, as for the column readings;
    pub class_as_readings : same_class_tableaux_says n xs ms cs m ys ns ds ≡ same_class_says n (column_reading xs ms) m (column_reading ys ns)
    class_as_readings =
        class_tableaux_result
        ∙ ap (λ (b : Bool). gives (tick b 0 ∷ [])) (sym (class_stored h k))
        ∙ sym (same_class_result n (column_reading xs ms) m (column_reading ys ns) (reading_accepted h) (reading_accepted k))

    -- and their weights.
    pub weights_as_readings : weights_tableaux_says n xs ms cs m ys ns ds ≡ weights_says n (column_reading xs ms) m (column_reading ys ns)
    weights_as_readings =
        weights_tableaux_result
        ∙ ap (λ (c : Comparison). gives (comparison_number c ∷ [])) (sym (weights_stored xs ms ys ns h.tableau k.tableau))
        ∙ sym (weights_result n (column_reading xs ms) m (column_reading ys ns) (reading_accepted h) (reading_accepted k))
