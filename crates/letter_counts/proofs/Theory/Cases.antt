-- Two tableaux with letter counts, pinned: the list of specs/Cases.antt, computed by the checker from the definitions alone, without a law.
--     tableaux_pinned     the list
-- Assumes nothing.
use mathlib.Core.Path.{◌≡◌, refl}
use mathlib.Core.List.{map}
use Rattle.outcomes.specs.Counts.{counts_judged, counts_of}
use Rattle.outcomes.specs.Judgements.{alike_judged, length_judged, letters_judged, marks_judged, rank_judged, rising_judged}
use Rattle.outcomes.specs.Starred.{Case}
use Rattle.hypoplactic.specs.Weights.{compare_weights}
use Rattle.letter_counts.specs.TwoTableaux.{same_class_tableaux_says, same_stored, weights_tableaux_says}
use Rattle.letter_counts.specs.Cases.{tableaux_cases}

pub tableaux_pinned : map (λ (c : Case). c.meaning) tableaux_cases ≡ map (λ (c : Case). c.document) tableaux_cases
unfolding tableaux_cases counts_of counts_judged rank_judged length_judged alike_judged letters_judged rising_judged marks_judged same_stored compare_weights same_class_tableaux_says weights_tableaux_says
tableaux_pinned = refl
