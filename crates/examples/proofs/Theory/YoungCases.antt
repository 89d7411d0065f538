-- The cases of Young tableaux (plactic_outcomes' specs/Cases), computed by the checker.
--     tableaux_pinned      tableaux of words
--     way_back_pinned      and the words found again
--     inserted_pinned      one letter inserted
--     young_refused        refusals
-- Assumes nothing.
use mathlib.Core.Path.{◌≡◌, refl}
use mathlib.Core.List.{map}
use Rattle.outcomes.specs.Judgements.{alike_judged, full_judged, length_judged, letters_judged, rank_judged, room_judged, used_judged}
use Rattle.outcomes.specs.Starred.{Case}
use Rattle.plactic.specs.FlatForm.{rows_in}
use Rattle.plactic.specs.Schensted.{young_of}
use Rattle.plactic.specs.WayBack.{word_of_young}
use Rattle.plactic_outcomes.specs.Cases.{insert_young_cases, way_back_cases, young_cases, young_refusals}
use Rattle.plactic_outcomes.specs.Judgements.{young_judged}
use Rattle.plactic_outcomes.specs.Operations.{insert_young_run, insert_young_says, word_young_run, word_young_says, young_run, young_says}

pub tableaux_pinned : map (λ (c : Case). c.meaning) young_cases ≡ map (λ (c : Case). c.document) young_cases
unfolding rank_judged length_judged letters_judged room_judged young_of young_says young_run
tableaux_pinned = refl

pub way_back_pinned : map (λ (c : Case). c.meaning) way_back_cases ≡ map (λ (c : Case). c.document) way_back_cases
unfolding rank_judged length_judged alike_judged letters_judged room_judged rows_in word_of_young young_judged word_young_says word_young_run
way_back_pinned = refl

pub inserted_pinned : map (λ (c : Case). c.meaning) insert_young_cases ≡ map (λ (c : Case). c.document) insert_young_cases
unfolding rank_judged length_judged alike_judged used_judged letters_judged full_judged room_judged rows_in young_judged insert_young_says insert_young_run
inserted_pinned = refl

pub young_refused : map (λ (c : Case). c.meaning) young_refusals ≡ map (λ (c : Case). c.document) young_refusals
unfolding rank_judged length_judged alike_judged used_judged letters_judged full_judged room_judged young_of rows_in word_of_young young_judged young_says young_run word_young_says word_young_run insert_young_says insert_young_run
young_refused = refl
