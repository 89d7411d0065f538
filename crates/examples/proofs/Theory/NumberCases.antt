-- Sizes and numbers of classes, pinned: the list of numbering's specs/Cases.antt, computed by the checker from the definitions alone, without a law.
--     numbers_pinned      the list
-- Assumes nothing.
use mathlib.Core.Path.{◌≡◌, refl}
use mathlib.Core.List.{map}
use Rattle.outcomes.specs.Counts.{counts_judged}
use Rattle.hypoplactic.specs.Insertion.{insert, pair_of}
use Rattle.outcomes.specs.Judgements.{alike_judged, length_judged, letters_judged, marks_judged, rank_judged, rising_judged, room_judged}
use Rattle.outcomes.specs.Starred.{Case}
use Rattle.numbering.specs.Dictionary.{class_words, words}
use Rattle.numbering.specs.Operations.{class_number_says, class_size_says, class_word_run, class_word_says, number_judged, small_judged}
use Rattle.numbering.specs.Cases.{number_cases}

pub numbers_pinned : map (λ (c : Case). c.meaning) number_cases ≡ map (λ (c : Case). c.document) number_cases
unfolding number_cases words class_words pair_of insert rank_judged length_judged alike_judged letters_judged rising_judged marks_judged counts_judged room_judged small_judged number_judged class_size_says class_word_says class_word_run class_number_says
numbers_pinned = refl
