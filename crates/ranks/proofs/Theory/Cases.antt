-- Classes, lines and moves of two ranks, pinned: the list of specs/Cases.antt, computed by the checker from the definitions alone, without a law.
--     ranks_pinned     the list
-- Assumes nothing.
use mathlib.Core.Path.{◌≡◌, refl}
use mathlib.Core.List.{map}
use Rattle.grammar.specs.Numbers.{decimal}
use Rattle.grammar.specs.Lines.{t_line}
use Rattle.hypoplactic.specs.Insertion.{insert, pair_of}
use Rattle.hypoplactic.specs.Junctions.{junction_set, number, same_class}
use Rattle.outcomes.specs.Judgements.{index_judged, inversion_judged, length_judged, letter_judged, letters_judged, rank_judged}
use Rattle.outcomes.specs.WordOperations.{move_word_run, move_word_says, same_class_says}
use Rattle.quasi_crystal.specs.Classes.{tableau_line}
use Rattle.outcomes.specs.Starred.{Case}
use Rattle.ranks.specs.Unranked.{without_rank}
use Rattle.ranks.specs.Ranks.{unranked_line}
use Rattle.ranks.specs.Cases.{rank_cases}

pub ranks_pinned : map (λ (c : Case). c.meaning) rank_cases ≡ map (λ (c : Case). c.document) rank_cases
unfolding rank_cases unranked_line without_rank tableau_line t_line decimal pair_of insert junction_set number same_class rank_judged length_judged letters_judged index_judged inversion_judged letter_judged move_word_says move_word_run same_class_says
ranks_pinned = refl
