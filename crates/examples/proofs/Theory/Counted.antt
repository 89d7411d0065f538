-- Letter counts, pinned: the list of specs/Counted.antt, computed by the checker.
--     counts_pinned     the list
-- Assumes nothing.
use mathlib.Core.Path.{◌≡◌, refl}
use mathlib.Core.List.{map}
use Rattle.grammar.specs.Reading.{read_p, read_t}
use Rattle.outcomes.specs.Counts.{counts_judged, counts_of}
use Rattle.hypoplactic.specs.Insertion.{insert, pair_of}
use Rattle.quasi_crystal.specs.Moves.{repeat_tableau}
use Rattle.outcomes.specs.Judgements.{alike_judged, entries_judged, full_judged, index_judged, inversion_judged, length_judged, letter_judged, letters_judged, marks_judged, rank_judged, recording_judged, rising_judged, room_judged, used_judged}
use Rattle.outcomes.specs.TableauOperations.{insert_run, insert_says, move_tableau_run, move_tableau_says, pair_run, pair_says, reading_says, repeat_tableau_says, word_says}
use Rattle.outcomes.specs.LineReadings.{read_p_run, read_t_run}
use Rattle.outcomes.specs.Starred.{Case}
use Rattle.examples.specs.Counted.{count_cases}

-- 17 stands where document 02 has it, names each place, and the counts follow the letters.
pub counts_pinned : map (λ (c : Case). c.meaning) count_cases ≡ map (λ (c : Case). c.document) count_cases
unfolding count_cases counts_of counts_judged read_t read_p pair_of insert repeat_tableau rank_judged length_judged alike_judged used_judged letters_judged rising_judged marks_judged entries_judged recording_judged index_judged inversion_judged letter_judged full_judged room_judged pair_says pair_run insert_says insert_run word_says reading_says move_tableau_says move_tableau_run repeat_tableau_says read_p_run read_t_run
counts_pinned = refl
