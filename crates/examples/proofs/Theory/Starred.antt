-- The starred cases of document 01, all of them, of the written meaning: one theorem over the list of outcomes' specs/Starred.antt, computed by the checker.
-- Beside it the paper's worked examples, and the other checked words and refusals, the same way.
-- Assumes nothing.
use mathlib.Core.Path.{◌≡◌, refl}
use mathlib.Core.List.{map}
use lib.Count.{ones, ones_in}
use Rattle.grammar.specs.Numbers.{decimal}
use Rattle.grammar.specs.Lines.{w_line, t_line, p_line, j_line, e_line}
use Rattle.grammar.specs.Reading.{read_w, read_t, read_p}
use Rattle.hypoplactic.specs.Insertion.{insert, pair_of, word_of}
use Rattle.hypoplactic.specs.Reading.{column_reading}
use Rattle.quasi_crystal.specs.Moves.{repeat_word, repeat_tableau}
use Rattle.hypoplactic.specs.Junctions.{number, junction_set, rows_of, same_class}
use Rattle.hypoplactic.specs.Weights.{compare_weights}
use Rattle.outcomes.specs.Counts.{counts_of, counts_judged}
use Rattle.outcomes.specs.Judgements.{rank_judged, length_judged, letters_judged, index_judged, inversion_judged, letter_judged, alike_judged, used_judged, rising_judged, marks_judged, entries_judged, recording_judged, full_judged, room_judged}
use Rattle.outcomes.specs.WordOperations.{junction_says, move_word_says, move_word_run, repeat_word_says, same_class_says, weights_says}
use Rattle.outcomes.specs.TableauOperations.{pair_says, pair_run, insert_says, word_says, word_run, reading_says, reading_run, move_tableau_says, move_tableau_run, repeat_tableau_says, viewer_says, look_says}
use Rattle.outcomes.specs.LineOperations.{pair_line, tableau_line_run, program}
use Rattle.quasi_crystal.specs.Classes.{tableau_line}
use Rattle.outcomes.specs.LineReadings.{output, read_p_run, read_t_run}
use Rattle.outcomes.specs.Starred.{Case, starred_cases, worked_cases, refusal_cases}

-- Every starred case: the meaning is what the document says.
pub starred : map (λ (c : Case). c.meaning) starred_cases ≡ map (λ (c : Case). c.document) starred_cases
unfolding starred_cases output counts_of counts_judged read_w program pair_line tableau_line t_line p_line w_line j_line e_line decimal pair_of insert word_of column_reading junction_set number rows_of ones ones_in same_class compare_weights rank_judged length_judged alike_judged letters_judged rising_judged marks_judged entries_judged recording_judged index_judged inversion_judged letter_judged room_judged junction_says move_word_says move_word_run same_class_says weights_says pair_says pair_run word_says word_run reading_says reading_run tableau_line_run
starred = refl

-- Every worked example of the paper.
pub worked : map (λ (c : Case). c.meaning) worked_cases ≡ map (λ (c : Case). c.document) worked_cases
unfolding worked_cases pair_of insert column_reading repeat_word number junction_set same_class rank_judged length_judged letters_judged alike_judged rising_judged marks_judged index_judged repeat_word_says same_class_says look_says
worked = refl

-- The other checked words, and every refusal number.
pub refusals : map (λ (c : Case). c.meaning) refusal_cases ≡ map (λ (c : Case). c.document) refusal_cases
unfolding refusal_cases output counts_judged counts_of read_t_run read_p_run read_w read_t read_p program pair_line tableau_line t_line p_line w_line j_line e_line decimal pair_of insert column_reading junction_set number rows_of ones ones_in same_class repeat_tableau rank_judged length_judged alike_judged used_judged letters_judged rising_judged marks_judged entries_judged recording_judged index_judged inversion_judged letter_judged full_judged room_judged junction_says move_word_says move_word_run same_class_says pair_says pair_run insert_says word_says move_tableau_says move_tableau_run repeat_tableau_says viewer_says
refusals = refl
