-- C lines, pinned: the lists of run_lines' specs/Cases.antt, computed by the checker from the definitions alone, without a law.
--     writing_pinned, reading_pinned, refusals_pinned, conversions_pinned     the lists
-- Assumes nothing.
use mathlib.Core.Path.{◌≡◌, refl}
use mathlib.Core.List.{map}
use Rattle.grammar.specs.Lines.{c_line, t_line}
use Rattle.grammar.specs.Numbers.{decimal}
use Rattle.grammar.specs.Reading.{read_c, read_runs, read_t}
use Rattle.outcomes.specs.Counts.{counts_of}
use Rattle.hypoplactic.specs.Insertion.{insert, pair_of}
use Rattle.outcomes.specs.Judgements.{alike_judged, length_judged, letters_judged, marks_judged, rank_judged, rising_judged, room_judged}
use Rattle.outcomes.specs.Starred.{Case}
use Rattle.ranks.specs.Unranked.{without_rank}
use Rattle.run_lines.specs.Judgements.{runs_judged, sum_judged}
use Rattle.run_lines.specs.Operations.{c_line_run, read_c_run, run_line, runs_to_tableau_run, tableau_to_runs_run, word_run_line, word_run_line_run}
use Rattle.run_lines.specs.Classes.{unranked_run_line}
use Rattle.run_lines.specs.Cases.{conversion_cases, reading_cases, refusal_cases, writing_cases}

-- What is written of tableaux and of words, and how writers refuse.
pub writing_pinned : map (λ (c : Case). c.meaning) writing_cases ≡ map (λ (c : Case). c.document) writing_cases
unfolding writing_cases c_line_run word_run_line_run unranked_run_line without_rank word_run_line run_line c_line decimal pair_of insert rank_judged length_judged alike_judged letters_judged rising_judged marks_judged room_judged
writing_pinned = refl

-- What is read,
pub reading_pinned : map (λ (c : Case). c.meaning) reading_cases ≡ map (λ (c : Case). c.document) reading_cases
unfolding reading_cases read_c_run read_c read_runs counts_of rank_judged length_judged letters_judged runs_judged sum_judged room_judged
reading_pinned = refl

-- and how the reader refuses.
pub refusals_pinned : map (λ (c : Case). c.meaning) refusal_cases ≡ map (λ (c : Case). c.document) refusal_cases
unfolding refusal_cases read_c_run read_c read_runs counts_of rank_judged length_judged letters_judged runs_judged sum_judged room_judged
refusals_pinned = refl

-- Both converters.
pub conversions_pinned : map (λ (c : Case). c.meaning) conversion_cases ≡ map (λ (c : Case). c.document) conversion_cases
unfolding conversion_cases tableau_to_runs_run runs_to_tableau_run c_line_run run_line c_line t_line decimal read_t read_c read_runs rank_judged length_judged alike_judged letters_judged rising_judged marks_judged runs_judged sum_judged room_judged
conversions_pinned = refl
