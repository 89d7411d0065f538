-- The converter of former lines, pinned: the list of specs/Cases.antt, computed by the checker from the definitions alone, without a law.
--     conversions_pinned     the list
-- Assumes nothing.
use mathlib.Core.Path.{◌≡◌, refl}
use mathlib.Core.List.{map}
use Rattle.grammar.specs.Lines.{p_line}
use Rattle.grammar.specs.Numbers.{decimal}
use Rattle.grammar.specs.Reading.{read_n, read_t}
use Rattle.outcomes.specs.Judgements.{alike_judged, entries_judged, length_judged, letters_judged, marks_judged, rank_judged, recording_judged, rising_judged, room_judged}
use Rattle.outcomes.specs.Starred.{Case}
use Rattle.former_lines.specs.Conversion.{convert_run}
use Rattle.former_lines.specs.Cases.{conversion_cases}

pub conversions_pinned : map (λ (c : Case). c.meaning) conversion_cases ≡ map (λ (c : Case). c.document) conversion_cases
unfolding conversion_cases convert_run read_t read_n p_line decimal rank_judged length_judged alike_judged letters_judged rising_judged marks_judged entries_judged recording_judged room_judged
conversions_pinned = refl
