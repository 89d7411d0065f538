-- Windows, pinned: the lists of windows' specs/Cases.antt, computed by the checker from the definitions alone, without a law.
--     departures_pinned, refusals_pinned, stream_pinned     the lists
-- Assumes nothing.
use mathlib.Core.Path.{◌≡◌, refl}
use mathlib.Core.List.{map}
use Rattle.outcomes.specs.Counts.{counts_judged, counts_of}
use Rattle.hypoplactic.specs.Insertion.{insert, pair_of, word_of}
use Rattle.outcomes.specs.Judgements.{entries_judged, full_judged, length_judged, letters_judged, marks_judged, rank_judged, recording_judged, rising_judged, room_judged, used_judged}
use Rattle.outcomes.specs.Starred.{Case}
use Rattle.outcomes.specs.TableauOperations.{insert_run, insert_says, pair_run, pair_says}
use Rattle.windows.specs.Departures.{depart_run, depart_says, empty_judged}
use Rattle.windows.specs.Cases.{departure_cases, departure_refusals, stream_cases}

pub departures_pinned : map (λ (c : Case). c.meaning) departure_cases ≡ map (λ (c : Case). c.document) departure_cases
unfolding departure_cases depart_run depart_says empty_judged pair_run pair_says insert pair_of word_of counts_of counts_judged rank_judged length_judged used_judged letters_judged rising_judged marks_judged entries_judged recording_judged room_judged
departures_pinned = refl

pub refusals_pinned : map (λ (c : Case). c.meaning) departure_refusals ≡ map (λ (c : Case). c.document) departure_refusals
unfolding departure_refusals depart_run depart_says empty_judged insert pair_of word_of counts_of counts_judged rank_judged length_judged used_judged letters_judged rising_judged marks_judged entries_judged recording_judged
refusals_pinned = refl

pub stream_pinned : map (λ (c : Case). c.meaning) stream_cases ≡ map (λ (c : Case). c.document) stream_cases
unfolding stream_cases depart_run depart_says empty_judged insert_run insert_says insert pair_of word_of counts_of counts_judged rank_judged length_judged used_judged letters_judged rising_judged marks_judged entries_judged recording_judged full_judged room_judged
stream_pinned = refl
