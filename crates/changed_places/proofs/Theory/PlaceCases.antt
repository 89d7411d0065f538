-- The changed place of a move, pinned: the list of specs/Cases.antt, computed by the checker, and why joined words do not have one reply.
--     places_pinned     the list
--     places_apart      131 and 311 are joined, and raised with 2 they change different places
-- Assumes nothing.
use mathlib.Core.Path.{◌≡◌, refl}
use mathlib.Core.List.{[], ◌∷◌, map}
use Rattle.hypoplactic.specs.Insertion.{insert, pair_of}
use Rattle.hypoplactic.specs.Rewriting.{Joined}
use Rattle.outcomes.specs.Replies.{gives}
use Rattle.outcomes.specs.Counts.{counts_judged, counts_of}
use Rattle.outcomes.specs.Judgements.{alike_judged, index_judged, inversion_judged, length_judged, letter_judged, letters_judged, marks_judged, rank_judged, rising_judged}
use Rattle.outcomes.specs.WordOperations.{move_word_run, move_word_says}
use Rattle.outcomes.specs.TableauOperations.{move_tableau_run, move_tableau_says}
use Rattle.outcomes.specs.Starred.{Case, raise}
use Rattle.hypoplactic.proofs.Theory.NormalForm.{same_tableau_joined}
use Rattle.changed_places.specs.Cases.{place_cases}

pub places_pinned : map (λ (c : Case). c.meaning) place_cases ≡ map (λ (c : Case). c.document) place_cases
unfolding place_cases pair_of insert counts_of counts_judged rank_judged length_judged alike_judged letters_judged rising_judged marks_judged index_judged inversion_judged letter_judged move_word_says move_word_run move_tableau_says move_tableau_run
places_pinned = refl

-- So a move is made in both of two joined words, each at its own place: the replies are not equal, and demand 3 does not say so.
pub places_apart : Joined (1 ∷ 3 ∷ 1 ∷ []) (3 ∷ 1 ∷ 1 ∷ [])
    × (move_word_run 3 (raise 2) (1 ∷ 3 ∷ 1 ∷ []) ≡ (gives (1 ∷ []), 1 ∷ 2 ∷ 1 ∷ []))
    × (move_word_run 3 (raise 2) (3 ∷ 1 ∷ 1 ∷ []) ≡ (gives (0 ∷ []), 2 ∷ 1 ∷ 1 ∷ []))
unfolding pair_of insert rank_judged length_judged letters_judged index_judged inversion_judged letter_judged move_word_says move_word_run
places_apart = (same_tableau_joined (1 ∷ 3 ∷ 1 ∷ []) (3 ∷ 1 ∷ 1 ∷ []) refl refl, refl, refl)
