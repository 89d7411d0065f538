-- What the operations on words reply to every input, and what lent memory then holds (document 01; the checks that each makes, in order).
--     junction_says      1 2 4                gives the junction set and the rows
--     move_word_says      1 2 4 9 10 11        gives the place of the changed letter; move_word_run changes the word in place
--     place_told         the changed place as a reply's values
--     undefined_by, move_reply                 a move's reply past the checks of its word or tableau, from the move's definition, as theorems say it
--     repeat_word_says    1 2 4 9              gives the repeat count
--     same_class_says, weights_says   1 2 4 of two words      give 1 or 0; 0 equal, 1 lower, 2 higher, 3 neither
-- Assumes nothing.
use Rattle.std.specs.Prelude.{ℕ, List, [], ◌∷◌, ◌++◌, Bool, cond, length}
use Rattle.std.proofs.Math.Option.{Option, none, some}
use Rattle.hypoplactic.specs.Words.{tick}
use Rattle.quasi_crystal.specs.Moves.{Move, changed_place, index_of, inverted, taken, moved_word, repeat_word}
use Rattle.hypoplactic.specs.Junctions.{junction_set, rows_of, same_class}
use Rattle.hypoplactic.specs.Weights.{Comparison, equal, lower, higher, neither, compare_weights}
use Rattle.outcomes.specs.Replies.{Said, gives, refused, first, ran_to, count_on}
use Rattle.outcomes.specs.Judgements.{rank_judged, length_judged, letters_judged, index_judged, inversion_judged, letter_judged, word_judgements}

unfoldable pub junction_says : ℕ → List ℕ → Said
junction_says n w = first (word_judgements n w) (gives (junction_set w ∷ rows_of w ∷ []))

-- What a move adds to the checks of its word or tableau: its index, an inversion, a letter to change.
abbrev pub move_judgements : ℕ → Move → Bool → List ℕ → List Said
move_judgements n m inversion w = index_judged n m.index ∷ inversion_judged inversion ∷ letter_judged (taken m.side m.index) w ∷ []

-- The letters after a move: as they were where it is undefined.
abbrev pub or_same : Option (List ℕ) → List ℕ → List ℕ
or_same none w = w
or_same (some v) w = v

-- Why a move is undefined: its index, else an inversion, as the last argument tells, else no letter to change.
abbrev pub undefined_by : ℕ → Move → Bool → ℕ
undefined_by n m inversion = cond (index_of n m.index) (cond inversion 10 11) 9

-- What a move that is made tells: the place that it changed. Past the checks there is always one.
abbrev pub place_told : Option ℕ → List ℕ
place_told none = []
place_told (some p) = p ∷ []

-- The reply to a move that changes this place, if it is defined, and whose refusal, if it is not, has this number.
abbrev pub move_reply : ℕ → Option ℕ → Said
move_reply k none = refused k 0
move_reply k (some p) = gives (p ∷ [])

unfoldable pub move_word_says : ℕ → Move → List ℕ → Said
move_word_says n m w =
    let inversion : Bool = inverted m.index w in
    first (word_judgements n w ++ move_judgements n m inversion w) (gives (place_told (changed_place inversion m w)))

unfoldable pub move_word_run : ℕ → Move → List ℕ → Said × List ℕ
move_word_run n m w = ran_to (move_word_says n m w) (or_same (moved_word m w) w) w

unfoldable pub repeat_word_says : ℕ → Move → List ℕ → Said
repeat_word_says n m w = first (word_judgements n w ++ (index_judged n m.index ∷ [])) (gives (repeat_word m w ∷ []))

-- Two words, each with its rank: every check over the first, then over the second, before the next check.
abbrev pub words_judgements : ℕ → List ℕ → ℕ → List ℕ → List Said
words_judgements n u m v =
    rank_judged n ∷ rank_judged m ∷ length_judged (length u) ∷ length_judged (length v) ∷ letters_judged n u
    ∷ count_on (length u) (letters_judged m v) ∷ []

unfoldable pub same_class_says : ℕ → List ℕ → ℕ → List ℕ → Said
same_class_says n u m v = first (words_judgements n u m v) (gives (tick (same_class u v) 0 ∷ []))

abbrev pub comparison_number : Comparison → ℕ
comparison_number equal = 0
comparison_number lower = 1
comparison_number higher = 2
comparison_number neither = 3

-- The answer describes the first word against the second.
unfoldable pub weights_says : ℕ → List ℕ → ℕ → List ℕ → Said
weights_says n u m v = first (words_judgements n u m v) (gives (comparison_number (compare_weights u v) ∷ []))
