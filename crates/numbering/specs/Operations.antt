-- What the operations on the words of a class reply to every input, and what lent memory then holds (document 02, N4; the checks in order).
--     small_judged L             15: more than 20 cells or letters
--     number_judged k size       16: the number asked for is not below the class size
--     class_size_says             1 to 6, 17, 15            gives the size of a tableau's class
--     class_word_run              1 to 6, 17, 15, 16, 13    gives the letters written: word k of a tableau's class
--     class_number_says           1 2 4, 15                 gives the number of a word in its own class
-- A tableau brings its letter counts. A lent list keeps its elements beyond those needed. Assumes nothing.
use Rattle.std.specs.Prelude.{ℕ, List, [], ◌∷◌, ◌++◌, ltb, leb, length}
use Rattle.outcomes.specs.Replies.{Said, gives, passed, refuse_if, first, ran_to, written}
use Rattle.outcomes.specs.Judgements.{counted_judgements, room_judged, word_judgements}
use Rattle.numbering.specs.Dictionary.{class_size, class_word, class_number}

-- 15: more than 20 cells or letters.
unfoldable pub small_judged : ℕ → Said
small_judged L = refuse_if (ltb 20 L) 15 0 passed

-- 16: the number asked for is not below the class size.
unfoldable pub number_judged : ℕ → ℕ → Said
number_judged k size = refuse_if (leb size k) 16 0 passed

-- 1 to 6, 17, 15 of a tableau that brings its letter counts.
abbrev pub class_judgements : ℕ → List ℕ → List ℕ → List ℕ → List Said
class_judgements n xs ms cs = counted_judgements n xs ms cs ++ (small_judged (length xs) ∷ [])

-- How large a tableau's class is.
unfoldable pub class_size_says : ℕ → List ℕ → List ℕ → List ℕ → Said
class_size_says n xs ms cs = first (class_judgements n xs ms cs) (gives (class_size n xs ms ∷ []))

-- Word k of a tableau's class, into a lent word.
unfoldable pub class_word_says : ℕ → List ℕ → List ℕ → List ℕ → ℕ → ℕ → Said
class_word_says n xs ms cs k room =
    first (class_judgements n xs ms cs ++ (number_judged k (class_size n xs ms) ∷ room_judged (length xs) room ∷ [])) (gives (length xs ∷ []))

unfoldable pub class_word_run : ℕ → List ℕ → List ℕ → List ℕ → ℕ → List ℕ → Said × List ℕ
class_word_run n xs ms cs k out = ran_to (class_word_says n xs ms cs k (length out)) (written (class_word n xs ms k) out) out

-- The number of a word in its own class.
unfoldable pub class_number_says : ℕ → List ℕ → Said
class_number_says n w = first (word_judgements n w ++ (small_judged (length w) ∷ [])) (gives (class_number n w ∷ []))
