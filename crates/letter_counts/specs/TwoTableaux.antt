-- The class and the weights of two tableaux, each with its own rank, from what is stored with them (document 02, N6): letters, marks and letter counts. What
-- the operations reply to every input (the checks in order; each over the first tableau, then over the second, before the next).
--     tableaux_judgements            1 to 6 and 17 of two tableaux: places of 4, 5 and 6 in the second count on from the first's length, of 17 from 64
--     same_stored xs ms ys ns        equal count of each letter, equal marks
--     same_class_tableaux_says         1 to 6, 17               gives 1 or 0
--     weights_tableaux_says           1 to 6, 17               gives 0 equal, 1 lower, 2 higher, 3 neither
-- That the replies to tableaux within the limits are those to their column readings is proofs/Theory/TwoTableaux.antt. Assumes nothing.
use Rattle.std.specs.Prelude.{ℕ, List, [], ◌∷◌, Bool, ◌&&◌, length}
use Rattle.hypoplactic.specs.Words.{tick}
use Rattle.hypoplactic.specs.Junctions.{same_counts}
use Rattle.hypoplactic.specs.Weights.{compare_weights}
use Rattle.outcomes.specs.Counts.{counts_judged}
use Rattle.outcomes.specs.Replies.{Said, gives, count_on, first}
use Rattle.outcomes.specs.Judgements.{rank_judged, length_judged, alike_judged, letters_judged, rising_judged, marks_judged}
use Rattle.outcomes.specs.WordOperations.{comparison_number}
use Rattle.numbering.specs.Dictionary.{same_list}

-- 1 to 6 and 17 of two tableaux with letter counts, each at its rank.
abbrev pub tableaux_judgements : ℕ → List ℕ → List ℕ → List ℕ → ℕ → List ℕ → List ℕ → List ℕ → List Said
tableaux_judgements n xs ms cs m ys ns ds =
    rank_judged n ∷ rank_judged m
    ∷ length_judged (length xs) ∷ length_judged (length ys)
    ∷ alike_judged (length xs) (length ms ∷ []) ∷ alike_judged (length ys) (length ns ∷ [])
    ∷ letters_judged n xs ∷ count_on (length xs) (letters_judged m ys)
    ∷ rising_judged xs ∷ count_on (length xs) (rising_judged ys)
    ∷ marks_judged xs ms ∷ count_on (length xs) (marks_judged ys ns)
    ∷ counts_judged cs xs ∷ count_on 64 (counts_judged ds ys) ∷ []

-- Each letter stands equally often in both tableaux, and their marks are equal.
unfoldable pub same_stored : List ℕ → List ℕ → List ℕ → List ℕ → Bool
same_stored xs ms ys ns = same_counts 64 1 xs ys && same_list ms ns

-- Whether two tableaux are of one class.
unfoldable pub same_class_tableaux_says : ℕ → List ℕ → List ℕ → List ℕ → ℕ → List ℕ → List ℕ → List ℕ → Said
same_class_tableaux_says n xs ms cs m ys ns ds = first (tableaux_judgements n xs ms cs m ys ns ds) (gives (tick (same_stored xs ms ys ns) 0 ∷ []))

-- The first tableau's weight against the second's.
unfoldable pub weights_tableaux_says : ℕ → List ℕ → List ℕ → List ℕ → ℕ → List ℕ → List ℕ → List ℕ → Said
weights_tableaux_says n xs ms cs m ys ns ds = first (tableaux_judgements n xs ms cs m ys ns ds) (gives (comparison_number (compare_weights xs ys) ∷ []))
