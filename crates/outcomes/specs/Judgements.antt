-- The checks 1 to 13 of document 01's table, each over its whole input, as judgements: passed, or refused with the number and the first place.
--     rank_judged n, length_judged k, alike_judged k ls, used_judged k ls        1, 2, 3, and 3 in insertion
--     letters_judged n xs, rising_judged xs, marks_judged xs ms                 4, 5, 6
--     entries_judged L rs, recording_judged rs ms                              7, 8
--     index_judged n i, inversion_judged b, letter_judged a w                   9, 10, 11
--     full_judged k, room_judged need have                                     12, 13
--     tableau_rooms need letters marks                                        13 of a tableau's letters and marks
--     pair_rooms need letters marks recording                                 13 of a pair's letters, marks and recording entries
--     word_judgements, tableau_judgements, pair_judgements                      the lists that operations share
--     counted_judgements, counted_pair_judgements                               the same of a tableau or a pair that brings letter counts: 17 directly after 6
-- 17 itself is in Counts. Assumes nothing.
use Rattle.std.specs.Prelude.{ℕ, zero, suc, List, [], ◌∷◌, ◌++◌, Bool, ◌&&◌, ◌||◌, not, eqb, ltb, leb, length}
use Rattle.hypoplactic.specs.Words.{count, occurs}
use Rattle.quasi_crystal.specs.Moves.{index_of}
use Rattle.outcomes.specs.Replies.{Said, passed, refuse_if}
use Rattle.outcomes.specs.Counts.{counts_judged}

-- Not from 1 to n.
abbrev pub outside : ℕ → ℕ → Bool
outside n x = ltb x 1 || ltb n x

-- 1: rank is not 1 to 64.
unfoldable pub rank_judged : ℕ → Said
rank_judged n = refuse_if (outside 64 n) 1 0 passed

-- 2: more than 1,024 letters or used cells.
unfoldable pub length_judged : ℕ → Said
length_judged k = refuse_if (ltb 1024 k) 2 0 passed

-- 3: a lent part differs in length from the letters, of which there are k.
unfoldable pub alike_judged : ℕ → List ℕ → Said
alike_judged k [] = passed
alike_judged k (l ∷ ls) = refuse_if (not (eqb l k)) 3 0 (alike_judged k ls)

-- 3 in insertion: the used count k is above one of the lengths.
unfoldable pub used_judged : ℕ → List ℕ → Said
used_judged k [] = passed
used_judged k (l ∷ ls) = refuse_if (ltb l k) 3 0 (used_judged k ls)

-- 4: a letter outside 1 to rank, the letters from place i on.
abbrev pub letters_from : ℕ → ℕ → List ℕ → Said
letters_from n i [] = passed
letters_from n i (x ∷ xs) = refuse_if (outside n x) 4 i (letters_from n (suc i) xs)

unfoldable pub letters_judged : ℕ → List ℕ → Said
letters_judged n xs = letters_from n 0 xs

-- 5: a letter smaller than the one before it, the letters from place i on after x.
abbrev pub rising_from : ℕ → ℕ → List ℕ → Said
rising_from i x [] = passed
rising_from i x (y ∷ ys) = refuse_if (ltb y x) 5 i (rising_from (suc i) y ys)

unfoldable pub rising_judged : List ℕ → Said
rising_judged [] = passed
rising_judged (x ∷ xs) = rising_from 1 x xs

-- 6: a mark that is not 0 or 1, or down between equals, the cells from place i on after x.
abbrev pub marks_from : ℕ → ℕ → List ℕ → List ℕ → Said
marks_from i x [] ms = passed
marks_from i x (y ∷ ys) [] = passed
marks_from i x (y ∷ ys) (m ∷ ms) = refuse_if (ltb 1 m || eqb m 1 && eqb x y) 6 i (marks_from (suc i) y ys ms)

-- 6: the same, or a first mark that is not 0.
unfoldable pub marks_judged : List ℕ → List ℕ → Said
marks_judged [] ms = passed
marks_judged (x ∷ xs) [] = passed
marks_judged (x ∷ xs) (m ∷ ms) = refuse_if (ltb 0 m) 6 0 (marks_from 1 x xs ms)

-- 7: an entry that is 0, above L, or met before, the entries from place i on, those met before in the second argument.
abbrev pub entries_from : ℕ → List ℕ → ℕ → List ℕ → Said
entries_from L met i [] = passed
entries_from L met i (r ∷ rs) = refuse_if (outside L r || occurs r met) 7 i (entries_from L (r ∷ met) (suc i) rs)

unfoldable pub entries_judged : ℕ → List ℕ → Said
entries_judged L rs = entries_from L [] 0 rs

-- Whether the entries r and then s break the step between them: a rise at a down step, a fall at a right step.
abbrev pub step_broken : ℕ → ℕ → ℕ → Bool
step_broken zero r s = ltb s r
step_broken (suc m) r s = ltb r s

-- 8: a step that the entries break, at the later cell's place, the cells from place i on after r.
abbrev pub steps_from : ℕ → ℕ → List ℕ → List ℕ → Said
steps_from i r [] ms = passed
steps_from i r (s ∷ ss) [] = passed
steps_from i r (s ∷ ss) (m ∷ ms) = refuse_if (step_broken m r s) 8 i (steps_from (suc i) s ss ms)

unfoldable pub recording_judged : List ℕ → List ℕ → Said
recording_judged [] ms = passed
recording_judged (r ∷ rs) [] = passed
recording_judged (r ∷ rs) (m ∷ ms) = steps_from 1 r rs ms

-- 9: a move index that is not 1 to rank - 1.
unfoldable pub index_judged : ℕ → ℕ → Said
index_judged n i = refuse_if (not (index_of n i)) 9 0 passed

-- 10: a move undefined by an inversion.
unfoldable pub inversion_judged : Bool → Said
inversion_judged b = refuse_if b 10 0 passed

-- 11: no letter a that the move could change.
unfoldable pub letter_judged : ℕ → List ℕ → Said
letter_judged a w = refuse_if (eqb (count a w) 0) 11 0 passed

-- 12: insertion into 1,024 cells.
unfoldable pub full_judged : ℕ → Said
full_judged k = refuse_if (leb 1024 k) 12 1024 passed

-- 13: an output shorter than the elements needed.
unfoldable pub room_judged : ℕ → ℕ → Said
room_judged need have = refuse_if (ltb have need) 13 need passed

-- 13 of the lent letters and marks of a tableau.
abbrev pub tableau_rooms : ℕ → ℕ → ℕ → List Said
tableau_rooms need letters marks = room_judged need letters ∷ room_judged need marks ∷ []

-- 13 of the three lent lists of a pair, in the order letters, marks, recording.
abbrev pub pair_rooms : ℕ → ℕ → ℕ → ℕ → List Said
pair_rooms need letters marks recording = tableau_rooms need letters marks ++ (room_judged need recording ∷ [])

-- 1, 2 and 4 of a word.
abbrev pub word_judgements : ℕ → List ℕ → List Said
word_judgements n w = rank_judged n ∷ length_judged (length w) ∷ letters_judged n w ∷ []

-- 1 to 6 of a tableau.
abbrev pub tableau_judgements : ℕ → List ℕ → List ℕ → List Said
tableau_judgements n xs ms =
    rank_judged n ∷ length_judged (length xs) ∷ alike_judged (length xs) (length ms ∷ []) ∷ letters_judged n xs ∷ rising_judged xs
    ∷ marks_judged xs ms ∷ []

-- 1 to 8 of a pair.
abbrev pub pair_judgements : ℕ → List ℕ → List ℕ → List ℕ → List Said
pair_judgements n xs ms rs =
    rank_judged n ∷ length_judged (length xs) ∷ alike_judged (length xs) (length ms ∷ length rs ∷ []) ∷ letters_judged n xs ∷ rising_judged xs
    ∷ marks_judged xs ms ∷ entries_judged (length xs) rs ∷ recording_judged rs ms ∷ []

-- 1 to 6, 17 of a tableau that brings its letter counts.
abbrev pub counted_judgements : ℕ → List ℕ → List ℕ → List ℕ → List Said
counted_judgements n xs ms cs = tableau_judgements n xs ms ++ (counts_judged cs xs ∷ [])

-- 1 to 6, 17, 7, 8 of a pair that brings its letter counts.
abbrev pub counted_pair_judgements : ℕ → List ℕ → List ℕ → List ℕ → List ℕ → List Said
counted_pair_judgements n xs ms rs cs =
    rank_judged n ∷ length_judged (length xs) ∷ alike_judged (length xs) (length ms ∷ length rs ∷ []) ∷ letters_judged n xs ∷ rising_judged xs
    ∷ marks_judged xs ms ∷ counts_judged cs xs ∷ entries_judged (length xs) rs ∷ recording_judged rs ms ∷ []
