-- What the operations on tableaux and pairs reply to every input, and what lent memory then holds (documents 01 and 02; the checks in order).
--     pair_run                       1 2 4 13                    gives the cells written, letters, marks and entries; the letter counts are given too
--     insert_run                     1 2 3 4 5 6 17 7 8 12 13    gives the new used count; one letter is counted more
--     word_run                       1 to 6, 17, 7 8 13          gives the letters written
--     reading_run                    1 to 6, 17, 13              gives the letters written
--     move_tableau_run                1 to 6, 17, 9 10 11         gives the place of the changed cell; letters and two counts change in place, marks do not
--     repeat_tableau_says             1 to 6, 17, 9               gives the repeat count
--     viewer_says, look_says          1 to 6                      gives no value; gives letter, row and column, or no value for "no such cell"
--     through_says                   those of the making         the same look, from what the making said
-- A tableau that is taken or given brings its letter counts; the viewer takes none. A lent list keeps its elements beyond those needed. Assumes nothing.
use Rattle.std.specs.Prelude.{ℕ, suc, List, [], ◌∷◌, ◌++◌, Bool, cond, ltb, length, take, get_or}
use Rattle.hypoplactic.specs.Ribbons.{row_at, column_at}
use Rattle.hypoplactic.specs.Insertion.{Pair, insert, pair_of, word_of}
use Rattle.hypoplactic.specs.Reading.{column_reading}
use Rattle.quasi_crystal.specs.Moves.{Move, below, changed_place, given, moved_tableau, repeat_tableau, taken}
use Rattle.outcomes.specs.Replies.{Said, gives, passed, or_else, first, ran_to, written}
use Rattle.outcomes.specs.Counts.{counts_judged, counts_of, one_more, one_over}
use Rattle.outcomes.specs.Judgements.{rank_judged, length_judged, used_judged, letters_judged, rising_judged, marks_judged, entries_judged, recording_judged, index_judged, full_judged, room_judged, pair_rooms, word_judgements, tableau_judgements, counted_judgements, counted_pair_judgements}
use Rattle.outcomes.specs.WordOperations.{move_judgements, or_same, place_told}

-- A pair at the beginning of three lent lists.
abbrev pub written_pair : Pair → Pair → Pair
written_pair q old =
    record {
      letters = written q.letters old.letters;
      marks = written q.marks old.marks;
      recording = written q.recording old.recording;
    }

-- Pair of a word: its tableau and its recording ribbon, into three lent lists, and the letter counts.
unfoldable pub pair_says : ℕ → List ℕ → ℕ → ℕ → ℕ → Said
pair_says n w letters marks recording = first (word_judgements n w ++ pair_rooms (length w) letters marks recording) (gives (length w ∷ []))

unfoldable pub pair_run : ℕ → List ℕ → Pair → List ℕ → Said × (Pair × List ℕ)
pair_run n w p cs =
    ran_to (pair_says n w (length p.letters) (length p.marks) (length p.recording)) (written_pair (pair_of w) p, counts_of w) (p, cs)

-- The used cells of three lent lists.
abbrev pub used_cells : ℕ → Pair → Pair
used_cells used p = record { letters = take used p.letters; marks = take used p.marks; recording = take used p.recording }

-- 1 to 6 of a letter a and of the pair in the first cells of three lent lists, of which so many are used, 17 of the counts of the used letters, 7 and 8.
-- The letter to be inserted has the used count as its place.
abbrev pub insert_judgements : ℕ → ℕ → ℕ → Pair → List ℕ → List Said
insert_judgements n used a p cs =
    let xs : List ℕ = take used p.letters in
    let ms : List ℕ = take used p.marks in
    let rs : List ℕ = take used p.recording in
    rank_judged n ∷ length_judged used ∷ used_judged used (length p.letters ∷ length p.marks ∷ length p.recording ∷ [])
    ∷ letters_judged n (xs ++ a ∷ []) ∷ rising_judged xs ∷ marks_judged xs ms ∷ counts_judged cs xs ∷ entries_judged used rs ∷ recording_judged rs ms ∷ []

-- Insertion of a.
unfoldable pub insert_says : ℕ → ℕ → ℕ → Pair → List ℕ → Said
insert_says n used a p cs =
    first
    (insert_judgements n used a p cs
    ++ (full_judged used ∷ pair_rooms (suc used) (length p.letters) (length p.marks) (length p.recording)))
    (gives (suc used ∷ []))

unfoldable pub insert_run : ℕ → ℕ → ℕ → Pair → List ℕ → Said × (Pair × List ℕ)
insert_run n used a p cs = ran_to (insert_says n used a p cs) (written_pair (insert a (used_cells used p)) p, one_more cs a) (p, cs)

-- Pair back to word.
unfoldable pub word_says : ℕ → List ℕ → List ℕ → List ℕ → List ℕ → ℕ → Said
word_says n xs ms rs cs room = first (counted_pair_judgements n xs ms rs cs ++ (room_judged (length xs) room ∷ [])) (gives (length xs ∷ []))

unfoldable pub word_run : ℕ → List ℕ → List ℕ → List ℕ → List ℕ → List ℕ → Said × List ℕ
word_run n xs ms rs cs out = ran_to (word_says n xs ms rs cs (length out)) (written (word_of xs rs) out) out

-- Column reading of a tableau.
unfoldable pub reading_says : ℕ → List ℕ → List ℕ → List ℕ → ℕ → Said
reading_says n xs ms cs room = first (counted_judgements n xs ms cs ++ (room_judged (length xs) room ∷ [])) (gives (length xs ∷ []))

unfoldable pub reading_run : ℕ → List ℕ → List ℕ → List ℕ → List ℕ → Said × List ℕ
reading_run n xs ms cs out = ran_to (reading_says n xs ms cs (length out)) (written (column_reading xs ms) out) out

-- A move on a tableau: one of its letters becomes another, and is counted so.
unfoldable pub move_tableau_says : ℕ → Move → List ℕ → List ℕ → List ℕ → Said
move_tableau_says n m xs ms cs =
    let inversion : Bool = below m.index xs ms in
    first (counted_judgements n xs ms cs ++ move_judgements n m inversion xs) (gives (place_told (changed_place inversion m xs)))

unfoldable pub move_tableau_run : ℕ → Move → List ℕ → List ℕ → List ℕ → Said × (List ℕ × List ℕ)
move_tableau_run n m xs ms cs =
    ran_to (move_tableau_says n m xs ms cs) (or_same (moved_tableau m xs ms) xs, one_over cs (taken m.side m.index) (given m.side m.index)) (xs, cs)

unfoldable pub repeat_tableau_says : ℕ → Move → List ℕ → List ℕ → List ℕ → Said
repeat_tableau_says n m xs ms cs = first (counted_judgements n xs ms cs ++ (index_judged n m.index ∷ [])) (gives (repeat_tableau m xs ms ∷ []))

-- The making of a viewer.
unfoldable pub viewer_says : ℕ → List ℕ → List ℕ → Said
viewer_says n xs ms = first (tableau_judgements n xs ms) passed

-- A cell's letter, row and column, or no value where there is no such cell.
abbrev pub cell_at : List ℕ → List ℕ → ℕ → List ℕ
cell_at xs ms k = cond (ltb k (length xs)) (get_or xs k 0 ∷ row_at ms k ∷ column_at ms k ∷ []) []

-- A look through a viewer over xs and ms whose making said so: a refusal of the making stays one, so that "no such cell" is never said for it.
unfoldable pub through_says : Said → List ℕ → List ℕ → ℕ → Said
through_says made xs ms k = or_else made (gives (cell_at xs ms k))

-- A look at a cell through the viewer of a rank, letters and marks.
unfoldable pub look_says : ℕ → List ℕ → List ℕ → ℕ → Said
look_says n xs ms k = first (tableau_judgements n xs ms) (gives (cell_at xs ms k))
