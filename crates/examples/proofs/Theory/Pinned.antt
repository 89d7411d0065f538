-- What the starred cases leave open, pinned: the lists of specs/Pinned.antt, computed by the checker, and what no case can say in short.
--     orders_pinned, values_pinned, lines_pinned     the three lists
--     full_insertion                                 12 in its place among the checks of insertion
-- Assumes nothing.
use Prim.Native.Nat.{ℕ, ◌≤◌}
use mathlib.Core.Path.{◌≡◌, refl, ap, ◌∙◌}
use mathlib.Core.List.{List, [], ◌∷◌, ◌++◌, map}
use lib.ListN.{length, take}
use lib.Count.{ones, ones_in}
use Rattle.grammar.specs.Numbers.{decimal}
use Rattle.grammar.specs.Lines.{w_line, t_line, p_line, j_line, e_line}
use Rattle.grammar.specs.Reading.{read_w, read_t, read_p}
use Rattle.hypoplactic.specs.Words.{Inside}
use Rattle.hypoplactic.specs.Ribbons.{TableauAt}
use Rattle.hypoplactic.specs.Insertion.{Pair, insert, pair_of, word_of}
use Rattle.hypoplactic.specs.Reading.{column_reading}
use Rattle.quasi_crystal.specs.Moves.{repeat_tableau}
use Rattle.hypoplactic.specs.Junctions.{number, junction_set, rows_of, same_class}
use Rattle.hypoplactic.specs.Weights.{compare_weights}
use Rattle.outcomes.specs.Replies.{Passes, or_else, refused}
use Rattle.outcomes.specs.Counts.{counts_judged, counts_of}
use Rattle.outcomes.specs.Judgements.{rank_judged, length_judged, letters_judged, index_judged, inversion_judged, letter_judged, alike_judged, used_judged, rising_judged, marks_judged, entries_judged, recording_judged, full_judged, room_judged}
use Rattle.outcomes.specs.WordOperations.{junction_says, move_word_run, move_word_says, repeat_word_says, same_class_says, weights_says}
use Rattle.outcomes.specs.TableauOperations.{insert_run, insert_says, look_says, move_tableau_says, pair_run, pair_says, reading_run, reading_says, repeat_tableau_says, through_says, viewer_says, word_run, word_says}
use Rattle.outcomes.specs.LineOperations.{pair_line, program, e_line_run, j_line_run, p_line_run, room_run, t_line_run, tableau_line_run, w_line_run}
use Rattle.quasi_crystal.specs.Classes.{tableau_line}
use Rattle.outcomes.specs.LineReadings.{answer_run, output, read_p_run, read_t_run, read_w_run}
use Rattle.outcomes.specs.Starred.{Case}
use Rattle.examples.specs.Pinned.{line_cases, order_cases, value_cases}
use Rattle.outcomes.proofs.Theory.Passing.{first_past}
use Rattle.hypoplactic.proofs.Theory.Contents.{within_snoc}
use Rattle.outcomes.proofs.Theory.Judgements.{letters-judged, used_judged_lem}
use Rattle.outcomes.proofs.Theory.Judged.{tableau_passing}

-- Every operation makes its checks in document 01's order.
pub orders_pinned : map (λ (c : Case). c.meaning) order_cases ≡ map (λ (c : Case). c.document) order_cases
unfolding order_cases counts_of counts_judged rank_judged length_judged alike_judged used_judged letters_judged rising_judged marks_judged entries_judged recording_judged index_judged inversion_judged full_judged room_judged junction_says move_word_says repeat_word_says same_class_says weights_says pair_says insert_says word_says reading_says move_tableau_says repeat_tableau_says viewer_says look_says w_line_run t_line_run p_line_run tableau_line_run j_line_run
orders_pinned = refl

-- Every reply has its values, and every limit its place.
pub values_pinned : map (λ (c : Case). c.meaning) value_cases ≡ map (λ (c : Case). c.document) value_cases
unfolding value_cases counts_of counts_judged pair_of insert word_of column_reading number junction_set rows_of ones ones_in same_class compare_weights repeat_tableau rank_judged length_judged alike_judged used_judged letters_judged rising_judged marks_judged entries_judged recording_judged index_judged inversion_judged letter_judged full_judged room_judged junction_says move_word_says move_word_run repeat_word_says same_class_says weights_says pair_says pair_run insert_says insert_run word_says word_run reading_says reading_run repeat_tableau_says viewer_says through_says look_says
values_pinned = refl

-- The same of readers, writers and the program.
pub lines_pinned : map (λ (c : Case). c.meaning) line_cases ≡ map (λ (c : Case). c.document) line_cases
unfolding line_cases counts_of read_w read_t read_p w_line t_line p_line j_line e_line decimal pair_of insert number junction_set rows_of ones ones_in program pair_line tableau_line rank_judged length_judged alike_judged letters_judged rising_judged marks_judged entries_judged recording_judged room_judged room_run w_line_run t_line_run p_line_run tableau_line_run j_line_run e_line_run read_w_run read_t_run read_p_run output answer_run
lines_pinned = refl

-- Insertion into 1,024 cells where 1 to 7 but 17 pass, whatever room there is: 17 stands before 8, 8 before 12, and 12 before 13. As a case it would compute
-- for seconds.
pub full_insertion : (n a : ℕ) (p : Pair) (cs : List ℕ) → TableauAt n (take 1024 p.letters) (take 1024 p.marks)
    → Passes (entries_judged 1024 (take 1024 p.recording)) → Inside n a
    → 1024 ≤ length p.letters → 1024 ≤ length p.marks → 1024 ≤ length p.recording
    → insert_says n 1024 a p cs
    ≡ or_else (counts_judged cs (take 1024 p.letters))
    (or_else (recording_judged (take 1024 p.recording) (take 1024 p.marks)) (refused 12 1024))
unfolding insert_says length_judged full_judged
full_insertion n a p cs h entries i as_letters as_marks as_recording =
    let xs : List ℕ = take 1024 p.letters in
    let ms : List ℕ = take 1024 p.marks in
    let rs : List ℕ = take 1024 p.recording in
    let lengths : List ℕ = length p.letters ∷ length p.marks ∷ length p.recording ∷ [] in
    let (rank, (short, (alike, (letters, (rising, (marks, t)))))) = (tableau_passing n xs ms).1 h in
    let held = (used_judged_lem 1024 lengths).1 (as_letters, (as_marks, (as_recording, tt))) in
    let all = (letters-judged n (xs ++ a ∷ [])).1 (within_snoc n a xs h.word.letters i) in
    first_past
    (rank_judged n ∷ length_judged 1024 ∷ used_judged 1024 lengths ∷ letters_judged n (xs ++ a ∷ []) ∷ rising_judged xs ∷ marks_judged xs ms ∷ [])
    (counts_judged cs xs ∷ entries_judged 1024 rs ∷ recording_judged rs ms ∷ []) (refused 12 1024)
    (rank, (tt, (held, (all, (rising, (marks, tt))))))
    ∙ ap (or_else (counts_judged cs xs)) (first_past (entries_judged 1024 rs ∷ []) (recording_judged rs ms ∷ []) (refused 12 1024) (entries, tt))
