-- Cases for the definitions of code crates that public contracts rest on beside those of hypoplactic and outcomes, in the form of the starred ones: what crates lend each
-- other, each in its smallest inputs.
--     shared_cases     the cases; tests stand as 1 and 0 (told), lent letters and marks one after the other (filling), an item as its three numbers
--                     (item_numbers), numbers compared as two (compared), a cell and the number beside it as two (going)
-- That the two sides of every case are equal is proved in proofs/Theory/Shared.antt. Assumes nothing.
use Rattle.std.specs.Prelude.{ℕ, Bool, true, false, Option, Some, None, List, [], ◌∷◌, ◌++◌, map, length, replicate, set}
use Rattle.std.proofs.Math.Option.{none, some}
use Rattle.grammar.specs.Lines.{Run}
use Rattle.grammar.specs.Reading.{letters, marks}
use Rattle.hypoplactic.specs.Insertion.{pair_with}
use Rattle.hypoplactic.specs.Words.{tick}
use Rattle.outcomes.specs.Counts.{counts_of}
use Rattle.outcomes.specs.WordOperations.{comparison_number}
use Rattle.outcomes.specs.Starred.{Case, case, counts, lower, numbers, outcome, raise, text, w4323}
use Rattle.acceptance.specs.Bytes.{narrowed}
use Rattle.buffers.specs.Copies.{copied}
use Rattle.buffers.specs.Pulls.{pulled}
use Rattle.buffers.specs.Shifts.{pushed}
use Rattle.closings.specs.Closings.{closed_elements, closed_entries, closed_marks}
use Rattle.closings.specs.Oldest.{oldest_place}
use Rattle.numerals.specs.Bytes.{starts_with}
use Rattle.occurrences.specs.Places.{stands_left}
use Rattle.openings.specs.Openings.{opened, opened_marks}
use Rattle.scans.specs.Items.{step_marks}
use Rattle.scans.specs.Kept.{kept}
use Rattle.scans.specs.Scans.{whole_cells}
use Rattle.words.specs.Given.{count_given, junction_given}
use Rattle.words.specs.Junctions.{bit_at}
use Rattle.fillings.specs.Filled.{filled, filled_letters, filled_runs}
use Rattle.run_lines.specs.Runs.{run_cells, run_with}
use Rattle.run_tallies.specs.Tallies as tallies
use Rattle.run_scans.specs.Lines.{whole_runs}
use Rattle.operators.specs.Changes.{move_letters_run, repeat_letters_says}
use Rattle.classes.specs.Tables.{same_tables}
use Rattle.weight_sums.specs.Tables.{compare_tables}
use Rattle.ribbon_orders.specs.Rows.{orders_given}
use Rattle.taken_cells.specs.Removal.{pulled_free, taken_out}
use Rattle.taken_cells.specs.Numbered.{cell_of_number}
use Rattle.taken_cells.specs.Lettered.{cell_of_letter}
use Rattle.admissions.specs.Checks.{insert_checks}
use Rattle.letter_counts.specs.Cases.{x4323}
use Rattle.examples.specs.Counted.{count_order, on_counts, rises, zeros}
use Rattle.examples.specs.Pinned.{on_pairs, pair_order}

-- A test as a number.
abbrev pub told : Bool → ℕ
told b = tick b 0

-- Lent letters and marks with the letter 1 once and 3 twice, of the letters 1 to n.
abbrev pub filling : ℕ → ℕ → List ℕ → List ℕ → List ℕ
filling n set ls ks = let (xs, ms) = filled n (1 ∷ 0 ∷ 2 ∷ []) set ls ks in xs ++ ms

-- The same with the marks by a table of steps.
abbrev pub filling_runs : ℕ → List ℕ → List ℕ → List ℕ → List ℕ
filling_runs n ss ls ks = let (xs, ms) = filled_runs n (1 ∷ 0 ∷ 2 ∷ []) ss ls ks in xs ++ ms

-- What the tally of a C line's items tells: the two leads, the last letter, the capped sum.
abbrev pub tally : ℕ → List Run → List ℕ
tally n rs = tallies.inside_lead n rs ∷ tallies.rising_lead 0 rs ∷ tallies.last_letter 0 rs ∷ tallies.capped (run_cells rs) ∷ []

-- Any 64 numbers and 64 others: whether they are equal, and how their sums compare.
abbrev pub compared : List ℕ → List ℕ → List ℕ
compared cs ds = told (same_tables cs ds) ∷ comparison_number (compare_tables cs ds) ∷ []

-- The first entry 1, or how many entries there are where there is none.
abbrev pub place_or : ℕ → Option ℕ → ℕ
place_or n (Some p) = p
place_or n None = n

abbrev pub oldest_or_all : List ℕ → ℕ
oldest_or_all rs = place_or (length rs) (oldest_place rs)

-- A cell that goes first, and the number beside it.
abbrev pub going : ℕ × ℕ → List ℕ
going c = c.0 ∷ c.1 ∷ []

-- The marks of the tableau of 4323, the first step free. Its words are 3243, 3423, 3432, 4323 and 4332.
abbrev pub f4323 : List ℕ
f4323 = 2 ∷ 1 ∷ 0 ∷ 1 ∷ []

-- Items as numbers: letter, count and mark of each.
abbrev pub item_numbers : List Run → List ℕ
item_numbers [] = []
item_numbers (r ∷ rs) = r.letter ∷ r.times ∷ r.mark ∷ item_numbers rs

unfoldable pub shared_cases : List Case
shared_cases =
    -- values copied as far as there is room; a tail shifted by one, the last element falling off, and pulled by one, the last place keeping its value
    case (copied (1 ∷ 2 ∷ 3 ∷ []) (9 ∷ 9 ∷ [])) (1 ∷ 2 ∷ [])
    ∷ case (copied (1 ∷ []) (9 ∷ 9 ∷ [])) (1 ∷ 9 ∷ [])
    ∷ case (pushed 1 (8 ∷ 9 ∷ []) ++ pushed 1 []) (1 ∷ 8 ∷ [])
    ∷ case (pulled (7 ∷ 8 ∷ 9 ∷ []) ++ pulled (9 ∷ []) ++ pulled []) (8 ∷ 9 ∷ 9 ∷ 9 ∷ [])
    -- a new element among the used ones and straight after them; as it was where the place is further on, or no element is free
    ∷ case (opened 1 2 5 (1 ∷ 2 ∷ 9 ∷ 9 ∷ []) ++ opened 2 2 5 (1 ∷ 2 ∷ 9 ∷ [])) (1 ∷ 5 ∷ 2 ∷ 9 ∷ 1 ∷ 2 ∷ 5 ∷ [])
    ∷ case (opened 3 2 5 (1 ∷ 2 ∷ 9 ∷ 9 ∷ []) ++ opened 0 2 5 (1 ∷ 2 ∷ [])) (1 ∷ 2 ∷ 9 ∷ 9 ∷ 1 ∷ 2 ∷ [])
    ∷ case (opened_marks 1 2 (0 ∷ 0 ∷ 9 ∷ 9 ∷ []) ++ opened_marks 2 2 (0 ∷ 1 ∷ 9 ∷ [])) (0 ∷ 0 ∷ 1 ∷ 9 ∷ 0 ∷ 1 ∷ 0 ∷ [])
    ∷ case (opened_marks 3 2 (0 ∷ 1 ∷ 9 ∷ 9 ∷ []) ++ opened_marks 0 2 (0 ∷ 1 ∷ [])) (0 ∷ 1 ∷ 9 ∷ 9 ∷ 0 ∷ 1 ∷ [])
    -- an element out of the used ones, the last of them keeping its value; as it was where the place is past them; a used count beyond the list
    ∷ case (closed_elements 1 3 (1 ∷ 2 ∷ 3 ∷ 9 ∷ []) ++ closed_elements 3 3 (1 ∷ 2 ∷ 3 ∷ 9 ∷ []) ++ closed_elements 0 9 (1 ∷ 2 ∷ []))
    (1 ∷ 3 ∷ 3 ∷ 9 ∷ 1 ∷ 2 ∷ 3 ∷ 9 ∷ 2 ∷ 2 ∷ [])
    -- a mark, and the step that joins its neighbours: a rise, a fall, none out of a last cell, none into a first one; past the used ones
    ∷ case (closed_marks 1 3 (2 ∷ 1 ∷ 3 ∷ []) (0 ∷ 1 ∷ 0 ∷ 9 ∷ []) ++ closed_marks 1 3 (3 ∷ 1 ∷ 2 ∷ []) (0 ∷ 1 ∷ 0 ∷ 9 ∷ []))
    (0 ∷ 0 ∷ 0 ∷ 9 ∷ 0 ∷ 1 ∷ 0 ∷ 9 ∷ [])
    ∷ case (closed_marks 2 3 (3 ∷ 2 ∷ 1 ∷ []) (0 ∷ 1 ∷ 1 ∷ 9 ∷ []) ++ closed_marks 0 2 (1 ∷ 2 ∷ []) (0 ∷ 1 ∷ []) ++ closed_marks 1 1 (1 ∷ []) (0 ∷ 9 ∷ []))
    (0 ∷ 1 ∷ 1 ∷ 9 ∷ 0 ∷ 1 ∷ 0 ∷ 9 ∷ [])
    -- an entry, the others one less, of which 0 stays; past the used ones all of these are one less
    ∷ case (closed_entries 1 3 (2 ∷ 1 ∷ 3 ∷ 9 ∷ []) ++ closed_entries 3 3 (2 ∷ 0 ∷ 3 ∷ 9 ∷ [])) (1 ∷ 2 ∷ 3 ∷ 9 ∷ 1 ∷ 0 ∷ 2 ∷ 9 ∷ [])
    -- the first entry 1; where there is none, how many entries there are
    ∷ case (oldest_or_all (2 ∷ 1 ∷ 1 ∷ []) ∷ oldest_or_all (1 ∷ []) ∷ oldest_or_all (2 ∷ 3 ∷ []) ∷ oldest_or_all [] ∷ []) (1 ∷ 0 ∷ 2 ∷ 0 ∷ [])
    -- a line by the grammar alone: the cells read before it breaks, of which as many are kept as have room, and marks only where the line tells steps
    ∷ case (kept (1 ∷ 2 ∷ 3 ∷ []) (9 ∷ 9 ∷ []) ++ kept (1 ∷ []) (9 ∷ 9 ∷ [])) (1 ∷ 2 ∷ 1 ∷ 9 ∷ [])
    ∷ case (letters (whole_cells 87 true false (text "W,4,3,3,1x"))) (3 ∷ 1 ∷ [])
    ∷ case (letters (whole_cells 78 false false (text "N,2,2,1\n"))) (2 ∷ 1 ∷ [])
    ∷ case (marks (whole_cells 84 true true (text "T,4,3,1,d,2,r"))) (0 ∷ 1 ∷ [])
    ∷ case (step_marks true ((1, 0) ∷ (2, 1) ∷ []) ++ step_marks false ((1, 0) ∷ (2, 1) ∷ [])) (0 ∷ 1 ∷ [])
    -- the items of a C line up to its line feed, whatever follows; those before a break; none after a beginning that breaks
    ∷ case (item_numbers (whole_runs (text "C,4,9,2,1,d,3,2\nx"))) (2 ∷ 1 ∷ 0 ∷ 3 ∷ 2 ∷ 1 ∷ [])
    ∷ case (item_numbers (whole_runs (text "C,4,4,2,1,d,3,2,d,4,x"))) (2 ∷ 1 ∷ 0 ∷ 3 ∷ 2 ∷ 1 ∷ [])
    ∷ case (item_numbers (whole_runs (text "C,4,x,2,1\n") ++ whole_runs (text "C,4,0\n"))) []
    -- the byte that stands first
    ∷ case (map (λ t. told (starts_with 44 t)) ((44 ∷ []) ∷ (45 ∷ 44 ∷ []) ∷ [] ∷ [])) (1 ∷ 0 ∷ 0 ∷ [])
    -- one of two places left of the other
    ∷ case
    (told (stands_left (some 1) (some 3)) ∷ told (stands_left (some 3) (some 1)) ∷ told (stands_left (some 1) (some 1))
    ∷ told (stands_left none (some 1)) ∷ told (stands_left (some 1) none) ∷ [])
    (1 ∷ 0 ∷ 0 ∷ 0 ∷ 0 ∷ [])
    -- letter counts and junction set of an accepted word, and 0 where 1, 2 or 4 refuses it
    ∷ case
    (count_given 4 (1 ∷ 2 ∷ 1 ∷ []) 1 ∷ count_given 65 (1 ∷ []) 1 ∷ count_given 4 (replicate 1025 1) 1 ∷ count_given 4 (1 ∷ 5 ∷ []) 1 ∷ [])
    (2 ∷ 0 ∷ 0 ∷ 0 ∷ [])
    ∷ case (junction_given 4 w4323 ∷ junction_given 65 w4323 ∷ junction_given 3 w4323 ∷ []) (6 ∷ 0 ∷ 0 ∷ [])
    -- bit a - 1 of a set, none of the letter 0
    ∷ case (map (λ a. told (bit_at 6 a)) (0 ∷ 1 ∷ 2 ∷ 3 ∷ 4 ∷ [])) (0 ∷ 0 ∷ 1 ∷ 1 ∷ 0 ∷ [])
    -- a letter as a byte: 0 where no byte holds it
    ∷ case (map narrowed (0 ∷ 255 ∷ 256 ∷ 257 ∷ 65535 ∷ [])) (0 ∷ 255 ∷ 0 ∷ 0 ∷ 0 ∷ [])
    -- any 64 numbers compared, 0 equal, 1 lower, 2 higher, 3 neither: at the first place, at the last, beyond it nothing, and numbers that no word has
    ∷ case (compared (counts (1 ∷ [])) (counts (1 ∷ [])) ++ compared (counts []) (counts (1 ∷ []))) (1 ∷ 0 ∷ 0 ∷ 1 ∷ [])
    ∷ case (compared (set (counts []) 63 1) (counts []) ++ compared (counts [] ++ (9 ∷ [])) (counts [])) (0 ∷ 2 ∷ 1 ∷ 0 ∷ [])
    ∷ case (compared (replicate 64 65535) (set (replicate 64 65535) 62 65534) ++ compared (1 ∷ 0 ∷ 1 ∷ []) (0 ∷ 2 ∷ [])) (0 ∷ 2 ∷ 0 ∷ 3 ∷ [])
    -- the orders of a ribbon's marks: of none, of a right, a down and a free first step, of 20 marks, and 0 of more
    ∷ case (map orders_given ([] ∷ (0 ∷ []) ∷ (1 ∷ []) ∷ (2 ∷ []) ∷ (2 ∷ 2 ∷ []) ∷ f4323 ∷ [])) (1 ∷ 1 ∷ 0 ∷ 1 ∷ 2 ∷ 5 ∷ [])
    ∷ case (orders_given (replicate 20 0) ∷ orders_given (replicate 21 0) ∷ []) (1 ∷ 0 ∷ [])
    -- a cell taken out: those after it, up to the last place, move one back; none where the place is the last, or that is past 19; of marks a free step
    ∷ case (taken_out 1 2 (5 ∷ 6 ∷ 7 ∷ 8 ∷ []) ++ taken_out 2 2 (5 ∷ 6 ∷ 7 ∷ []) ++ taken_out 0 20 (5 ∷ 6 ∷ 7 ∷ [])) (5 ∷ 7 ∷ 7 ∷ 8 ∷ 5 ∷ 6 ∷ 7 ∷ 5 ∷ 6 ∷ 7 ∷ [])
    ∷ case (pulled_free 1 2 (5 ∷ 6 ∷ 7 ∷ 8 ∷ []) ++ pulled_free 0 20 (5 ∷ 6 ∷ []) ++ pulled_free 2 20 (5 ∷ 6 ∷ [])) (5 ∷ 2 ∷ 7 ∷ 8 ∷ 2 ∷ 6 ∷ 5 ∷ 6 ∷ [])
    -- the cell with which the word of a number goes on, and what is left of the number; past the last where there is none, or for more than 20 cells
    ∷ case (going (cell_of_number 4 f4323 0) ++ going (cell_of_number 4 f4323 2) ++ going (cell_of_number 4 f4323 3)) (1 ∷ 0 ∷ 1 ∷ 2 ∷ 3 ∷ 0 ∷ [])
    ∷ case (going (cell_of_number 4 f4323 7) ++ going (cell_of_number 0 [] 7) ++ going (cell_of_number 21 [] 7)) (4 ∷ 2 ∷ 0 ∷ 7 ∷ 21 ∷ 7 ∷ [])
    -- the cell of a letter, and how many words come before; the same where there is none
    ∷ case (going (cell_of_letter 4 x4323 f4323 3) ++ going (cell_of_letter 4 x4323 f4323 4)) (1 ∷ 0 ∷ 3 ∷ 3 ∷ [])
    ∷ case (going (cell_of_letter 4 x4323 f4323 2) ++ going (cell_of_letter 21 [] [] 2)) (4 ∷ 5 ∷ 21 ∷ 0 ∷ [])
    -- a filling by counts and a set: the letters, then the marks; both as they were where one is too short, or the rank is above 64
    ∷ case (filling 3 1 (9 ∷ 9 ∷ 9 ∷ 9 ∷ []) (8 ∷ 8 ∷ 8 ∷ 8 ∷ [])) (1 ∷ 3 ∷ 3 ∷ 9 ∷ 0 ∷ 1 ∷ 0 ∷ 8 ∷ [])
    ∷ case (filling 3 6 (9 ∷ 9 ∷ 9 ∷ []) (8 ∷ 8 ∷ 8 ∷ [])) (1 ∷ 3 ∷ 3 ∷ 0 ∷ 0 ∷ 0 ∷ [])
    ∷ case (filling 3 1 (9 ∷ 9 ∷ []) (8 ∷ 8 ∷ 8 ∷ [])) (9 ∷ 9 ∷ 8 ∷ 8 ∷ 8 ∷ [])
    ∷ case (filling 3 1 (9 ∷ 9 ∷ 9 ∷ []) (8 ∷ 8 ∷ [])) (9 ∷ 9 ∷ 9 ∷ 8 ∷ 8 ∷ [])
    ∷ case (filling 1 1 (9 ∷ []) (8 ∷ [])) (1 ∷ 0 ∷ [])
    ∷ case (filling 65 1 (9 ∷ 9 ∷ 9 ∷ []) (8 ∷ 8 ∷ 8 ∷ [])) (9 ∷ 9 ∷ 9 ∷ 8 ∷ 8 ∷ 8 ∷ [])
    -- by counts and steps: down where the table has a 1, right where it has another number or none; both as they were where one is too short or the rank is above 64
    ∷ case (filling_runs 3 (0 ∷ 1 ∷ 1 ∷ []) (9 ∷ 9 ∷ 9 ∷ 9 ∷ []) (8 ∷ 8 ∷ 8 ∷ 8 ∷ [])) (1 ∷ 3 ∷ 3 ∷ 9 ∷ 0 ∷ 1 ∷ 0 ∷ 8 ∷ [])
    ∷ case (filling_runs 3 (0 ∷ 1 ∷ 2 ∷ []) (9 ∷ 9 ∷ 9 ∷ []) (8 ∷ 8 ∷ 8 ∷ [])) (1 ∷ 3 ∷ 3 ∷ 0 ∷ 0 ∷ 0 ∷ [])
    ∷ case (filling_runs 3 [] (9 ∷ 9 ∷ []) (8 ∷ 8 ∷ 8 ∷ [])) (9 ∷ 9 ∷ 8 ∷ 8 ∷ 8 ∷ [])
    ∷ case (filling_runs 3 [] (9 ∷ 9 ∷ 9 ∷ []) (8 ∷ 8 ∷ [])) (9 ∷ 9 ∷ 9 ∷ 8 ∷ 8 ∷ [])
    ∷ case (filling_runs 65 [] (9 ∷ 9 ∷ 9 ∷ []) (8 ∷ 8 ∷ 8 ∷ [])) (9 ∷ 9 ∷ 9 ∷ 8 ∷ 8 ∷ 8 ∷ [])
    -- letters alone: with room to spare, too short, above 64
    ∷ case (filled_letters 3 (1 ∷ 0 ∷ 2 ∷ []) (9 ∷ 9 ∷ 9 ∷ 9 ∷ []) ++ filled_letters 3 (1 ∷ 0 ∷ 2 ∷ []) (9 ∷ 9 ∷ [])) (1 ∷ 3 ∷ 3 ∷ 9 ∷ 9 ∷ 9 ∷ [])
    ∷ case (filled_letters 64 (1 ∷ []) (9 ∷ []) ++ filled_letters 65 (1 ∷ []) (9 ∷ [])) (1 ∷ 9 ∷ [])
    -- the tally of the items 2,1 and 3,2 and 4,1; of a letter outside the rank; of a letter that stands twice, or a count 0; of no items
    ∷ case (tally 4 (run_with 2 1 0 ∷ run_with 3 2 1 ∷ run_with 4 1 1 ∷ [])) (3 ∷ 3 ∷ 4 ∷ 4 ∷ [])
    ∷ case (tally 3 (run_with 2 1 0 ∷ run_with 4 1025 1 ∷ run_with 3 1 1 ∷ [])) (1 ∷ 2 ∷ 3 ∷ 1025 ∷ [])
    ∷ case (tally 3 (run_with 2 1 0 ∷ run_with 2 1 0 ∷ []) ++ tally 3 (run_with 2 0 0 ∷ [])) (2 ∷ 1 ∷ 2 ∷ 2 ∷ 1 ∷ 0 ∷ 2 ∷ 0 ∷ [])
    ∷ case (tally 3 []) (0 ∷ 0 ∷ 0 ∷ 0 ∷ [])
    -- one item more: a lead goes on, stays at its fault, ends at a new one; the number of items, 2 to the power 63 at most
    ∷ case (tallies.lead_after false 2 2 ∷ tallies.lead_after false 1 2 ∷ tallies.lead_after true 2 2 ∷ []) (3 ∷ 1 ∷ 2 ∷ [])
    ∷ case (tallies.next_count 0 ∷ tallies.next_count 9223372036854775807 ∷ tallies.next_count 9223372036854775808 ∷ []) (1 ∷ 9223372036854775808 ∷ 9223372036854775808 ∷ [])
    -- a number at a letter's place, none of the letters 0 and 65
    ∷ case (tallies.kept_at 1 7 (8 ∷ 9 ∷ []) ++ tallies.kept_at 2 7 (8 ∷ 9 ∷ []) ++ tallies.kept_at 0 7 (8 ∷ []) ++ tallies.kept_at 65 7 (8 ∷ [])) (7 ∷ 9 ∷ 8 ∷ 7 ∷ 8 ∷ 8 ∷ [])
    -- a move once its inversion is known: 1, 9, 10, 11, or made at a place
    ∷ case (outcome (move_letters_run 65 (raise 0) true [])) (1 ∷ 0 ∷ [])
    ∷ case (outcome (move_letters_run 4 (raise 0) true [])) (9 ∷ 0 ∷ [])
    ∷ case (outcome (move_letters_run 4 (raise 1) true [])) (10 ∷ 0 ∷ [])
    ∷ case (outcome (move_letters_run 4 (raise 1) false (3 ∷ []))) (11 ∷ 0 ∷ 3 ∷ [])
    ∷ case (outcome (move_letters_run 4 (raise 1) false (3 ∷ 2 ∷ 2 ∷ []))) (0 ∷ 1 ∷ 3 ∷ 1 ∷ 2 ∷ [])
    ∷ case (outcome (move_letters_run 4 (lower 2) false (3 ∷ 2 ∷ 2 ∷ []))) (0 ∷ 2 ∷ 3 ∷ 2 ∷ 3 ∷ [])
    -- its repeat count: 1, 2, 9, or the count, none under an inversion
    ∷ case (numbers (repeat_letters_says 65 (raise 0) false (replicate 1025 1))) (1 ∷ 0 ∷ [])
    ∷ case (numbers (repeat_letters_says 4 (raise 0) false (replicate 1025 1))) (2 ∷ 0 ∷ [])
    ∷ case (numbers (repeat_letters_says 4 (raise 0) false [])) (9 ∷ 0 ∷ [])
    ∷ case (numbers (repeat_letters_says 4 (lower 2) false (3 ∷ 2 ∷ 2 ∷ []))) (0 ∷ 2 ∷ [])
    ∷ case (numbers (repeat_letters_says 4 (lower 2) true (3 ∷ 2 ∷ 2 ∷ []))) (0 ∷ 0 ∷ [])
    -- the checks of insertion, in their order, 17 where on_counts has it
    ∷ case (on_pairs (λ n xs ms rs. insert_checks n (length xs) 1 (pair_with xs ms rs) (counts_of xs))) pair_order
    ∷ case (on_counts (λ n xs ms cs. insert_checks n (length xs) 1 (pair_with xs ms (zeros xs)) cs)) count_order
    ∷ case (on_counts (λ n xs ms cs. insert_checks n (length xs) 1 (pair_with xs ms (rises xs)) cs)) count_order
    ∷ []
