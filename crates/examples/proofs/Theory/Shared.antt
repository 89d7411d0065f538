-- What crates lend each other, pinned: the list of specs/Shared.antt, computed by the checker, and what no list of numbers can say.
--     shared_pinned               the list
--     sides_named                 raising is raising and lowering is lowering, each with its index
--     places-told                 a place that was found is that place
--     table_ends                  a table has 64 numbers, that of the letter 1 first and that of 64 last
--     field_told, break_told      a number of a line with the place after it, and the place of a break
--     line-told, line_broken      a whole line with its values and what is kept of them, and one that breaks
--     recording_told              a line without a rank, for which 0 is told
--     step-told                   the mark of a step, and what is told where none stands
--     items-told                  memory for items before any is kept; a letter of a line as a byte
--     pair_told, pair_broken      the same of P lines
--     runs-told, runs_broken      the same of C lines, of whose items a tally and two tables are kept
--     table_told                  of two items with one letter the table has the later
-- Assumes nothing.
use Rattle.std.specs.Prelude.{Some, None, Ok, Err}
use Prim.Native.Nat.{ℕ}
use mathlib.Core.Path.{◌≡◌, refl}
use mathlib.Core.Bool.{true, false}
use mathlib.Core.List.{List, [], ◌∷◌, map}
use mathlib.Core.Option.{none, some}
use native.Mathlib.Omega.{arith}
use lib.ListN.{length, get_or}
use Rattle.grammar.specs.Reading.{read_c, read_field, read_runs}
use Rattle.hypoplactic.specs.Junctions.{number, junction_set}
use Rattle.outcomes.specs.Counts.{counts_judged, counts_of}
use Rattle.outcomes.specs.Judgements.{entries_judged, full_judged, index_judged, inversion_judged, length_judged, letter_judged, letters_judged, marks_judged, rank_judged, recording_judged, rising_judged, room_judged, used_judged}
use Rattle.hypoplactic.specs.Places.{layers}
use Rattle.outcomes.specs.Starred.{Case, lower, raise, text}
use Rattle.buffers.specs.Pulls.{pulled}
use Rattle.buffers.specs.Shifts.{pushed}
use Rattle.closings.specs.Closings.{closed_elements, closed_entries, closed_marks}
use Rattle.openings.specs.Openings.{room_for}
use Rattle.windows.specs.Gaps.{joint}
use Rattle.refusals.specs.Running.{checks_then}
use Rattle.numerals.specs.Numbers.{Numbered}
use Rattle.occurrences.specs.Places.{found_place}
use Rattle.acceptance.specs.Bytes.{narrowed}
use Rattle.line_items.specs.Blank.{blank}
use Rattle.cell_scans.specs.Cells.{mark_of, read_marked}
use Rattle.scans.specs.Heads.{read_counted, read_end, read_head}
use Rattle.scans.specs.PairScans.{PairScanned, pair_cells, pair_entries, part_entries, read_pair, read_parts}
use Rattle.scans.specs.Scans.{Scanned, read_body, read_whole, whole_cells}
use Rattle.words.specs.Given.{count_given, junction_given}
use Rattle.words.specs.Tables.{Table}
use Rattle.fillings.specs.Filled.{filled, filled_letters, filled_runs}
use Rattle.run_lines.specs.Runs.{run_with}
use Rattle.run_tallies.specs.Tallies.{kept_at, lead_after, next_count, tabled}
use Rattle.run_scans.specs.Items.{begun_runs}
use Rattle.run_scans.specs.Lines.{RunsScanned, whole_runs}
use Rattle.run_scans.specs.Runs.{read_run_item}
use Rattle.operators.specs.Changes.{move_letters_run, repeat_letters_says}
use Rattle.operators.specs.Targets.{move_by}
use Rattle.operators.specs.declared.changes.Side.TheVariants.{Lowering, Raising}
use Rattle.classes.specs.Tables.{same_tables}
use Rattle.weight_sums.specs.Tables.{compare_tables}
use Rattle.numbering.specs.Orders.{orders}
use Rattle.ribbon_orders.specs.Rows.{orders_given}
use Rattle.taken_cells.specs.Choices.{orders_left}
use Rattle.taken_cells.specs.Removal.{taken_out}
use Rattle.taken_cells.specs.Numbered.{cell_of_number}
use Rattle.taken_cells.specs.Lettered.{cell_of_letter}
use Rattle.examples.specs.Shared.{shared_cases}

pub shared_pinned : map (λ (c : Case). c.meaning) shared_cases ≡ map (λ (c : Case). c.document) shared_cases
unfolding shared_cases counts_of counts_judged pushed whole_cells whole_runs begun_runs read_run_item read_head read_counted number junction_set rank_judged length_judged used_judged letters_judged rising_judged marks_judged entries_judged recording_judged index_judged inversion_judged letter_judged full_judged room_judged checks_then count_given junction_given filled filled_letters filled_runs kept_at lead_after next_count layers move_letters_run repeat_letters_says same_tables compare_tables orders orders_given orders_left pulled taken_out cell_of_number cell_of_letter room_for joint closed_elements closed_marks closed_entries
shared_pinned = refl

pub sides_named : (i : ℕ) → (move_by Raising i ≡ raise i) × (move_by Lowering i ≡ lower i)
sides_named i = (refl, refl)

pub places-told : (k : ℕ) → (found_place (Some k) ≡ some k) × (found_place None ≡ none)
places-told k = (refl, refl)

pub table_ends : (f : ℕ → ℕ) (xs : List ℕ) → Table f xs → (length xs ≡ 64) × (get_or xs 0 0 ≡ f 1) × (get_or xs 63 0 ≡ f 64)
table_ends f xs t = (t.size, t.entry 0 (omega arith), t.entry 63 (omega arith))

-- ---- lines

pub field_told : Numbered (text ",12,3") (read_field (text ",12,3")) (Ok (record { value = 12; next = 3 }))
field_told = record { says = refl; within = omega arith }

pub break_told : Numbered (text ",x") (read_field (text ",x")) (Err (record { place = 1 }))
break_told = record { says = refl; within = omega arith }

-- The first cell of two that are lent is kept, with its mark on a line with steps.
pub line-told :
    Scanned (text "T,4,1,3\n") true (read_whole 84 true true (text "T,4,1,3\n")) (whole_cells 84 true true (text "T,4,1,3\n")) (9 ∷ 9 ∷ []) (8 ∷ 8 ∷ [])
    (3 ∷ 9 ∷ []) (0 ∷ 8 ∷ []) (Ok (record { rank = 4; count = 1; next = 8 }))
unfolding read_whole read_body read_head read_counted read_end read_marked whole_cells
line-told = record { told = record { says = refl; within = omega arith }; long = refl; letters_are = refl; marks_are = refl }

-- A line without steps leaves the marks; what was read before the break is kept.
pub line_broken :
    Scanned (text "W,4,2,3x") false (read_whole 87 true false (text "W,4,2,3x")) (whole_cells 87 true false (text "W,4,2,3x")) (9 ∷ 9 ∷ []) (8 ∷ [])
    (3 ∷ 9 ∷ []) (8 ∷ []) (Err (record { place = 7 }))
unfolding read_whole read_body read_head read_counted read_end read_marked whole_cells
line_broken = record { told = record { says = refl; within = omega arith }; long = refl; letters_are = refl; marks_are = refl }

-- An N line has no rank.
pub recording_told :
    Scanned (text "N,1,1\n") false (read_whole 78 false false (text "N,1,1\n")) (whole_cells 78 false false (text "N,1,1\n")) (9 ∷ 9 ∷ []) []
    (1 ∷ 9 ∷ []) [] (Ok (record { rank = 0; count = 1; next = 6 }))
unfolding read_whole read_body read_head read_counted read_end read_marked whole_cells
recording_told = record { told = record { says = refl; within = omega arith }; long = refl; letters_are = refl; marks_are = refl }

-- Right, down, and no step: another byte, or the end of the text.
pub step-told : (mark_of (text "r") ≡ Some 0) × (mark_of (text "d") ≡ Some 1) × (mark_of (text ",r") ≡ None) × (mark_of [] ≡ None)
step-told = (refl, refl, refl, refl)

-- Zeros before an item is kept; 0 for a letter that no byte holds.
pub items-told : (blank 3 ≡ 0 ∷ 0 ∷ 0 ∷ []) × (map narrowed (0 ∷ 255 ∷ 256 ∷ 9999 ∷ []) ≡ 0 ∷ 255 ∷ 0 ∷ 0 ∷ [])
unfolding blank
items-told = (refl, refl)

-- A P line: its cells, then its entries.
pub pair_told :
    PairScanned (text "P,4,1,3,1\n") (read_pair (text "P,4,1,3,1\n")) (pair_cells (text "P,4,1,3,1\n")) (pair_entries (text "P,4,1,3,1\n"))
    (9 ∷ 9 ∷ []) (8 ∷ 8 ∷ []) (7 ∷ 7 ∷ []) (3 ∷ 9 ∷ []) (0 ∷ 8 ∷ []) (1 ∷ 7 ∷ []) (Ok (record { rank = 4; count = 1; next = 10 }))
unfolding read_pair read_parts read_body read_head read_counted read_end read_marked whole_cells pair_entries part_entries
pair_told =
    record { told = record { says = refl; within = omega arith }; cells_long = refl; entries_long = refl; letters_are = refl; marks_are = refl; entries_are = refl }

-- One that breaks among its entries: the cells and the entries before are kept, as far as they fit.
pub pair_broken :
    PairScanned (text "P,4,2,1,d,3,2x") (read_pair (text "P,4,2,1,d,3,2x")) (pair_cells (text "P,4,2,1,d,3,2x")) (pair_entries (text "P,4,2,1,d,3,2x"))
    (9 ∷ []) (8 ∷ 8 ∷ []) (7 ∷ 7 ∷ []) (1 ∷ []) (0 ∷ 1 ∷ []) (2 ∷ 7 ∷ []) (Err (record { place = 13 }))
unfolding read_pair read_parts read_body read_head read_counted read_end read_marked whole_cells pair_entries part_entries
pair_broken =
    record { told = record { says = refl; within = omega arith }; cells_long = refl; entries_long = refl; letters_are = refl; marks_are = refl; entries_are = refl }

-- A C line: the counts and the marks of its items, each at its letter's place.
pub runs-told :
    RunsScanned (text "C,4,3,1,1,d,3,2\n") (read_c (text "C,4,3,1,1,d,3,2\n")) (whole_runs (text "C,4,3,1,1,d,3,2\n"))
    (9 ∷ 9 ∷ 9 ∷ 9 ∷ []) (8 ∷ 8 ∷ 8 ∷ 8 ∷ []) (1 ∷ 9 ∷ 2 ∷ 9 ∷ []) (0 ∷ 8 ∷ 1 ∷ 8 ∷ [])
    (Ok (record { rank = 4; size = 3; tally = record { items = 2; inside = 2; rising = 2; last = 3; sum = 3 } }))
unfolding read_c read_runs read_head read_counted whole_runs begun_runs read_run_item kept_at
runs-told = record { told = (refl, record { items = refl; inside = refl; rising = refl; last = refl; sum = refl }); times_are = refl; marks_are = refl }

-- One that breaks in the count of its third item: the two before are kept, and nothing of that one.
pub runs_broken :
    RunsScanned (text "C,4,4,1,1,d,3,2,d,4,x") (read_c (text "C,4,4,1,1,d,3,2,d,4,x")) (whole_runs (text "C,4,4,1,1,d,3,2,d,4,x"))
    (9 ∷ 9 ∷ 9 ∷ 9 ∷ []) (8 ∷ 8 ∷ 8 ∷ 8 ∷ []) (1 ∷ 9 ∷ 2 ∷ 9 ∷ []) (0 ∷ 8 ∷ 1 ∷ 8 ∷ []) (Err (record { place = 20 }))
unfolding read_c read_runs read_head read_counted whole_runs begun_runs read_run_item kept_at
runs_broken = record { told = record { says = refl; within = omega arith }; times_are = refl; marks_are = refl }

-- Of two items with one letter the later count stands in the table, and that of a letter above 64 nowhere.
pub table_told : tabled (λ r. r.times) (run_with 2 5 0 ∷ run_with 2 7 0 ∷ run_with 65 9 0 ∷ []) (8 ∷ 8 ∷ []) ≡ 8 ∷ 7 ∷ []
unfolding kept_at
table_told = refl
