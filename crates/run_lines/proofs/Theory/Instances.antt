-- The laws of C lines applied to some lines, so that none of them asks for what is never so.
--     trip_case         both trips of 4323's lines
--     read_case         its C line is read back
--     broken_case       where a text breaks, as the replies tell
--     joined-case       two words of two ranks, joined as the bytes written tell
--     one_line_case     two words have one tableau line, as they have one C line
--     ranks_case        C lines of two ranks differ
--     fault_case        4 and 19 at the second item
--     few_case          two items within rank 2
-- Assumes nothing.
use Prim.Native.Nat.{ℕ, ◌≤◌}
use native.Mathlib.Omega.{arith}
use mathlib.Core.Path.{◌≡◌, refl}
use mathlib.Core.List.{[], ◌∷◌}
use lib.ListN.{get_or, length}
use Rattle.grammar.specs.Breaks.{Breaks, IsC, IsT}
use Rattle.grammar.specs.Lines.{c_line, t_line}
use Rattle.grammar.specs.Numbers.{decimal}
use Rattle.grammar.specs.Reading.{read_c, read_runs, read_t}
use Rattle.outcomes.specs.Counts.{counts_of}
use Rattle.outcomes.specs.FirstPlaces.{scan}
use Rattle.hypoplactic.specs.Insertion.{insert, pair_of}
use Rattle.outcomes.specs.Judgements.{alike_judged, length_judged, letters_judged, marks_judged, outside, rank_judged, rising_judged, room_judged}
use Rattle.quasi_crystal.specs.Classes.{tableau_line}
use Rattle.outcomes.specs.Replies.{gives, refused}
use Rattle.hypoplactic.specs.Rewriting.{Joined}
use Rattle.hypoplactic.specs.Ribbons.{TableauAt}
use Rattle.outcomes.specs.Starred.{lent, text, w4323}
use Rattle.hypoplactic.specs.Words.{Accepted}
use Rattle.ranks.specs.Unranked.{without_rank}
use Rattle.run_lines.specs.Judgements.{runs_judged, sum_judged}
use Rattle.run_lines.specs.Operations.{c_line_run, read_c_run, run_line, runs_to_tableau_run, tableau_to_runs_run, word_run_line, word_run_line_run}
use Rattle.run_lines.specs.Runs.{run_with}
use Rattle.run_lines.proofs.Theory.FirstPlaces.{item_letters-scan, item_fault, runs-scan}
use Rattle.run_lines.proofs.Theory.Judged.{few_items}
use Rattle.run_lines.proofs.Theory.Classes.{run-line-tells, run_lines_as_tableau_lines, run-written_ranks}
use Rattle.run_lines.proofs.Theory.Readings.{c_broken, read_c_result, to_runs_broken, to_tableau_broken}
use Rattle.run_lines.proofs.Theory.Trips.{bytes_of, runs_trip, tableau_trip}

-- There and back.
pub trip_case :
    (runs_to_tableau_run (bytes_of (tableau_to_runs_run (text "T,4,4,2,d,3,r,3,d,4\n") (lent 22))) (lent 20) ≡ (gives (20 ∷ []), text "T,4,4,2,d,3,r,3,d,4\n"))
    × (tableau_to_runs_run (bytes_of (runs_to_tableau_run (text "C,4,4,2,1,d,3,2,d,4,1\n") (lent 20))) (lent 22) ≡ (gives (22 ∷ []), text "C,4,4,2,1,d,3,2,d,4,1\n"))
unfolding tableau_to_runs_run runs_to_tableau_run c_line_run run_line c_line t_line decimal read_t read_c read_runs rank_judged length_judged alike_judged letters_judged rising_judged marks_judged runs_judged sum_judged room_judged
trip_case = (
  tableau_trip (text "T,4,4,2,d,3,r,3,d,4\n") (lent 22) (lent 20) tt (omega arith),
  runs_trip (text "C,4,4,2,1,d,3,2,d,4,1\n") (lent 20) (lent 22) tt (omega arith),
)

-- Words of four letters, each 1 to 4, at a rank from 4 on.
accepted : (n a b c d : ℕ) → 4 ≤ n → n ≤ 64 → (1 ≤ a) × (a ≤ 4) → (1 ≤ b) × (b ≤ 4) → (1 ≤ c) × (c ≤ 4) → (1 ≤ d) × (d ≤ 4) → Accepted n (a ∷ b ∷ c ∷ d ∷ [])
accepted n a b c d low high (a1, a4) (b1, b4) (c1, c4) (d1, d4) =
    record {
      rank_low = omega arith;
      rank_high = high;
      short = omega arith;
      letters = (a1, omega arith, (b1, omega arith, (c1, omega arith, (d1, omega arith, tt))));
    }

-- The tableau of 4323.
tableau_4323 : TableauAt 4 (2 ∷ 3 ∷ 3 ∷ 4 ∷ []) (0 ∷ 1 ∷ 0 ∷ 1 ∷ [])
tableau_4323 =
    record {
      word = accepted 4 2 3 3 4 (omega arith) (omega arith) (omega arith, omega arith) (omega arith, omega arith) (omega arith, omega arith) (omega arith, omega arith);
      tableau = (refl, (omega arith, (omega arith, (omega arith, tt))));
    }

pub read_case : read_c_run (text "C,4,4,2,1,d,3,2,d,4,1\n") (lent 4) (lent 4) [] ≡ (gives (4 ∷ 4 ∷ []), (2 ∷ 3 ∷ 3 ∷ 4 ∷ [], (0 ∷ 1 ∷ 0 ∷ 1 ∷ [], counts_of (2 ∷ 3 ∷ 3 ∷ 4 ∷ []))))
unfolding run_line c_line decimal
read_case = read_c_result 4 (2 ∷ 3 ∷ 3 ∷ 4 ∷ []) (0 ∷ 1 ∷ 0 ∷ 1 ∷ []) tableau_4323 (lent 4) (lent 4) [] (omega arith) (omega arith)

-- 14, by the reader and by both converters.
pub broken_case : Breaks IsC (text "C,4,1,2\n") 7 × Breaks IsC (text "C,4,1,2\n") 7 × Breaks IsT (text "T,4,2,3\n") 7
unfolding read_c_run tableau_to_runs_run runs_to_tableau_run read_t read_c read_runs
broken_case = (
  (c_broken (text "C,4,1,2\n") [] [] [] 7).0 refl,
  (to_tableau_broken (text "C,4,1,2\n") [] 7).0 refl,
  (to_runs_broken (text "T,4,2,3\n") [] 7).0 refl,
)

-- 3243 at rank 4 and 4323 at rank 6.
pub joined-case : Joined (3 ∷ 2 ∷ 4 ∷ 3 ∷ []) w4323
unfolding word_run_line_run without_rank word_run_line run_line c_line decimal pair_of insert rank_judged length_judged letters_judged room_judged
joined-case =
    ((run-written_ranks 4 6 (3 ∷ 2 ∷ 4 ∷ 3 ∷ []) w4323
    (accepted 4 3 2 4 3 (omega arith) (omega arith) (omega arith, omega arith) (omega arith, omega arith) (omega arith, omega arith) (omega arith, omega arith))
    (accepted 6 4 3 2 3 (omega arith) (omega arith) (omega arith, omega arith) (omega arith, omega arith) (omega arith, omega arith) (omega arith, omega arith))
    ).shared (lent 22) (lent 22) (omega arith) (omega arith)).0 refl

pub one_line_case : tableau_line 4 (3 ∷ 2 ∷ 4 ∷ 3 ∷ []) ≡ tableau_line 4 w4323
unfolding word_run_line run_line pair_of insert
one_line_case = (run_lines_as_tableau_lines 4 (3 ∷ 2 ∷ 4 ∷ 3 ∷ []) w4323).0 refl

pub ranks_case : run_line 4 [] [] ≡ run_line 6 [] [] → ⊥
ranks_case e = let (rank, letters, marks) = run-line-tells 4 6 [] [] [] [] tt tt e in omega arith

pub fault_case : (refused 4 1 ≡ scan 4 0 2 (λ i. outside 4 (get_or (2 ∷ 5 ∷ []) i 0))) × (refused 19 1 ≡ scan 19 0 2 (item_fault (run_with 2 1 0 ∷ run_with 2 1 0 ∷ [])))
unfolding letters_judged runs_judged
fault_case = (item_letters-scan 4 (run_with 2 1 0 ∷ run_with 5 1 0 ∷ []), runs-scan 4 (run_with 2 1 0 ∷ run_with 2 1 0 ∷ []) tt)

pub few_case : length (run_with 1 1 0 ∷ run_with 2 1 0 ∷ []) ≤ 2
unfolding letters_judged runs_judged
few_case = few_items 2 (run_with 1 1 0 ∷ run_with 2 1 0 ∷ []) tt tt
