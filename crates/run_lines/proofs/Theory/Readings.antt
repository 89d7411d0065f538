-- Readers and writers of C lines, and the converters: what they reply to the line of a tableau within the limits, and where they refuse with 14.
--     runs-marked, tableau_good                        what a C line asks of its values holds of a tableau's
--     read_c_result                                    the C line of a tableau is read back
--     c_line_result, word_run_line_result              a tableau and an accepted word get their C line
--     tableau_to_runs_result, runs_to_tableau_result   the T line of a tableau is turned into its C line, and back
--     c_broken                                         14 at p, exactly where C lines break
--     to_runs_broken, to_tableau_broken                the same of the converters, of T lines and of C lines
-- Assumes nothing.
use Prim.Native.Nat.{ℕ, ◌≤◌, ◌<◌}
use native.Mathlib.Omega.{arith}
use mathlib.Core.Path.{◌≡◌, refl}
use mathlib.Core.List.{List, [], ◌∷◌, ◌++◌}
use mathlib.Core.Logic.{◌↔◌}
use lib.ListN.{length}
use Rattle.grammar.specs.Breaks.{Breaks, IsC, IsT}
use Rattle.grammar.specs.Lines.{Run, t_line}
use Rattle.grammar.specs.Reading.{read_c, read_t}
use Rattle.grammar.specs.Values.{CGood, Items, MarkedRuns, RunWith}
use Rattle.grammar.proofs.Theory.Complete.{c_complete, t_complete}
use Rattle.grammar.proofs.Theory.Longest.{c_breaks, c_place, t_breaks, t_place}
use Rattle.outcomes.specs.Counts.{counts_of}
use Rattle.outcomes.specs.Judgements.{room_judged, tableau_judgements, tableau_rooms, word_judgements}
use Rattle.outcomes.specs.Replies.{Said, first, gives, refused, written}
use Rattle.hypoplactic.specs.Ribbons.{TableauAt}
use Rattle.hypoplactic.specs.Words.{Accepted, Within}
use Rattle.quasi_crystal.proofs.Theory.Classes.{marked}
use Rattle.outcomes.proofs.Theory.Judged.{tableau_passing, word_passing}
use Rattle.outcomes.proofs.Theory.Judgements.{letters-judged, room_judged_lem}
use Rattle.outcomes.proofs.Theory.LineReadings.{accepted_small, broken_exactly}
use Rattle.outcomes.proofs.Theory.LineResults.{line_result}
use Rattle.outcomes.proofs.Theory.OtherNumbers.{Other, Others, alike_other, first_other, length_other, letters_other, marks_other, rank_other, rising_other, room_other}
use Rattle.outcomes.proofs.Theory.Passing.{Passing, ran_answer}
use Rattle.run_lines.specs.Judgements.{item_letters, run_judgements}
use Rattle.run_lines.specs.Operations.{c_line_run, read_c_run, run_line, runs_read, runs_to_tableau_run, runs_turned, tableau_to_runs_run, word_run_line, word_run_line_run}
use Rattle.run_lines.specs.Runs.{Runs, RunsAfter, run_cells, runs_of}
use Rattle.run_lines.proofs.Theory.Judged.{items_other, run_passing, sum_other}
use Rattle.run_lines.proofs.Theory.Runs.{tableau_runs, tableau_runs_length, tableau_runs_tableau}

-- ---- the values of a tableau's C line

-- Runs have such marks as a C line shows.
after-marked : (x : ℕ) (rs : List Run) → RunsAfter x rs → Items (λ (r : Run). r.mark ≤ 1) (λ r. r.mark ≤ 1) rs
after-marked x [] h = tt
after-marked x (r ∷ rs) h = (h.2, after-marked r.letter rs h.3)

pub runs-marked : (rs : List Run) → Runs rs → MarkedRuns rs
runs-marked [] h = tt
runs-marked (r ∷ rs) h = (h.1, after-marked r.letter rs h.2)

-- Few cells within a small rank have numbers that a line can hold.
later_good : (n : ℕ) (rs : List Run) → n < 10000 → Within n (item_letters rs) → run_cells rs < 10000
    → Items (λ (r : Run). r.mark ≤ 1) (λ r. r.mark ≤ 1) rs → Items (RunWith (λ m. m ≤ 1)) (RunWith (λ m. m ≤ 1)) rs
later_good n [] l w c h = tt
later_good n (r ∷ rs) l w c h = ((omega (arith, w.1), omega arith, h.0), later_good n rs l w.2 (omega arith) h.1)

runs_good : (n : ℕ) (rs : List Run) → n < 10000 → Within n (item_letters rs) → run_cells rs < 10000 → MarkedRuns rs
    → Items (RunWith (λ m. m ≡ 0)) (RunWith (λ m. m ≤ 1)) rs
runs_good n [] l w c h = tt
runs_good n (r ∷ rs) l w c h = ((omega (arith, w.1), omega arith, h.0), later_good n rs l w.2 (omega arith) h.1)

-- A tableau within the limits passes the checks of its runs,
runs_pass : {n : ℕ} {xs ms : List ℕ} → TableauAt n xs ms → Passing (run_judgements n (length xs) (runs_of xs ms))
runs_pass {n} {xs} {ms} h =
    (run_passing n (length xs) (runs_of xs ms) (runs-marked (runs_of xs ms) (tableau_runs xs ms h.tableau))).1
    (record { letters = xs; marks = ms; tableau = h; runs = refl; cells = refl })

-- and its C line can hold them.
pub tableau_good : {n : ℕ} {xs ms : List ℕ} → TableauAt n xs ms → CGood (n, length xs, runs_of xs ms)
tableau_good {n} {xs} {ms} h =
    let (rank, (size, (letters, rest))) = runs_pass h in
    let high : n ≤ 64 = h.word.rank_high in
    let short : length xs ≤ 1024 = h.word.short in
    let cells : run_cells (runs_of xs ms) ≡ length xs = tableau_runs_length xs ms h.tableau in (
      omega arith,
      omega arith,
      runs_good n (runs_of xs ms) (omega arith) ((letters-judged n (item_letters (runs_of xs ms))).0 letters) (omega arith)
          (runs-marked (runs_of xs ms) (tableau_runs xs ms h.tableau)),
    )

-- ---- what is read and written

module _ (n : ℕ) (xs ms : List ℕ) (h : TableauAt n xs ms) where
  -- The C line of a tableau is read back, and its counts are given.
  pub read_c_result : (letters marks counts : List ℕ) → length xs ≤ length letters → length xs ≤ length marks
      → read_c_run (run_line n xs ms) letters marks counts ≡ (gives (n ∷ length xs ∷ []), (written xs letters, (written ms marks, counts_of xs)))
  unfolding read_c_run run_line
  read_c_result letters marks counts r s =
      let (own_letters, own_marks) = tableau_runs_tableau xs ms h.tableau in
      rw (c_complete n (length xs) (runs_of xs ms) (tableau_good h), own_letters, own_marks)
      (ran_answer (run_judgements n (length xs) (runs_of xs ms)) (tableau_rooms (length xs) (length letters) (length marks))
      (n ∷ length xs ∷ []) (written xs letters, (written ms marks, counts_of xs)) (letters, (marks, counts))
      (runs_pass h) ((room_judged_lem _ _).1 r, ((room_judged_lem _ _).1 s, tt)))

  -- It is written,
  pub c_line_result : (out : List ℕ) → length (run_line n xs ms) ≤ length out
      → c_line_run n xs ms out ≡ (gives (length (run_line n xs ms) ∷ []), written (run_line n xs ms) out)
  unfolding c_line_run
  c_line_result out r = line_result (tableau_judgements n xs ms) (run_line n xs ms) out ((tableau_passing n xs ms).1 h) r

  -- the T line is turned into it,
  pub tableau_to_runs_result : (out : List ℕ) → length (run_line n xs ms) ≤ length out
      → tableau_to_runs_run (t_line n xs ms) out ≡ (gives (length (run_line n xs ms) ∷ []), written (run_line n xs ms) out)
  unfolding tableau_to_runs_run
  tableau_to_runs_result out r =
      rw (t_complete n xs ms (accepted_small h.word).0 (accepted_small h.word).1 (marked xs ms h.tableau)) (c_line_result out r)

  -- and it into the T line.
  pub runs_to_tableau_result : (out : List ℕ) → length (t_line n xs ms) ≤ length out
      → runs_to_tableau_run (run_line n xs ms) out ≡ (gives (length (t_line n xs ms) ∷ []), written (t_line n xs ms) out)
  unfolding runs_to_tableau_run run_line
  runs_to_tableau_result out r =
      let (own_letters, own_marks) = tableau_runs_tableau xs ms h.tableau in
      rw (c_complete n (length xs) (runs_of xs ms) (tableau_good h), own_letters, own_marks)
      (line_result (run_judgements n (length xs) (runs_of xs ms)) (t_line n xs ms) out (runs_pass h) r)

-- The C line of an accepted word is written whole.
pub word_run_line_result : (n : ℕ) (w out : List ℕ) → Accepted n w → length (word_run_line n w) ≤ length out
    → word_run_line_run n w out ≡ (gives (length (word_run_line n w) ∷ []), written (word_run_line n w) out)
unfolding word_run_line_run
word_run_line_result n w out a r = line_result (word_judgements n w) (word_run_line n w) out ((word_passing n w).1 a) r

-- ---- 14, exactly

others_append : (js ks : List Said) → Others js → Others ks → Others (js ++ ks)
others_append [] ks h g = g
others_append (j ∷ js) ks h g = (h.0, others_append js ks h.1 g)

-- The checks of a C line's values, and those of a tableau, refuse with other numbers.
runs_others : (n L : ℕ) (rs : List Run) → Others (run_judgements n L rs)
runs_others n L rs = (rank_other n, (length_other L, (letters_other n (item_letters rs), (items_other rs, (sum_other L rs, tt)))))

tableau_others : (n : ℕ) (xs ms : List ℕ) → Others (tableau_judgements n xs ms)
tableau_others n xs ms =
    (rank_other n, (length_other (length xs), (alike_other (length xs) (length ms ∷ []), (letters_other n xs, (rising_other xs, (marks_other xs ms, tt))))))

-- So does room, after them.
room_others : (js : List Said) (need have : ℕ) (vs : List ℕ) → Others js → Other (first (js ++ (room_judged need have ∷ [])) (gives vs))
room_others js need have vs h = first_other (js ++ (room_judged need have ∷ [])) vs (others_append js (room_judged need have ∷ []) h (room_other need have, tt))

pub c_broken : (text letters marks counts : List ℕ) (p : ℕ) → ((read_c_run text letters marks counts).0 ≡ refused 14 p) ↔ Breaks IsC text p
unfolding read_c_run
c_broken text letters marks counts p =
    broken_exactly IsC read_c (λ v. runs_read letters marks counts v.0 v.1 v.2) (letters, (marks, counts)) text (c_place text) (λ q. (c_breaks text q).0)
    (λ v. others v.0 v.1 v.2) p
  where
    others : (n L : ℕ) (rs : List Run) → Other (runs_read letters marks counts n L rs).0
    others n L rs =
        first_other (run_judgements n L rs ++ tableau_rooms L (length letters) (length marks)) (n ∷ L ∷ [])
        (others_append (run_judgements n L rs) (tableau_rooms L (length letters) (length marks)) (runs_others n L rs)
        (room_other L (length letters), (room_other L (length marks), tt)))

pub to_runs_broken : (text out : List ℕ) (p : ℕ) → ((tableau_to_runs_run text out).0 ≡ refused 14 p) ↔ Breaks IsT text p
unfolding tableau_to_runs_run c_line_run
to_runs_broken text out p =
    broken_exactly IsT read_t (λ v. c_line_run v.0 v.1 v.2 out) out text (t_place text) (λ q. (t_breaks text q).0)
    (λ v. room_others (tableau_judgements v.0 v.1 v.2) _ _ _ (tableau_others v.0 v.1 v.2)) p

pub to_tableau_broken : (text out : List ℕ) (p : ℕ) → ((runs_to_tableau_run text out).0 ≡ refused 14 p) ↔ Breaks IsC text p
unfolding runs_to_tableau_run
to_tableau_broken text out p =
    broken_exactly IsC read_c (λ v. runs_turned out v.0 v.1 v.2) out text (c_place text) (λ q. (c_breaks text q).0)
    (λ v. room_others (run_judgements v.0 v.1 v.2) _ _ _ (runs_others v.0 v.1 v.2)) p
