-- The departure of the oldest letter past its checks: what it replies, and what memory then holds.
--     Counted a cs                       a letter of which one can be counted less
--     depart_refused, depart_passed      the reply and the memory, from the verdict of all checks and, once they have passed, from the oldest letter's cell
--     passed_window                      what holds once they have passed; passed_some, passed_read, passed_counted: what is then asked
--     replying                           the ruleset of the operation
-- That the cell with the entry 1 taken out leaves the pair of the other letters is departs of windows. Assumes nothing.
use Rattle.std.specs.Prelude.{Some, IsSome, Result, Ok, Err}
use Rattle.std.specs.Prelude.{ℕ, ◌-◌, ◌≤◌, ◌<◌, ◌≡◌, length, get_or, take}
use Rattle.std.proofs.Common.{arith, ◌∙◌, get_or-take, length-take-le, rules}
use Rattle.std.proofs.Math.Path.{sym, ap}
use mathlib.Core.List.{List, [], ◌∷◌}
use Rattle.hypoplactic.specs.Insertion.{Pair, pair_with}
use Rattle.outcomes.specs.Replies.{gives}
use Rattle.outcomes.specs.Counts.{one_less}
use Rattle.outcomes.specs.TableauOperations.{written_pair}
use Rattle.refusals.specs.Running.{then_passing, run_refused, run_passed}
use Rattle.refusals.specs.Said.{said_refusal, said_verdict}
use Rattle.refusals.specs.declared.refusal.Refusal.{Refusal}
use Rattle.windows.specs.Departures.{WindowAt, depart_run, depart_says}
use Rattle.windows.specs.Gaps.{closed}
use Rattle.windows.proofs.Theory.Departures.{departs, empty-judged, first_letter, oldest_counted, oldest_stands, window_passing}
use Rattle.closings.specs.Closings.{closed_entries, closed_elements, closed_marks}
use Rattle.closings.specs.Oldest.{oldest_found, oldest_place, oldest_there}
use Rattle.departures.specs.Checks.{depart_checks}

-- A letter of some rank, of which there is one.
pub record Counted (a : ℕ) (cs : List ℕ) : Type 0 where
  pub low : 1 ≤ a
  pub high : a ≤ 64
  pub some : 0 < get_or cs (a - 1) 0

-- The verdict of all checks,
module _ {v : Result (Unit {0}) Refusal} (n used : ℕ) (xs ms rs cs : List ℕ) (e : said_verdict v ≡ depart_checks n used (pair_with xs ms rs) cs) where
  -- which refuses, and nothing changes,
  pub depart_refused : (r : Refusal) → v ≡ Err r → (said_refusal r, (pair_with xs ms rs, cs)) ≡ depart_run n used (pair_with xs ms rs) cs
  unfolding depart_checks depart_run depart_says
  depart_refused r q = run_refused _ _ e {A = Pair × List ℕ} _ _ (pair_with xs ms rs, cs) r q

  -- or passes, and there is a window with a letter in it.
  module _ (q : v ≡ Ok tt) where
    passed_window : WindowAt n used (pair_with xs ms rs) cs × (0 < used)
    unfolding depart_checks
    passed_window =
        let ((rank, (short, (held, t))), (letters, (rising, (marks, (counts, (entries, (recording, (some, s)))))))) = then_passing _ _ e q in
        let window = (window_passing n used (pair_with xs ms rs) cs).0
        (rank, (short, (held, (letters, (rising, (marks, (counts, (entries, (recording, tt))))))))) in
        (window, (empty-judged used).0 some)

    pub passed_some : 1 ≤ used
    passed_some = passed_window.1

    -- The oldest letter's cell is there, and so is the letter.
    pub passed_there : IsSome (oldest_place (take used rs))
    passed_there =
        let size : length (take used rs) ≡ used = length-take-le used rs passed_window.0.in_recording in
        oldest_there (take used rs) (oldest_stands passed_window.0.cells (omega (arith, passed_window.1)))

    module _ {k : ℕ} (o : oldest_place (take used rs) ≡ Some k) where
      found : (k < length (take used rs)) × (get_or (take used rs) k 0 ≡ 1)
      found = oldest_found (take used rs) o

      within : k < used
      within = omega (arith, found.0, length-take-le used rs passed_window.0.in_recording)

      pub passed_read : k < length xs
      passed_read = omega (arith, within, passed_window.0.in_letters)

      letter_there : get_or (take used xs) k 0 ≡ get_or xs k 0
      letter_there = get_or-take used xs k 0 within

      pub passed_counted : Counted (get_or xs k 0) cs
      passed_counted =
          let w : WindowAt n used (pair_with xs ms rs) cs = passed_window.0 in
          let inside : k < length (take used xs) = omega (arith, within, length-take-le used xs w.in_letters) in
          let ((low, high), some) = rw letter_there at (oldest_counted w.cells cs w.counts k inside) in
          record { low = low; high = high; some = some }

      -- With that cell out of each list and that letter counted one less, what is left is the window of the others.
      pub depart_passed : {us vs ws ds : List ℕ} → us ≡ closed_elements k used xs → vs ≡ closed_marks k used rs ms → ws ≡ closed_entries k used rs
          → ds ≡ one_less cs (get_or xs k 0)
          → (gives ((used - 1) ∷ []), (pair_with us vs ws, ds)) ≡ depart_run n used (pair_with xs ms rs) cs
      unfolding depart_checks depart_run depart_says closed_elements closed_marks closed_entries closed
      depart_passed {us} {vs} {ws} {ds} letters marks entries less =
          let cells = departs passed_window.0.cells k found.0 found.1 in
          let left = first_letter passed_window.0.cells k found.0 found.1 in
          let pair = (λ i. pair_with (letters i) (marks i) (entries i)) ∙ ap (λ (r : Pair). written_pair r (pair_with xs ms rs)) (sym cells) in
          let fewer = less ∙ ap (λ (a : ℕ). one_less cs a) (sym letter_there ∙ sym left) in
          run_passed _ _ e {A = Pair × List ℕ} _ _ (pair_with xs ms rs, cs) (pair_with us vs ws, ds) q (λ i. (pair i, fewer i))

pub ruleset replying = (depart_refused, depart_passed, passed_some, passed_there, passed_read, passed_counted, rules)
