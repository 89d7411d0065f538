-- The column reading of a tableau: its checks, and the word written column by column over a copy of the letters.
--     passed_alike, passed_room      what holds once the checks have passed
--     Reading xs ms old now at       the loop over columns: those before at are read
--     reading_refused, reading_passed     reply and word from the verdict on
--     reading, replying              the rulesets of the loop and of the operation
-- A single column is in Columns. Assumes nothing.
use Rattle.std.specs.Prelude.{Result, Ok, Err}
use Rattle.std.specs.Prelude.{ℕ, zero, suc, ◌+◌, ◌-◌, ◌<◌, ◌≤◌, ◌≡◌, refl, List, [], ◌∷◌, ◌++◌, reverse, length, get_or, take, drop}
use Rattle.std.proofs.Common.{sym, ◌∙◌, append_assoc, append-nil, add-zero, arith, length-append, length-drop, drop_of_length-le, drop-cons, drop-drop, drop_at, take_at, rules}
use Rattle.std.proofs.lemmas.List.{length-reverse, drop-append-le, take-append-le}
use borrow.Rule.Slice.PartMut.{mid_of, put_mid, mid_len, put_same}
use Rattle.hypoplactic.specs.Reading.{column_reading, read_from}
use Rattle.outcomes.specs.Replies.{gives, written}
use Rattle.outcomes.specs.Judgements.{counted_judgements, room_judged}
use Rattle.outcomes.specs.TableauOperations.{reading_run, reading_says}
use Rattle.outcomes.proofs.Theory.Judgements.{alike-judged, room_judged_lem}
use Rattle.refusals.specs.Running.{checks_then, then_passing, run_refused, run_passed}
use Rattle.refusals.specs.Said.{said_refusal, said_verdict}
use Rattle.refusals.specs.declared.refusal.Refusal.{Refusal}
use Rattle.columns.specs.Columns.{Ended, Skipped, column_read}

-- ---- the word written

-- The letters are copied, and the columns before place at are read in their place.
pub record Reading (xs ms old now : List ℕ) (at : ℕ) : Type 0 where
  pub sofar : List ℕ
  pub is : now ≡ sofar ++ (drop at xs ++ drop (length xs) old)
  pub whole : column_reading xs ms ≡ sofar ++ read_from [] (drop at xs) (drop at ms)
  pub long : length sofar ≡ at
  pub within : at ≤ length xs
  pub alike : length ms ≡ length xs

module _ {xs ms old now : List ℕ} {at end : ℕ} (r : Reading xs ms old now at) (c : Ended ms at end) where
  -- A column's part of the word is its part of the letters,
  column_there : mid_of at (end - at) now ≡ mid_of at (end - at) xs
  column_there =
      rw (r.is, drop_at r.sofar (drop at xs ++ drop (length xs) old) at r.long)
      (take-append-le (end - at) (drop at xs) (drop (length xs) old) (omega (arith, length-drop at xs)))

  -- and once it is turned round the columns before the next are read.
  turned : {ys : List ℕ} → ys ≡ reverse (mid_of at (end - at) xs) → Reading xs ms old (put_mid at (end - at) now ys) end
  turned {ys} e =
      let tail : List ℕ = drop (length xs) old in
      let there : at + (end - at) ≡ end = omega arith in
      let size : length ys ≡ end - at = rw e (length-reverse (mid_of at (end - at) xs) ∙ mid_len at end xs (omega arith)) in
      record {
        sofar = r.sofar ++ ys;
        is = rw (
          r.is,
          take_at r.sofar (drop at xs ++ tail) at r.long,
          drop_at r.sofar (drop at xs ++ tail) at r.long,
          drop-append-le (end - at) (drop at xs) tail (omega (arith, length-drop at xs)),
          drop-drop (end - at) at xs,
          there,
        )
            (sym (append_assoc r.sofar ys _));
        whole = r.whole ∙ rw (column_read xs r.alike c, ← e) (sym (append_assoc r.sofar ys _));
        long = length-append r.sofar ys ∙ omega arith;
        within = omega arith;
        alike = r.alike;
      }

  pub column_turned : {ys : List ℕ} → ys ≡ reverse (mid_of at (end - at) now) → Reading xs ms old (put_mid at (end - at) now ys) end
  column_turned e = turned (rw (← column_there) e)

-- One letter read backwards.
one_reversed : (xs : List ℕ) (at : ℕ) → at < length xs → reverse (take 1 (drop at xs)) ≡ take 1 (drop at xs)
one_reversed xs at l = rw (drop-cons xs at 0 l)

module _ {xs ms old now : List ℕ} {at : ℕ} (r : Reading xs ms old now at) where
  -- A column of one cell is read already.
  one_cell : at < length xs → (at + 1 < length ms → get_or ms (at + 1) 0 ≡ 0) → Reading xs ms old now (at + 1)
  one_cell l h =
      let one : at + 1 - at ≡ 1 = omega arith in
      let column : Ended ms at (at + 1) = record {
        column = record { beyond = omega arith; within = omega arith; down = λ k g f e. let z : ⊥ = omega arith in z };
        right = h;
      } in
      let same : mid_of at (at + 1 - at) now ≡ reverse (mid_of at (at + 1 - at) xs) = column_there r column ∙ rw one (sym (one_reversed xs at l)) in
      rw (put_same at (at + 1 - at) now) at (turned r column same)

module _ {xs ms old now : List ℕ} {at : ℕ} (r : Reading xs ms old now at) where
  -- So are k such columns,
  cells : (k : ℕ) → Skipped ms at (at + k) → Reading xs ms old now (at + k)
  cells zero s = rw (add-zero at) r
  cells (suc k) s =
      let next : at + suc k ≡ at + k + 1 = omega arith in
      let fewer : Skipped ms at (at + k) = record { ahead = omega arith; within = omega arith; right = λ j l. s.right j (omega arith) } in
      rw next (one_cell (cells k fewer) (omega arith) (s.right (at + k + 1) (omega arith) (omega arith)))

  -- and all that are skipped.
  pub skipped : {next : ℕ} → Skipped ms at next → Reading xs ms old now next
  skipped {next} s = let there : at + (next - at) ≡ next = omega arith in rw there at (cells (next - at) (rw there s))

-- The letters are copied, and no column is read.
pub start_reading : {xs ms old now : List ℕ} → length ms ≡ length xs → now ≡ written xs old → Reading xs ms old now 0
unfolding column_reading
start_reading e f = record { sofar = []; is = f; whole = refl; long = refl; within = omega arith; alike = e }

-- All columns are read.
pub end_reading : {xs ms old now : List ℕ} {at : ℕ} → Reading xs ms old now at → Skipped ms at (length ms) → now ≡ written (column_reading xs ms) old
end_reading {xs} {ms} {old} {now} {at} r s =
    let q : Reading xs ms old now (length xs) = rw r.alike at (skipped r s) in
    let none : drop (length xs) xs ≡ [] = drop_of_length-le xs (omega arith) in
    let whole : column_reading xs ms ≡ q.sofar = q.whole ∙ rw (none, append-nil q.sofar) in
    q.is ∙ rw (none, whole, q.long)

-- ---- the operation

-- The verdict of 1 to 6 and 17 on the tableau and of 13,
module _ {v : Result (Unit {0}) Refusal} (n : ℕ) (xs ms cs old : List ℕ)
    (e : said_verdict v ≡ checks_then (counted_judgements n xs ms cs) (room_judged (length xs) (length old) ∷ [])) where
  -- which refuses, and the word is as it was,
  pub reading_refused : (r : Refusal) → v ≡ Err r → (said_refusal r, old) ≡ reading_run n xs ms cs old
  unfolding reading_run reading_says
  reading_refused r q = run_refused _ _ e _ _ old r q

  -- or passes, and the reading is written,
  pub reading_passed : (now : List ℕ) → v ≡ Ok tt → now ≡ written (column_reading xs ms) old → (gives (length xs ∷ []), now) ≡ reading_run n xs ms cs old
  unfolding reading_run reading_says
  reading_passed now q h = run_passed _ _ e _ _ old now q h

  -- since there are as many marks as letters,
  pub passed_alike : v ≡ Ok tt → length ms ≡ length xs
  passed_alike q = let (checks, t) = then_passing _ _ e q in ((alike-judged _ _).0 checks.1.1.0).0

  -- and room for them.
  pub passed_room : v ≡ Ok tt → length xs ≤ length old
  passed_room q = let (checks, (room, t)) = then_passing _ _ e q in (room_judged_lem _ _).0 room

pub ruleset reading = (start_reading, skipped, column_turned, end_reading, rules)

pub ruleset replying = (passed_alike, passed_room, reading_refused, reading_passed, rules)
