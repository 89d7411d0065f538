-- The runs of a tableau's cells, one after the other: the loop that counts their bytes, and the one that writes them.
--     RunsTotalling base xs ms size i           the bytes of the runs before place i are counted, beside base others
--     total_runs, total_run_fits, total_run, total_runs_end        its laws
--     RunsWriting xs ms old start now i at      the runs before place i are written: the next begins at place at
--     form_room, runs_begun, run_room, run_turn, runs_written      its laws; run_kept, runs_kept: no store changes how many elements there are
--     totalling_runs, writing_runs              the rulesets of the functions on runs
-- One run is in RunForms. Assumes nothing.
use Rattle.std.specs.Prelude.{ℕ, ◌+◌, ◌*◌, ◌≤◌, ◌<◌, ◌≡◌, refl, List, [], ◌++◌, length}
use Rattle.std.proofs.Common.{sym, ap, ◌∙◌, append_assoc, append-nil, arith, length-append, Fits, rules}
use Rattle.std.specs.Int.{w64}
use Rattle.grammar.specs.Lines.{field}
use Rattle.line_sizes.specs.Sizes.{Counted}
use Rattle.writers.specs.Items.{listed}
use Rattle.writers.specs.Laying.{Laid, laid_none, laid_then}
use Rattle.writers.specs.RunLengths.{Ran}
use Rattle.writers.specs.RunForms.{form_is, length_form, run-first, run_later, run_laid, run_length_room, run_letter_room, run_step_room, run_at, run_bytes_from, run_form, runs_next, runs_none}

-- ---- the loop that counts

-- The bytes of the runs before place i are counted, beside base others: at most 44 for each cell.
pub record RunsTotalling (base : ℕ) (xs ms : List ℕ) (size i : ℕ) : Type 0 where
  pub short : length xs ≤ 1024
  pub marks : length ms ≡ length xs
  pub reached : i ≤ length xs
  pub is : size + length (run_bytes_from xs ms i) ≡ base + length (run_bytes_from xs ms 0)
  pub few : size ≤ 21 + 44 * i

-- Before the first run.
pub total_runs : {base : ℕ} (xs ms : List ℕ) → length xs ≤ 1024 → length ms ≡ length xs → Counted 21 (field (length xs)) base → RunsTotalling base xs ms base 0
total_runs {base} xs ms h e n = record { short = h; marks = e; reached = omega arith; is = refl; few = omega (arith, n.few) }

-- One run more.
module _ {base : ℕ} {xs ms : List ℕ} {size i k more : ℕ} (h : RunsTotalling base xs ms size i) (l : i < length xs) (r : Ran xs i k)
    (n : Counted 44 (run_at xs ms i k) more) where
  pub total_run_fits : Fits w64 (size + more)
  total_run_fits = record { fits = omega (arith, h.few, h.short, n.few) }

  pub total_run : RunsTotalling base xs ms (size + more) (i + k)
  total_run = record {
    short = h.short;
    marks = h.marks;
    reached = r.within;
    is = omega (
      arith,
      h.is,
      ap length (runs_next xs ms i k h.marks l r),
      length-append (run_at xs ms i k) (run_bytes_from xs ms (i + k)),
      n.is,
    );
    few = omega (arith, h.few, n.few, r.some);
  }

-- Past the last run.
pub total_runs_end : {base size i : ℕ} (xs ms : List ℕ) → Counted 21 (field (length xs)) base → RunsTotalling base xs ms size i → length xs ≤ i
    → Counted 45077 (run_form xs ms) size
total_runs_end {base} {size} {i} xs ms n h l = record {
  is = omega (arith, h.is, ap length (runs_none xs ms i l), length_form xs ms, n.is);
  few = omega (arith, h.few, h.short, h.reached);
}

pub ruleset totalling_runs = (run-first, run_later, total_runs, total_run_fits, total_run, total_runs_end, rules)

-- ---- the loop that writes

-- The runs before place i are written, and the next begins at place at.
pub record RunsWriting (xs ms old : List ℕ) (start : ℕ) (now : List ℕ) (i at : ℕ) : Type 0 where
  pub marks : length ms ≡ length xs
  pub reached : i ≤ length xs
  pub room : start + length (run_bytes_from xs ms 0) ≤ length old
  pub done : List ℕ
  pub whole : run_bytes_from xs ms 0 ≡ done ++ run_bytes_from xs ms i
  pub laid : Laid done old start now at

module _ (xs ms old : List ℕ) (start : ℕ) (e : length ms ≡ length xs) (h : start + length (run_form xs ms) ≤ length old) where
  -- There is room for the count,
  pub form_room : start + length (field (length xs)) ≤ length old
  form_room = omega (arith, length_form xs ms)

  -- and after it for the runs.
  pub runs_begun : {mid : List ℕ} {at : ℕ} → Laid (field (length xs)) old start mid at → RunsWriting xs ms mid at mid 0 at
  runs_begun {mid} {at} k = record {
    marks = e;
    reached = omega arith;
    room = omega (arith, length_form xs ms, k.ends, k.long);
    done = [];
    whole = refl;
    laid = laid_none mid at (omega (arith, k.ends, k.long, length_form xs ms));
  }

module _ {xs ms old : List ℕ} {start : ℕ} {now : List ℕ} {i at k : ℕ} (h : RunsWriting xs ms old start now i at) (l : i < length xs) (r : Ran xs i k) where
  next : run_bytes_from xs ms 0 ≡ h.done ++ (run_at xs ms i k ++ run_bytes_from xs ms (i + k))
  next = h.whole ∙ ap (λ (vs : List ℕ). h.done ++ vs) (runs_next xs ms i k h.marks l r)

  -- There is room for the next run,
  pub run_room : at + length (run_at xs ms i k) ≤ length now
  run_room =
      omega (
        arith,
        h.room,
        ap length next,
        length-append h.done (run_at xs ms i k ++ run_bytes_from xs ms (i + k)),
        length-append (run_at xs ms i k) (run_bytes_from xs ms (i + k)),
        h.laid.ends,
        h.laid.long,
      )

  -- and with it one more is written.
  pub run_turn : {then : List ℕ} {end : ℕ} → Laid (run_at xs ms i k) now at then end → RunsWriting xs ms old start then (i + k) end
  run_turn g = record {
    marks = h.marks;
    reached = r.within;
    room = h.room;
    done = h.done ++ run_at xs ms i k;
    whole = next ∙ sym (append_assoc h.done (run_at xs ms i k) (run_bytes_from xs ms (i + k)));
    laid = laid_then h.laid g;
  }

-- Past the last run.
pub runs_written : {mid now : List ℕ} {first i at : ℕ} (xs ms old : List ℕ) (start : ℕ) → Laid (field (length xs)) old start mid first
    → RunsWriting xs ms mid first now i at → length xs ≤ i → Laid (run_form xs ms) old start now at
unfolding listed
runs_written {mid} {now} {first} {i} {at} xs ms old start k h l =
    let all : run_bytes_from xs ms 0 ≡ h.done = h.whole ∙ ap (λ (vs : List ℕ). h.done ++ vs) (runs_none xs ms i l) ∙ append-nil h.done in
    rw (form_is xs ms, all) (laid_then k h.laid)

-- No store changes how many elements there are.
pub runs_kept : {vs xs ms mid now : List ℕ} {first i at : ℕ} (old : List ℕ) (start : ℕ) → Laid vs old start mid first → RunsWriting xs ms mid first now i at
    → length now ≡ length old
runs_kept old start k h = h.laid.long ∙ k.long

pub run_kept : {us vs ws step mid now : List ℕ} {at from end last : ℕ} (old : List ℕ) → Laid us old at step from → Laid vs step from mid end
    → Laid ws mid end now last → length now ≡ length old
run_kept old h k l = l.long ∙ k.long ∙ h.long

pub ruleset writing_runs = (
  run_step_room,
  run_letter_room,
  run_length_room,
  run_laid,
  run_kept,
  form_room,
  runs_begun,
  run_room,
  run_turn,
  runs_written,
  runs_kept,
  rules,
)
