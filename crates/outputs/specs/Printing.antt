-- Lines printed one after another from the front of a buffer, for an accepted word.
--     Ready n w line have        the word is accepted, and a buffer of so many bytes has room for the line
--     Printed line old now k     the line stands at the front of a buffer that held old, and has k bytes
--     wrote_ok, wrote_line       nothing is refused where a writer's run gives the line, and it stands there
--     never_printed              so the branch of a refusal is never reached
--     kept_length                a buffer that holds a line is as long as it was
--     then_room, then_printed    a line in the part straight after another
-- The lines of a word are in ThreeLines. Assumes nothing.
use Rattle.std.specs.Prelude.{Result, Ok, Err, IsOk}
use Rattle.std.specs.Prelude.{ℕ, ◌+◌, ◌-◌, ◌≤◌, ◌≡◌, refl, List, [], ◌∷◌, ◌++◌, length, drop}
use Rattle.std.proofs.Common.{sym, ap, ◌∙◌, append_assoc, append-nil, arith, length-append, length-drop, drop-drop, true≢false}
use Rattle.std.proofs.Math.Seq.{drop-append_seam, drop-length, take-length}
use borrow.Rule.Slice.PartMut.{mid_of, put_mid, mid_len}
use Rattle.hypoplactic.specs.Words.{Accepted}
use Rattle.outcomes.specs.Replies.{Said, gives, written}
use Rattle.outcomes.proofs.Theory.Memory.{written-length}
use Rattle.refusals.specs.Outcomes.{wrote_elements, wrote_memory, wrote_refused}
use Rattle.refusals.specs.Running.{written_part}
use Rattle.refusals.specs.Said.{said_value}
use Rattle.refusals.specs.declared.refusal.Refusal.{Refusal}

-- The word is accepted, and a buffer of so many bytes has room for its line.
pub record Ready (n : ℕ) (w line : List ℕ) (have : ℕ) : Type 0 where
  pub accepted : Accepted n w
  pub room : length line ≤ have

-- The line stands at the front of a buffer that held old, and has so many bytes.
pub record Printed (line old now : List ℕ) (bytes : ℕ) : Type 0 where
  pub held : now ≡ written line old
  pub size : bytes ≡ length line
  pub fits : length line ≤ length old

-- ---- one line

-- A writer's answer a, where its run gives the line: it is no refusal, and the line is printed.
module _ (line old now : List ℕ) (a : Result ℕ Refusal) (e : ◌≡◌ {A = Said × List ℕ} (said_value a, now) (gives (length line ∷ []), written line old)) where
  pub wrote_ok : IsOk a
  wrote_ok = go a refl
    where
      go : (r : Result ℕ Refusal) → a ≡ r → IsOk r
      go (Ok k) q = refl
      go (Err q) h = absurd (wrote_refused a e q h)

  pub wrote_line : (k : ℕ) → a ≡ Ok k → length line ≤ length old → Printed line old now k
  wrote_line k q fits = record { held = wrote_memory a e; size = wrote_elements a e k q; fits = fits }

-- Where nothing is refused, the branch of a refusal is never reached, whatever it prints.
pub never_printed : (line old now : List ℕ) (k : ℕ) (a : Result ℕ Refusal) (q : Refusal) → a ≡ Err q → IsOk a → Printed line old now k
never_printed line old now k a q e h = absurd (true≢false (sym (rw e at h)))

-- ---- one line after another

-- A line, then others in the part of the buffer straight after it.
module _ (vs us old now : List ℕ) (at end : ℕ) (h : Printed vs old now at) (whole : end ≡ length now) where
  pub kept_length : length now ≡ length old
  kept_length = ap length h.held ∙ written-length vs old h.fits

  left : length (mid_of at (end - at) now) ≡ length old - length vs
  left = mid_len at end now (omega arith) ∙ rw (h.size, whole, kept_length) refl

  pub then_room : length (vs ++ us) ≤ length old → length us ≤ length (mid_of at (end - at) now)
  then_room r = omega (arith, left, r, length-append vs us)

  pub then_printed : (ys : List ℕ) (k : ℕ) → Printed us (mid_of at (end - at) now) ys k → Printed (vs ++ us) old (put_mid at (end - at) now ys) (at + k)
  then_printed ys k g =
      record {
        held = placed;
        size = omega (arith, h.size, g.size, length-append vs us);
        fits = omega (arith, left, h.fits, g.fits, length-append vs us);
      }
    where
      -- What the part held,
      rest : mid_of at (end - at) now ≡ drop (length vs) old
      rest =
          let size : at ≡ length vs = h.size in
          let all : length (drop at now) ≡ end - at = omega (arith, length-drop at now) in
          rw (← all, take-length (drop at now)) (rw (h.held, size) (drop-append_seam vs (drop (length vs) old)))

      -- and what it holds: the lines, and what was beyond them.
      part : ys ≡ us ++ drop (length vs + length us) old
      part = g.held ∙ rw (rest, drop-drop (length us) (length vs) old) refl

      full : length ys ≡ end - at
      full = ap length g.held ∙ written-length us (mid_of at (end - at) now) g.fits ∙ mid_len at end now (omega arith)

      none : drop (length (vs ++ ys)) old ≡ []
      none =
          let all : length (vs ++ ys) ≡ length old = omega (arith, length-append vs ys, full, h.size, h.fits, kept_length) in
          rw all (drop-length old)

      placed : put_mid at (end - at) now ys ≡ written (vs ++ us) old
      placed =
          let size : at ≡ length vs = h.size in
          let before : put_mid at (end - at) now ys ≡ written (vs ++ ys) old = rw (h.held, size) (written_part vs old (end - length vs) ys (omega (arith, full))) in
          before ∙ rw (none, append-nil (vs ++ ys), part, length-append vs us) (sym (append_assoc vs us (drop (length vs + length us) old)))
