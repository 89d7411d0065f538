-- A tableau of a line into lent memory: the reply, and memory, from the verdict of the checks on.
--     Copied                               letters and marks are copied
--     tableau_refused, tableau_passed      a tableau, and its letter counts
-- Pairs are in PairStores, words in word_readers. Assumes nothing.
use Rattle.std.specs.Prelude.{Result, Ok, Err}
use Rattle.std.specs.Prelude.{ℕ, ◌≡◌, List, [], ◌∷◌, length}
use Rattle.std.proofs.Common.{arith}
use Rattle.hypoplactic.specs.Words.{Accepted}
use Rattle.outcomes.specs.Judgements.{room_judged, tableau_judgements}
use Rattle.outcomes.specs.LineReadings.{tableau_read}
use Rattle.outcomes.specs.Replies.{gives}
use Rattle.outcomes.proofs.Theory.Judged.{tableau_passing}
use Rattle.outcomes.proofs.Theory.Judgements.{alike-judged, room_judged_lem}
use Rattle.buffers.specs.Copies.{copied, copied_all}
use Rattle.refusals.specs.Running.{checks_then, run_passed, run_refused, then_passing}
use Rattle.refusals.specs.Said.{said_refusal, said_verdict}
use Rattle.refusals.specs.declared.refusal.Refusal.{Refusal}
use Rattle.words.specs.Given.{count_given, counts-given}
use Rattle.words.specs.Tables.{Table}

-- Letters and marks are copied into memory that held others.
pub record Copied (xs ms letters marks xs' ms' : List ℕ) : Type 0 where
  pub letters_are : xs' ≡ copied xs letters
  pub marks_are : ms' ≡ copied ms marks

-- The verdict of 1 to 6 and 13.
module _ {v : Result (Unit {0}) Refusal} (n : ℕ) (xs ms letters marks counts : List ℕ)
    (e : said_verdict v
    ≡ checks_then (tableau_judgements n xs ms) (room_judged (length xs) (length letters) ∷ room_judged (length xs) (length marks) ∷ [])) where
  pub tableau_refused : (r : Refusal) → v ≡ Err r → (said_refusal r, (letters, (marks, counts))) ≡ tableau_read letters marks counts n xs ms
  tableau_refused r q = run_refused _ _ e _ _ (letters, (marks, counts)) r q

  -- There are as many marks as letters, and the letters are an accepted word, whose table is made.
  pub tableau_passed : {xs' ms' cs : List ℕ} → v ≡ Ok tt → Copied xs ms letters marks xs' ms' → Table (count_given n xs) cs
      → (gives (n ∷ length xs ∷ []), (xs', (ms', cs))) ≡ tableau_read letters marks counts n xs ms
  tableau_passed {xs'} {ms'} {cs} q h t =
      let (checks, (first, (second, u))) = then_passing _ _ e q in
      let alike : length ms ≡ length xs = ((alike-judged _ _).0 checks.1.1.0).0 in
      let word : Accepted n xs = ((tableau_passing n xs ms).0 checks).word in
      run_passed _ _ e _ _ (letters, (marks, counts)) (xs', (ms', cs)) q
      (rw (copied_all xs letters xs' h.letters_are ((room_judged_lem _ _).0 first), copied_all ms marks ms' h.marks_are (omega (arith, (room_judged_lem _ _).0 second)), counts-given word t))
