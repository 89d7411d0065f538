-- A pair of a line into lent memory: the reply, and memory, from the verdict of the checks on.
--     PairCopied                     letters, marks and entries are copied
--     pair_refused, pair_passed      a pair, and its letter counts
-- Words and tableaux are in Stores. Assumes nothing.
use Rattle.std.specs.Prelude.{Result, Ok, Err}
use Rattle.std.specs.Prelude.{ℕ, ◌≡◌, List, [], ◌∷◌, length}
use Rattle.std.proofs.Common.{arith}
use Rattle.hypoplactic.specs.Insertion.{pair_with}
use Rattle.outcomes.specs.Judgements.{pair_judgements, pair_rooms}
use Rattle.outcomes.specs.LineReadings.{pair_read}
use Rattle.outcomes.specs.Replies.{gives}
use Rattle.hypoplactic.specs.Words.{Accepted}
use Rattle.outcomes.proofs.Theory.Judged.{pair_passing}
use Rattle.outcomes.proofs.Theory.Judgements.{alike-judged, room_judged_lem}
use Rattle.buffers.specs.Copies.{copied, copied_all}
use Rattle.refusals.specs.Running.{checks_then, run_passed, run_refused, then_passing}
use Rattle.refusals.specs.Said.{said_refusal, said_verdict}
use Rattle.refusals.specs.declared.refusal.Refusal.{Refusal}
use Rattle.words.specs.Given.{count_given, counts-given}
use Rattle.words.specs.Tables.{Table}

-- Letters, marks and entries are copied into memory that held others.
pub record PairCopied (xs ms rs letters marks entries xs' ms' rs' : List ℕ) : Type 0 where
  pub letters_are : xs' ≡ copied xs letters
  pub marks_are : ms' ≡ copied ms marks
  pub entries_are : rs' ≡ copied rs entries

-- The verdict of 1 to 8 and 13.
module _ {v : Result (Unit {0}) Refusal} (n : ℕ) (xs ms rs letters marks entries counts : List ℕ)
    (e : said_verdict v ≡ checks_then (pair_judgements n xs ms rs) (pair_rooms (length xs) (length letters) (length marks) (length entries))) where
  pub pair_refused : (r : Refusal) → v ≡ Err r
      → (said_refusal r, (pair_with letters marks entries, counts)) ≡ pair_read (pair_with letters marks entries) counts n xs ms rs
  pair_refused r q = run_refused _ _ e _ _ (pair_with letters marks entries, counts) r q

  -- There are as many marks and entries as letters, and the letters are an accepted word, whose table is made.
  pub pair_passed : {xs' ms' rs' cs : List ℕ} → v ≡ Ok tt → PairCopied xs ms rs letters marks entries xs' ms' rs' → Table (count_given n xs) cs
      → (gives (n ∷ length xs ∷ []), (pair_with xs' ms' rs', cs)) ≡ pair_read (pair_with letters marks entries) counts n xs ms rs
  pair_passed {xs'} {ms'} {rs'} {cs} q h t =
      let (checks, (first, (second, (third, u)))) = then_passing _ _ e q in
      let (as_marks, (as_entries, w)) = (alike-judged _ _).0 checks.1.1.0 in
      let word : Accepted n xs = ((pair_passing n xs ms rs).0 checks).word in
      run_passed _ _ e _ _ (pair_with letters marks entries, counts) (pair_with xs' ms' rs', cs) q
      (rw (copied_all xs letters xs' h.letters_are ((room_judged_lem _ _).0 first), copied_all ms marks ms' h.marks_are (omega (arith, as_marks, (room_judged_lem _ _).0 second)), copied_all rs entries rs' h.entries_are (omega (arith, as_entries, (room_judged_lem _ _).0 third)), counts-given word t))
