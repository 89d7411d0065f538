-- The program's output for a text from what the reader of its W line answers, into a buffer that has room for every accepted word.
--     long_output         more than 4,096 bytes
--     refused_output      a refusal: its E line
--     Taken               a word: the letters that stand in the buffer are an accepted word, and the output is its three lines
--     word_taken
-- Assumes nothing.
use Rattle.std.specs.Prelude.{Result, Ok, Err}
use Rattle.refusals.specs.declared.answers.Sizes.{Sizes}
use Rattle.std.specs.Prelude.{ℕ, ◌≤◌, ◌<◌, ◌≡◌, take, get_or}
use Rattle.std.proofs.Math.Path.{refl, ap₂}
use Rattle.std.proofs.Common.{sym, ap, ◌∙◌, arith, lt-ltb, le-ltb}
use mathlib.Core.List.{List, [], ◌∷◌, ◌++◌}
use Rattle.std.proofs.Math.ListN.{length}
use Rattle.grammar.specs.Lines.{e_line}
use Rattle.grammar.specs.Reading.{Read, got, broken, read_w}
use Rattle.hypoplactic.specs.Words.{Accepted}
use Rattle.outcomes.specs.Replies.{Said, gives, refused, passed, first, written}
use Rattle.outcomes.specs.Judgements.{room_judged, word_judgements}
use Rattle.outcomes.specs.LineOperations.{three_lines, program}
use Rattle.outcomes.specs.LineReadings.{output, printed_for, read_run, read_w_run, word_read}
use Rattle.outcomes.proofs.Theory.Judgements.{room_judged_lem}
use Rattle.outcomes.proofs.Theory.LineResults.{program_result}
use Rattle.outcomes.proofs.Theory.Memory.{written-length, written_needed}
use Rattle.outcomes.proofs.Theory.Passing.{Passing}
use Rattle.refusals.specs.Said.{number, place, said_sizes}
use Rattle.refusals.specs.declared.refusal.Refusal.{Refusal}
use Rattle.refusals.specs.Outcomes.{Outcome, accepted, stopped, outcome, not_both, same_values, same_refusal}

-- More than 4,096 bytes.
pub long_output : (text : List ℕ) → 4096 < length text → output text ≡ e_line 14 4096
unfolding output
long_output text l = rw (lt-ltb 4096 (length text) l)

-- At most 4,096 bytes are read.
short-output : (text : List ℕ) → length text ≤ 4096 → output text ≡ printed_for text (read_w text)
unfolding output
short-output text l = rw (le-ltb 4096 (length text) l)

-- The values of a line, by the outcome of their checks.
module _ (n : ℕ) (ws buffer : List ℕ) (long : 1024 ≤ length buffer) where
  rooms : Accepted n ws → Passing (room_judged (length ws) (length buffer) ∷ [])
  rooms a = let short : length ws ≤ 1024 = a.short in ((room_judged_lem _ _).1 (omega arith), tt)

  judged : Outcome n ws (room_judged (length ws) (length buffer) ∷ []) (n ∷ length ws ∷ [])
  judged = outcome n ws (room_judged (length ws) (length buffer) ∷ []) (n ∷ length ws ∷ []) rooms

-- The buffer holds an accepted word of rank n and l letters, and the output for the text is its three lines.
pub record Taken (text now : List ℕ) (n l : ℕ) : Type 0 where
  pub within : l ≤ length now
  pub accepted : Accepted n (take l now)
  pub prints : output text ≡ three_lines n (take l now)

-- What the reader replies to a text of at most 4,096 bytes, with a buffer of 1,024 letters or more.
module _ (text buffer now : List ℕ) (short : length text ≤ 4096) (long : 1024 ≤ length buffer) where
  -- A refusal.
  refused_for : (k p : ℕ) (r : Read (ℕ × List ℕ)) → (refused k p, now) ≡ read_run text (λ v. word_read buffer v.0 v.1) buffer r
      → printed_for text r ≡ e_line k p
  unfolding program
  refused_for k p (broken rest) e =
      let same = same_refusal (ap (λ (o : Said × List ℕ). o.0) e) in ap₂ e_line (sym same.0) (sym same.1)
  refused_for k p (got v rest) e = go (judged v.0 v.1 buffer long) (ap (λ (o : Said × List ℕ). o.0) e)
    where
      go : Outcome v.0 v.1 (room_judged (length v.1) (length buffer) ∷ []) (v.0 ∷ length v.1 ∷ [])
          → refused k p ≡ first (word_judgements v.0 v.1 ++ (room_judged (length v.1) (length buffer) ∷ [])) (gives (v.0 ∷ length v.1 ∷ []))
          → program v.0 v.1 ≡ e_line k p
      go (accepted a h) f = absurd (not_both (sym (f ∙ h)))
      go (stopped j q h) f =
          let same = same_refusal (f ∙ h (room_judged (length v.1) (length buffer) ∷ []) (gives (v.0 ∷ length v.1 ∷ []))) in
          rw (h [] passed, same.0, same.1) refl

  -- A word.
  taken_for : (n l : ℕ) (r : Read (ℕ × List ℕ)) → (gives (n ∷ l ∷ []), now) ≡ read_run text (λ v. word_read buffer v.0 v.1) buffer r
      → output text ≡ printed_for text r → Taken text now n l
  taken_for n l (broken rest) e o = absurd (not_both (ap (λ (o : Said × List ℕ). o.0) e))
  taken_for n l (got v rest) e o = go (judged v.0 v.1 buffer long)
    where
      go : Outcome v.0 v.1 (room_judged (length v.1) (length buffer) ∷ []) (v.0 ∷ length v.1 ∷ []) → Taken text now n l
      go (stopped j q h) = absurd (not_both (ap (λ (o : Said × List ℕ). o.0) e ∙ h (room_judged (length v.1) (length buffer) ∷ []) (gives (v.0 ∷ length v.1 ∷ []))))
      go (accepted a h) =
          let run : word_read buffer v.0 v.1 ≡ (gives (v.0 ∷ length v.1 ∷ []), written v.1 buffer) = rw h refl in
          let all : ◌≡◌ {A = Said × List ℕ} (gives (n ∷ l ∷ []), now) (gives (v.0 ∷ length v.1 ∷ []), written v.1 buffer) = e ∙ run in
          let same : n ∷ l ∷ [] ≡ v.0 ∷ length v.1 ∷ [] = same_values (ap (λ (o : Said × List ℕ). o.0) all) in
          let rank : n ≡ v.0 = ap (λ (vs : List ℕ). get_or vs 0 0) same in
          let size : l ≡ length v.1 = ap (λ (vs : List ℕ). get_or vs 1 0) same in
          let held : now ≡ written v.1 buffer = ap (λ (o : Said × List ℕ). o.1) all in
          let fits : length v.1 ≤ 1024 = a.short in
          let word : take l now ≡ v.1 = rw (size, held) (written_needed v.1 buffer) in
          record {
            within = rw (size, held, written-length v.1 buffer (omega arith)) (omega arith);
            accepted = rw (word, rank) a;
            prints = o ∙ rw (word, rank) (program_result v.0 v.1 a);
          }

  -- By the reader's answer.
  module _ (line : Result Sizes Refusal) (e : (said_sizes line, now) ≡ read_w_run text buffer) where
    pub refused_output : (q : Refusal) → line ≡ Err q → output text ≡ e_line (number q) (place q)
    unfolding read_w_run
    refused_output q h = short-output text short ∙ refused_for (number q) (place q) (read_w text) (sym (ap (λ (x : Result Sizes Refusal). (said_sizes x, now)) h) ∙ e)

    pub word_taken : (v : Sizes) → line ≡ Ok v → Taken text now v.rank v.count
    unfolding read_w_run
    word_taken v h = taken_for v.rank v.count (read_w text) (sym (ap (λ (x : Result Sizes Refusal). (said_sizes x, now)) h) ∙ e) (short-output text short)
