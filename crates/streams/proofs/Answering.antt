-- What is written for the bytes that have come is the output for all that a reader had left.
--     answer_held      an answer's bytes at the front of the memory lent for it are the output
--     answer_never     and it is no refusal where there is room for 16,384
--     whole_read       at most 4,097 bytes that have come, and all where fewer have, have the output of all that was left
--     few_taken        of a reader no more than the bytes that have come are taken
--     never            for the first bytes of a buffer an answer is written,
--     streamed         which is the output for all that was left
-- Assumes nothing.
use Rattle.std.specs.Prelude.{Option, Some, None, Result, Ok, Err}
use Rattle.std.specs.Prelude.{ℕ, ◌+◌, ◌-◌, ◌≤◌, ◌<◌, ◌≡◌, refl, List, [], ◌∷◌, ◌++◌, Some, None, Ok, Err, Result, IfSome, OnOk, length, take}
use Rattle.std.proofs.Common.{sym, ap, ◌∙◌, arith, append-nil, length-append, length-take-le, subst, ⊎_elim, eq-or-lt_of_le}
use Rattle.std.specs.Io.KnownBytes.{Appends, Consumes, IsAtEnd}
use Rattle.std.specs.declared.option.Option.{Option}
use Rattle.outcomes.specs.Replies.{Said, gives, refused, written}
use Rattle.outcomes.specs.Judgements.{room_judged}
use Rattle.outcomes.specs.LineReadings.{answer_run, output}
use Rattle.outcomes.proofs.Theory.Judgements.{room_judged_lem}
use Rattle.outcomes.proofs.Theory.Memory.{written_needed}
use Rattle.refusals.specs.Outcomes.{wrote_elements, wrote_memory, wrote_refused}
use Rattle.refusals.specs.Said.{said_value}
use Rattle.refusals.specs.declared.refusal.Refusal.{Refusal}
use Rattle.outputs.specs.Longest.{output-short}
use Rattle.outputs.specs.Output.{long_output}

module _ (text out now : List ℕ) (a : Result ℕ Refusal) (e : (said_value a, now) ≡ answer_run text out) (room : 16384 ≤ length out) where
  -- There is room for every output.
  all : ◌≡◌ {A = Said × List ℕ} (said_value a, now) (gives (length (output text) ∷ []), written (output text) out)
  unfolding answer_run
  all = go (room_judged (length (output text)) (length out)) refl
    where
      go : (s : Said) → room_judged (length (output text)) (length out) ≡ s → ◌≡◌ {A = Said × List ℕ} (said_value a, now) (gives (length (output text) ∷ []), written (output text) out)
      go (gives vs) f = e ∙ rw f refl
      go (refused k p) f =
          let fits : length (output text) ≤ length out = omega (arith, room, output-short text) in
          absurd (rw f at ((room_judged_lem _ _).1 fits))

  pub answer_held : (m : ℕ) → a ≡ Ok m → take m now ≡ output text
  answer_held m q = rw (wrote_elements a all m q, wrote_memory a all) (written_needed (output text) out)

  pub answer_never : (q : Refusal) → a ≡ Err q → ⊥
  answer_never q h = wrote_refused a all q h

-- At most 4,097 bytes have come, and fewer only where no more was left.
pub whole_read : (was left : Option (List ℕ)) (got : ℕ) (buffer : List ℕ) → length buffer ≡ 4097 → got ≤ length buffer → Consumes was left (take got buffer)
    → (got < length buffer → IsAtEnd left) → IfSome was (λ text. output (take got buffer) ≡ output text)
whole_read None left got buffer size within c end = tt
whole_read (Some text) None got buffer size within c end = absurd c
whole_read (Some text) (Some rest) got buffer size within c end = ⊎_elim full short (eq-or-lt_of_le within)
  where
    short : got < length buffer → output (take got buffer) ≡ output text
    short l = ap output (sym (c ∙ ap (λ r. take got buffer ++ r) (end l) ∙ append-nil (take got buffer)))

    -- Of more than 4,096 bytes all have one answer.
    full : got ≡ length buffer → output (take got buffer) ≡ output text
    full e =
        let came : length (take got buffer) ≡ 4097 = length-take-le got buffer within ∙ e ∙ size in
        let more : length text ≡ length (take got buffer) + length rest = ap length c ∙ length-append (take got buffer) rest in
        long_output (take got buffer) (omega (arith, came)) ∙ sym (long_output text (omega (arith, came, more)))

-- Of a reader no more than the bytes that have come are taken.
pub few_taken : (was left : Option (List ℕ)) (got : ℕ) (buffer : List ℕ) → length buffer ≡ 4097 → got ≤ length buffer → Consumes was left (take got buffer)
    → IfSome was (λ text. IfSome left (λ rest. length text ≤ length rest + 4097))
few_taken None left got buffer size within c = tt
few_taken (Some text) None got buffer size within c = tt
few_taken (Some text) (Some rest) got buffer size within c =
    let came : length (take got buffer) ≡ got = length-take-le got buffer within in
    let more : length text ≡ length (take got buffer) + length rest = ap length c ∙ length-append (take got buffer) rest in
    omega arith

-- The output for the bytes that have come is written: it is that for all that was left.
answered : (was before after : Option (List ℕ)) (bytes line : List ℕ) → IfSome was (λ text. line ≡ output text) → bytes ≡ line → Appends before after bytes
    → IfSome was (λ text. Appends before after (output text))
answered None before after bytes line h e a = tt
answered (Some text) before after bytes line h e a = subst (Appends before after) (e ∙ h) a

-- Where the bytes that have come are the first of a buffer,
module _ (buffer out now : List ℕ) (got : ℕ) (a : Result ℕ Refusal) (e : (said_value a, now) ≡ answer_run (take (got - 0) buffer) out) (room : 16384 ≤ length out) where
  said : (said_value a, now) ≡ answer_run (take got buffer) out
  said = let z : got - 0 ≡ got = omega arith in rw z at e

  -- an answer is written,
  pub never : (q : Refusal) → a ≡ Err q → ⊥
  never q h = answer_never (take got buffer) out now a said room q h

  -- and if it was read to the end and written whole, it is the output for all that was left.
  pub streamed : {A E : Type 0} (was left before after : Option (List ℕ)) (m : ℕ) (ended : Result A E) → length buffer ≡ 4097 → got ≤ length buffer
      → Consumes was left (take got buffer) → OnOk ended (got < length buffer → IsAtEnd left) → a ≡ Ok m → Appends before after (take (m - 0) now)
      → OnOk ended (IfSome was (λ text. Appends before after (output text)))
  streamed was left before after m (Ok u) size within came end q w =
      let z : m - 0 ≡ m = omega arith in
      answered was before after (take (m - 0) now) (output (take got buffer)) (whole_read was left got buffer size within came end)
      (rw z (answer_held (take got buffer) out now a said room m q)) w
  streamed was left before after m (Err f) size within came end q w = tt
