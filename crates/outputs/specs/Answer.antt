-- The program's answer, from what the reader of the W line answers on.
--     refusal_ok, refusal_printed    the E line of a refusal
--     line_room, line_refused, line_reach, line_ready, line_printed      the output by the reader's answer
--     room_fits                where the check of the room passes, it is enough
--     answer_within            an answer's bytes stand in the memory that was lent for it
--     answering, taking        the rulesets of the answer, and of those who take its bytes
-- Assumes nothing.
use Rattle.std.specs.Prelude.{Result, Ok, Err, IsOk}
use Rattle.refusals.specs.declared.answers.Sizes.{Sizes}
use Rattle.std.specs.Prelude.{ℕ, ◌≤◌, ◌<◌, ◌≡◌, refl, length, take}
use Rattle.std.proofs.Common.{sym, ap, ◌∙◌, arith, rules}
use mathlib.Core.List.{List, [], ◌∷◌}
use Rattle.grammar.specs.Lines.{e_line}
use Rattle.outcomes.specs.Replies.{Said, gives, refused, written}
use Rattle.outcomes.specs.Judgements.{room_judged}
use Rattle.outcomes.specs.LineOperations.{e_line_run, three_lines, room_run}
use Rattle.outcomes.specs.LineReadings.{answer_run, output, read_w_run}
use Rattle.outcomes.proofs.Theory.Judgements.{room_judged_lem}
use Rattle.outcomes.proofs.Theory.LineResults.{e_line_result}
use Rattle.outcomes.proofs.Theory.Memory.{written-length, written_needed}
use Rattle.refusals.specs.Said.{number, place, said_sizes, said_value}
use Rattle.refusals.specs.declared.refusal.Refusal.{Refusal}
use Rattle.writers.specs.Lengths.{e_length}
use Rattle.outputs.specs.Longest.{three_ready, output-short}
use Rattle.refusals.specs.Outcomes.{not_both, wrote_elements, wrote_memory}
use Rattle.outputs.specs.Output.{Taken, long_output, refused_output, word_taken}
use Rattle.outputs.specs.Printing.{Printed, Ready, wrote_ok, wrote_line, never_printed}

-- ---- refusals

module _ (k p : ℕ) (old now : List ℕ) (a : Result ℕ Refusal) (e : (said_value a, now) ≡ e_line_run k p old) (r : length (e_line k p) ≤ length old) where
  pub refusal_ok : IsOk a
  refusal_ok = wrote_ok _ _ _ _ (e ∙ e_line_result k p old r)

  pub refusal_printed : (m : ℕ) → a ≡ Ok m → Printed (e_line k p) old now m
  refusal_printed m q = wrote_line _ _ _ _ (e ∙ e_line_result k p old r) m q r

-- ---- the reader's answer

-- To a text of at most 4,096 bytes, with a buffer for every accepted word, and an output that has room.
module _ (text buffer word : List ℕ) (line : Result Sizes Refusal) (e : (said_sizes line, word) ≡ read_w_run text buffer) (short : length text ≤ 4096)
    (long : 1024 ≤ length buffer) where
  -- A refusal: its E line has room, and is the output.
  module _ (q : Refusal) (h : line ≡ Err q) where
    pub line_room : (have : ℕ) → 16384 ≤ have → length (e_line (number q) (place q)) ≤ have
    line_room have r = rw (← refused_output text buffer word short long line e q h) (omega (arith, output-short text))

    pub line_refused : (old now : List ℕ) (m : ℕ) → Printed (e_line (number q) (place q)) old now m → Printed (output text) old now m
    line_refused old now m p = rw (refused_output text buffer word short long line e q h) p

  -- A word: so many letters can be taken, the buffer is ready for their three lines, and these are the output.
  module _ (v : Sizes) (h : line ≡ Ok v) where
    taken : Taken text word v.rank v.count
    taken = word_taken text buffer word short long line e v h

    pub line_reach : v.count ≤ length word
    line_reach = taken.within

    pub line_ready : (have : ℕ) → 16384 ≤ have → Ready v.rank (take v.count word) (three_lines v.rank (take v.count word)) have
    line_ready have r = three_ready have taken.accepted r

    pub line_printed : (old now : List ℕ) (m : ℕ) → Printed (three_lines v.rank (take v.count word)) old now m → Printed (output text) old now m
    line_printed old now m p = rw taken.prints p

-- More than 4,096 bytes: an E line at a place that a line can hold has room,
pub long_room : (p have : ℕ) → p < 10000 → 16384 ≤ have → length (e_line 14 p) ≤ have
long_room p have l r = omega (arith, e_length 14 p (omega arith) l)

-- and the place is 4,096.
pub long_printed : (text old now : List ℕ) (m : ℕ) → 4096 < length text → Printed (e_line 14 4096) old now m → Printed (output text) old now m
long_printed text old now m l p = rw (long_output text l) p

-- ---- into lent memory

-- Where the check of the room passes, it is enough.
pub room_fits : (need have : ℕ) → gives [] ≡ room_judged need have → need ≤ have
room_fits need have e = (room_judged_lem need have).0 (rw (← e) tt)

pub answered : (text zeros lines out now : List ℕ) (m : ℕ) (a : Result ℕ Refusal) → Printed (output text) zeros lines m → (said_value a, now) ≡ room_run (take m lines) out
    → (said_value a, now) ≡ answer_run text out
unfolding room_run answer_run
answered text zeros lines out now m a h e =
    let is : take m lines ≡ output text = rw (h.size, h.held) (written_needed (output text) zeros) in
    e ∙ rw is refl

-- As many bytes as are printed can be taken.
pub printed_within : (line old now : List ℕ) (m : ℕ) → Printed line old now m → m ≤ length now
printed_within line old now m h = rw (h.held, written-length line old h.fits) (omega (arith, h.size, h.fits))

-- Of an answer into lent memory.
pub answer_within : (text out now : List ℕ) (a : Result ℕ Refusal) (m : ℕ) → (said_value a, now) ≡ answer_run text out → a ≡ Ok m → m ≤ length now
unfolding answer_run
answer_within text out now a m e q = go (room_judged (length (output text)) (length out)) refl
  where
    go : (s : Said) → room_judged (length (output text)) (length out) ≡ s → m ≤ length now
    go (refused k p) f =
        let no : gives (m ∷ []) ≡ refused k p = sym (ap said_value q) ∙ ap (λ (o : Said × List ℕ). o.0) e ∙ rw f refl in
        absurd (not_both no)
    go (gives vs) f =
        let fits : length (output text) ≤ length out = (room_judged_lem _ _).0 (rw f tt) in
        let all : ◌≡◌ {A = Said × List ℕ} (said_value a, now) (gives (length (output text) ∷ []), written (output text) out) = e ∙ rw f refl in
        rw (wrote_elements a all m q, wrote_memory a all, written-length (output text) out fits) fits

pub ruleset answering = (
  refusal_ok,
  refusal_printed,
  never_printed,
  line_room,
  line_refused,
  line_reach,
  line_ready,
  line_printed,
  long_room,
  long_printed,
  answered,
  printed_within,
  rules,
)

-- What a caller needs that takes the bytes of an answer.
pub ruleset taking = (answer_within, rules)
