-- The values of a T line and an N line, from the numbers of their items and the items in memory on.
--     Roomed ls ms es              memory for the items: 1,024 places each
--     count_judgements n k l        1, and 2 of either number of items
--     past s run old               what follows checks on numbers alone
--     values_run n k l ls ms es out what is replied, and what lent memory then holds: the converter's reply to the first items in memory
--     counts_stop                  where a number is refused, the converter refuses it
--     values_stopped               so do the values in memory
--     values_cells, values_letters, values_marks, values_entries
--                                  as many items as the lines have can be taken
--     values_written               what is said of the letters as bytes is said of the values
--     valuing                      the ruleset of such values
-- That the converter then replies as the writer of P lines does is convert_as_written of former_lines. Assumes nothing.
use Rattle.std.specs.Prelude.{ℕ, ◌≤◌, ◌≡◌, Ok}
use Rattle.std.proofs.Math.Path.{refl, sym, ap}
use Rattle.std.proofs.Common.{◌∙◌, rules}
use mathlib.Core.List.{List, [], ◌∷◌, map}
use native.Mathlib.Omega.{arith}
use Rattle.std.proofs.Math.ListN.{length, take, length-map}
use Rattle.std.proofs.Math.Seq.{length-take-le}
use Rattle.grammar.specs.Lines.{p_line}
use Rattle.outcomes.specs.Judgements.{alike_judged, entries_judged, length_judged, letters_judged, marks_judged, rank_judged, recording_judged, rising_judged, room_judged}
use Rattle.outcomes.specs.LineOperations.{p_line_run}
use Rattle.outcomes.specs.Replies.{Said, first, gives, passed, refused, written}
use Rattle.outcomes.proofs.Theory.Judgements.{length-judged, rank_judged_lem}
use Rattle.outcomes.proofs.Theory.Passing.{Passing, first-append, first-passed}
use Rattle.former_lines.specs.Conversion.{converted}
use Rattle.former_lines.proofs.Theory.Conversions.{convert_as_written}
use Rattle.refusals.specs.Running.{all_passing}
use Rattle.refusals.specs.Said.{said_refusal}
use Rattle.refusals.specs.declared.refusal.Refusal.{Refusal}
use Rattle.acceptance.specs.Bytes.{narrowed}
use Rattle.scans.specs.Kept.{kept, kept-take}
use Rattle.line_items.specs.Blank.{blank, blank_long}
use Rattle.line_items.specs.Narrowed.{narrowed_run}

-- Places for letters, marks and entries.
pub record Roomed (ls ms es : List ℕ) : Type 0 where
  pub letters_room : length ls ≡ 1024
  pub marks_room : length ms ≡ 1024
  pub entries_room : length es ≡ 1024

-- 1, and 2 of either number of items.
abbrev pub count_judgements : ℕ → ℕ → ℕ → List Said
count_judgements n k l = rank_judged n ∷ length_judged k ∷ length_judged l ∷ []

-- What follows checks on numbers alone, which leave memory as it was where they refuse.
abbrev pub past : {B : Type 0} → Said → Said × B → B → Said × B
past (gives vs) run old = run
past (refused k p) run old = (refused k p, old)

-- The numbers are judged first; where they pass, memory holds all items.
unfoldable pub values_run : ℕ → ℕ → ℕ → List ℕ → List ℕ → List ℕ → List ℕ → Said × List ℕ
values_run n k l ls ms es out = past (first (count_judgements n k l) passed) (converted out n (take k ls) (take k ms) (take l es)) out

-- What is judged after the numbers.
abbrev pair_rest : ℕ → List ℕ → List ℕ → List ℕ → List ℕ → List Said
pair_rest n xs ms rs out =
    alike_judged (length xs) (length ms ∷ length rs ∷ []) ∷ letters_judged n xs ∷ rising_judged xs ∷ marks_judged xs ms ∷ entries_judged (length xs) rs
    ∷ recording_judged rs ms ∷ room_judged (length (p_line n xs ms rs)) (length out) ∷ []

-- Where a number is refused, the converter refuses it.
pub counts_stop : (n : ℕ) (xs ms rs out : List ℕ) (j p : ℕ) → first (count_judgements n (length xs) (length rs)) passed ≡ refused j p
    → converted out n xs ms rs ≡ (refused j p, out)
counts_stop n xs ms rs out j p e = rw (first-append (count_judgements n (length xs) (length rs)) (pair_rest n xs ms rs out) (gives (length (p_line n xs ms rs) ∷ [])), e)

-- The writer of P lines replies to letters as bytes as to the letters.
pair_narrowed : (n : ℕ) (xs ms rs out : List ℕ) → n ≤ 64 → p_line_run n (map narrowed xs) ms rs out ≡ p_line_run n xs ms rs out
unfolding p_line_run
pair_narrowed n xs ms rs out h =
    narrowed_run n xs (λ ws. rank_judged n ∷ length_judged (length ws) ∷ alike_judged (length ws) (length ms ∷ length rs ∷ []) ∷ [])
    (λ ws. rising_judged ws ∷ marks_judged ws ms ∷ entries_judged (length ws) rs ∷ recording_judged rs ms ∷ room_judged (length (p_line n ws ms rs)) (length out) ∷ [])
    (λ ws. gives (length (p_line n ws ms rs) ∷ [])) (λ ws. written (p_line n ws ms rs) out) out h (rw (length-map xs narrowed))

module _ (n k l : ℕ) (ls ms es out : List ℕ) where
  -- A number is refused,
  pub values_stopped : (q : Refusal) → said_refusal q ≡ first (count_judgements n k l) passed → (said_refusal q, out) ≡ values_run n k l ls ms es out
  unfolding values_run
  values_stopped q e = rw (← e)

  -- or they pass.
  module _ (e : gives [] ≡ first (count_judgements n k l) passed) where
    numbers : Passing (count_judgements n k l)
    numbers = all_passing {v = Ok tt} (count_judgements n k l) e refl

    cells_few : k ≤ 1024
    cells_few = (length-judged k).0 numbers.1.0

    entries_few : l ≤ 1024
    entries_few = (length-judged l).0 numbers.1.1.0

    -- As many items as the lines have can be taken.
    pub values_cells : (xs : List ℕ) → length xs ≡ 1024 → k ≤ length xs
    values_cells xs h = omega (arith, cells_few)

    pub values_letters : Roomed ls ms es → k ≤ length ls
    values_letters h = omega (arith, cells_few, h.letters_room)

    pub values_marks : Roomed ls ms es → k ≤ length ms
    values_marks h = omega (arith, cells_few, h.marks_room)

    pub values_entries : Roomed ls ms es → l ≤ length es
    values_entries h = omega (arith, entries_few, h.entries_room)

    -- What the writer of P lines says of the letters as bytes is said of the values.
    pub values_written : (bytes : List ℕ) {said : Said × List ℕ} → Roomed ls ms es → bytes ≡ kept (map narrowed (take k ls)) (blank 1024)
        → said ≡ p_line_run n (take k bytes) (take k ms) (take l es) out → said ≡ values_run n k l ls ms es out
    unfolding values_run
    values_written bytes {said} h a w =
        let here : length (map narrowed (take k ls)) ≡ k = length-map (take k ls) narrowed ∙ length-take-le k ls (values_letters h) in
        let kept_are : bytes ≡ kept (map narrowed (take k ls)) (blank 1024) = a in
        let room : length (map narrowed (take k ls)) ≤ length (blank 1024) = omega (arith, cells_few, blank_long 1024 {xs = blank 1024} refl) in
        let all : take k bytes ≡ map narrowed (take k ls) = rw kept_are (rw here at (kept-take (map narrowed (take k ls)) (blank 1024) room)) in
        let few : length (take l es) ≤ 1024 = rw (length-take-le l es (values_entries h)) entries_few in
        let through : first (count_judgements n k l) passed ≡ passed = (first-passed (count_judgements n k l)).1 numbers in
        w ∙ ap (λ (xs : List ℕ). p_line_run n xs (take k ms) (take l es) out) all
        ∙ pair_narrowed n (take k ls) (take k ms) (take l es) out ((rank_judged_lem n).0 numbers.0).1
        ∙ sym (convert_as_written n (take k ls) (take k ms) (take l es) out few)
        ∙ rw through refl

pub ruleset valuing = (values_stopped, values_cells, values_letters, values_marks, values_entries, values_written, rules)
