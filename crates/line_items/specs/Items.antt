-- What memory holds of a line that was scanned: all of its items, if there is room for them.
--     break_place_lem                  the place of a break, by what is left of the text
--     letters_room, marks_room     memory for items is as long as it was
--     bytes_long                   letters as bytes are 1,024
--     letters_long                 the line is read; how many letters it has
--     kept_all, bytes_all          what is kept of a line that has room is all of it, and so are its letters as bytes
-- Letters as bytes are judged as the letters: Narrowed. Assumes nothing.
use Rattle.std.specs.Prelude.{ℕ, ◌-◌, ◌≤◌, ◌≡◌, refl, Bool, List, Result, Ok, map, length, drop, take}
use Rattle.std.proofs.Common.{ap, ◌∙◌, arith, length-drop}
use Rattle.std.proofs.lemmas.List.{length-map}
use Rattle.grammar.specs.Reading.{Read, letters}
use Rattle.acceptance.specs.Bytes.{narrowed}
use Rattle.scans.specs.Items.{step_marks}
use Rattle.scans.specs.Kept.{kept, kept-take, length-kept}
use Rattle.scans.specs.Scans.{Scanned}
use Rattle.scans.specs.declared.line.Head.{Head}
use Rattle.numerals.specs.declared.numbers.Broken.{Broken}
use Rattle.line_items.specs.Blank.{blank, blank_long}

-- The place of a break.
pub break_place_lem : (text : List ℕ) (p : ℕ) → p ≤ length text → length text - length (drop p text) ≡ p
break_place_lem text p l = omega (arith, length-drop p text)

-- Letters as bytes are 1,024 with the zeros behind them.
pub bytes_long : (vs : List ℕ) {bytes : List ℕ} → bytes ≡ kept vs (blank 1024) → length bytes ≡ 1024
bytes_long vs e = ap length e ∙ length-kept vs (blank 1024) ∙ blank_long 1024 refl

-- Room for 1,024 letters and marks is as long as it was.
module _ {text : List ℕ} {steps : Bool} {reading : Read (ℕ × List (ℕ × ℕ))} {cells : List (ℕ × ℕ)} {old_letters old_marks xs ms : List ℕ} {r : Result Head Broken}
    (s : Scanned text steps reading cells old_letters old_marks xs ms r) where
  pub letters_room : old_letters ≡ blank 1024 → length xs ≡ 1024
  letters_room e = ap length s.letters_are ∙ length-kept (letters cells) old_letters ∙ blank_long 1024 e

  pub marks_room : old_marks ≡ blank 1024 → length ms ≡ 1024
  marks_room e = ap length s.marks_are ∙ length-kept (step_marks steps cells) old_marks ∙ blank_long 1024 e

-- The line is read.
module _ {text : List ℕ} {steps : Bool} {reading : Read (ℕ × List (ℕ × ℕ))} {cells : List (ℕ × ℕ)} {old_letters old_marks xs ms : List ℕ} {h : Head}
    (s : Scanned text steps reading cells old_letters old_marks xs ms (Ok h)) where
  -- So many letters it has.
  pub letters_long : length (letters cells) ≡ h.count
  letters_long = length-map cells (λ c. c.0) ∙ s.long

  -- What is kept of a line within the limits is all of it,
  pub kept_all : (f : ℕ × ℕ → ℕ) {ys : List ℕ} (old : List ℕ) → ys ≡ kept (map f cells) old → h.count ≤ length ys → take h.count ys ≡ map f cells
  kept_all f {ys} old e l =
      let size : length (map f cells) ≡ h.count = length-map cells f ∙ s.long in
      let all : h.count ≡ length (map f cells) = omega arith in
      let long : length ys ≡ length old = ap length e ∙ length-kept (map f cells) old in
      rw (all, e) (kept-take (map f cells) old (omega arith))

  -- and so are its letters as bytes.
  pub bytes_all : {bytes : List ℕ} → bytes ≡ kept (map narrowed (take h.count xs)) (blank 1024) → h.count ≤ length xs → h.count ≤ 1024
      → take h.count bytes ≡ map narrowed (letters cells)
  bytes_all {bytes} e l m =
      let is : take h.count xs ≡ letters cells = kept_all (λ c. c.0) old_letters s.letters_are l in
      let kept_are : bytes ≡ kept (map narrowed (letters cells)) (blank 1024) = rw is at e in
      let size : length (map narrowed (letters cells)) ≡ h.count = length-map (letters cells) narrowed ∙ letters_long in
      let all : h.count ≡ length (map narrowed (letters cells)) = omega arith in
      let room : length (blank 1024) ≡ 1024 = blank_long 1024 refl in
      rw (all, kept_are) (kept-take (map narrowed (letters cells)) (blank 1024) (omega arith))
