-- Cells of a line, read at a place of the text.
--     read_marked m                   a comma and a letter, with the mark m
--     read_item stepped               an item, with or without a step before its letter
--     said_cell, cell_place, Celled    what a cell that was read, or a break, says in the grammar's terms, and its place
--     mark_of t                       the mark of the step that stands first in t, if one does
--     said_step, step_place, Stepped   what a step after a comma that was read, or a break, says in the grammar's terms, and its place
-- Assumes nothing.
use Rattle.std.specs.Prelude.{ℕ, ◌+◌, ◌<◌, ◌≡◌, refl, Bool, true, false, cond, List, [], ◌∷◌, Option, Some, None, Result, Ok, Err, eqb, length, drop}
use Rattle.std.proofs.Common.{sym, ◌∙◌, ⊎_elim, arith, drop_of_length-le, drop-drop}
use Rattle.grammar.specs.Reading.{Read, after, broken, got, onward, read_cell, read_field, read_first, read_step, turned}
use Rattle.numerals.specs.Bytes.{after_there, le-or-lt, starts_inside, starts_with}
use Rattle.numerals.specs.Numbers.{Told}
use Rattle.numerals.specs.declared.numbers.Broken.{Broken}
use Rattle.cell_scans.specs.declared.cells.Cell.{Cell}
use Rattle.cell_scans.specs.declared.cells.Step.{Step}

-- A comma and a letter, with a mark that is known.
unfoldable pub read_marked : ℕ → List ℕ → Read (ℕ × ℕ)
read_marked m t = turned (λ x. (x, m)) (read_field t)

-- An item of a line.
abbrev pub read_item : Bool → List ℕ → Read (ℕ × ℕ)
read_item true = read_cell
read_item false = read_first

-- A cell that was read, or a break, in the grammar's terms.
abbrev pub said_cell : List ℕ → Result Cell Broken → Read (ℕ × ℕ)
said_cell text (Ok c) = got (c.letter, c.mark) (drop c.next text)
said_cell text (Err b) = broken (drop b.place text)

-- The place after it, or of the break.
abbrev pub cell_place : Result Cell Broken → ℕ
cell_place (Ok c) = c.next
cell_place (Err b) = b.place

-- It says a reading.
abbrev pub Celled : List ℕ → Read (ℕ × ℕ) → Result Cell Broken → Type 0
Celled text reading r = Told text reading (said_cell text r) (cell_place r)

-- A letter with its mark, from the field.
pub marked_told : {text : List ℕ} (t : List ℕ) (m : ℕ) {s : Read ℕ} {p : ℕ} → Told text (read_field t) s p → Told text (read_marked m t) (turned (λ x. (x, m)) s) p
unfolding read_marked
marked_told t m f = record { says = rw f.says; within = f.within }

-- The first cell is a letter with the mark 0.
pub first-marked : (t : List ℕ) → read_first t ≡ read_marked 0 t
unfolding read_marked
first-marked t = go (read_field t)
  where
    go : (f : Read ℕ) → onward {C = ℕ × ℕ} (λ x m. (x, m)) (λ x. got 0) f ≡ turned (λ x. (x, 0)) f
    go (got x u) = refl
    go (broken u) = refl

-- The mark of the step that stands first: by whether it is the letter r or d.
abbrev mark_by : Bool → Bool → Option ℕ
mark_by r d = cond r (Some 0) (cond d (Some 1) None)

abbrev pub mark_of : List ℕ → Option ℕ
mark_of t = mark_by (starts_with 114 t) (starts_with 100 t)

-- Where a step stands is in the text.
mark_inside : (text : List ℕ) (at : ℕ) {m : ℕ} → Some m ≡ mark_of (drop at text) → at < length text
mark_inside text at e =
    ⊎_elim (λ l. let none : drop at text ≡ [] = drop_of_length-le text l in let z : ⊥ = cc (rw none at e) in absurd z) (λ l. l) (le-or-lt (length text) at)

-- A step is read by its mark, and nothing else is a step.
abbrev step_told : Option ℕ → List ℕ → Read ℕ
step_told (Some m) t = got m (drop 1 t)
step_told None t = broken t

step_is : (t : List ℕ) → read_step t ≡ step_told (mark_of t) t
step_is [] = refl
step_is (b ∷ t) = go (eqb b 114) (eqb b 100)
  where
    go : (r d : Bool) → cond r (got 0 t) (cond d (got 1 t) (broken (b ∷ t))) ≡ step_told (mark_by r d) (b ∷ t)
    go true d = refl
    go false true = refl
    go false false = refl

-- A step that was read, or a break, in the grammar's terms.
abbrev pub said_step : List ℕ → Result Step Broken → Read ℕ
said_step text (Ok s) = got s.mark (drop s.next text)
said_step text (Err b) = broken (drop b.place text)

-- The place after it, or of the break.
abbrev pub step_place : Result Step Broken → ℕ
step_place (Ok s) = s.next
step_place (Err b) = b.place

-- It says a reading.
abbrev pub Stepped : List ℕ → Read ℕ → Result Step Broken → Type 0
Stepped text reading r = Told text reading (said_step text r) (step_place r)

-- A comma, and a step at the next place, or none.
module _ (text : List ℕ) (at : ℕ) (is : true ≡ starts_with 44 (drop at text)) where
  comma_there : {o : Option ℕ} → o ≡ mark_of (drop (at + 1) text) → after 44 read_step (drop at text) ≡ step_told o (drop (at + 1) text)
  comma_there k = after_there text at 44 read_step (sym is) ∙ rw k (step_is (drop (at + 1) text))

  two_on : drop 1 (drop (at + 1) text) ≡ drop (at + 2) text
  two_on = let two : at + 1 + 1 ≡ at + 2 = omega arith in drop-drop 1 (at + 1) text ∙ rw two

  pub step_read : {m : ℕ} → Some m ≡ mark_of (drop (at + 1) text) → Told text (after 44 read_step (drop at text)) (got m (drop (at + 2) text)) (at + 2)
  step_read k = record { says = rw (comma_there k, two_on); within = omega (arith, mark_inside text (at + 1) k) }

  pub step_broken_lem : None ≡ mark_of (drop (at + 1) text) → Told text (after 44 read_step (drop at text)) (broken (drop (at + 1) text)) (at + 1)
  step_broken_lem k = record { says = rw (comma_there k); within = omega (arith, starts_inside text at 44 (sym is)) }

-- A letter after a step, with its mark.
module _ (text : List ℕ) (at : ℕ) where
  pub cell_broken : {p : ℕ} → Told text (after 44 read_step (drop at text)) (broken (drop p text)) p → Told text (read_cell (drop at text)) (broken (drop p text)) p
  cell_broken f = record { says = rw f.says; within = f.within }

  pub cell-marked : {m next : ℕ} → Told text (after 44 read_step (drop at text)) (got m (drop next text)) next
      → read_cell (drop at text) ≡ read_marked m (drop next text)
  unfolding read_marked
  cell-marked f = rw f.says

  pub cell_read : {m next : ℕ} {s : Read (ℕ × ℕ)} {p : ℕ} → Told text (after 44 read_step (drop at text)) (got m (drop next text)) next
      → Told text (read_marked m (drop next text)) s p → Told text (read_cell (drop at text)) s p
  cell_read f h = record { says = cell-marked f ∙ h.says; within = h.within }

-- An item with a step, and one without.
module _ {text : List ℕ} (t : List ℕ) {stepped : Bool} {s : Read (ℕ × ℕ)} {p : ℕ} where
  pub item_first : stepped ≡ false → Told text (read_marked 0 t) s p → Told text (read_item stepped t) s p
  item_first e h = rw (e, first-marked t) h
