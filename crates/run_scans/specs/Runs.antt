-- One item of a C line, read at a place of the text.
--     read_run_item stepped                an item, with or without a step before its letter
--     read_marked_run m                a letter and its count, with the mark m
--     said_item, item_place, ItemTold  what an item that was read, or a break, says in the grammar's terms, and its place
--     run_takes                      an item takes a byte
-- Assumes nothing.
use Rattle.std.specs.Prelude.{ℕ, refl, Bool, true, false, List, Result, Ok, Err, drop}
use Rattle.grammar.specs.Lines.{Run}
use Rattle.grammar.specs.Reading.{Read, after, broken, got, read_field, read_run_by, read_step, turned}
use Rattle.grammar.proofs.Theory.LinesExact.{first_run_exact, later_run_exact}
use Rattle.grammar.proofs.Theory.UntilFeed.{Eats, eats}
use Rattle.numerals.specs.Numbers.{Told}
use Rattle.numerals.specs.declared.numbers.Broken.{Broken}
use Rattle.run_lines.specs.Runs.{run_with}
use Rattle.cell_scans.specs.Cells.{cell_broken, cell-marked, first-marked, read_item, read_marked}
use Rattle.run_scans.specs.declared.runs.Item.{Item}

-- An item of a C line.
unfoldable pub read_run_item : Bool → List ℕ → Read Run
read_run_item stepped = read_run_by (read_item stepped)

-- A letter and its count, with a mark that is known.
unfoldable pub read_marked_run : ℕ → List ℕ → Read Run
read_marked_run m = read_run_by (read_marked m)

-- An item that was read, or a break, in the grammar's terms.
abbrev pub said_item : List ℕ → Result Item Broken → Read Run
said_item text (Ok i) = got (run_with i.letter i.times i.mark) (drop i.next text)
said_item text (Err b) = broken (drop b.place text)

-- The place after it, or of the break.
abbrev pub item_place : Result Item Broken → ℕ
item_place (Ok i) = i.next
item_place (Err b) = b.place

-- It says a reading.
abbrev pub ItemTold : List ℕ → Read Run → Result Item Broken → Type 0
ItemTold text reading r = Told text reading (said_item text r) (item_place r)

-- ---- an item by its cell and its count

module _ (text t : List ℕ) (m : ℕ) where
  -- The cell breaks the grammar,
  pub run-cell : {p : ℕ} → Told text (read_marked m t) (broken (drop p text)) p → Told text (read_marked_run m t) (broken (drop p text)) p
  unfolding read_marked_run
  run-cell f = record { says = rw f.says; within = f.within }

  -- or its count does, or it is read.
  pub run-count : {x v next p : ℕ} {s : Read ℕ} → Told text (read_marked m t) (got (x, v) (drop next text)) next → Told text (read_field (drop next text)) s p
      → Told text (read_marked_run m t) (turned (λ k. run_with x k v) s) p
  unfolding read_marked_run
  run-count c f = record { says = rw (c.says, f.says); within = f.within }

-- ---- the step before it

module _ (text : List ℕ) (at : ℕ) where
  -- No step stands there,
  pub run-step_broken : {p : ℕ} → Told text (after 44 read_step (drop at text)) (broken (drop p text)) p → Told text (read_run_item true (drop at text)) (broken (drop p text)) p
  unfolding read_run_item
  run-step_broken f = let c = cell_broken text at f in record { says = rw c.says; within = c.within }

  -- or letter and count are read on,
  pub run_step_read : {m next p : ℕ} {s : Read Run} → Told text (after 44 read_step (drop at text)) (got m (drop next text)) next
      → Told text (read_marked_run m (drop next text)) s p → Told text (read_run_item true (drop at text)) s p
  unfolding read_run_item read_marked_run
  run_step_read f h = record { says = rw (cell-marked text at f) h.says; within = h.within }

-- or no step is asked for.
pub run-first : {text : List ℕ} (t : List ℕ) {s : Read Run} {p : ℕ} → Told text (read_marked_run 0 t) s p → Told text (read_run_item false t) s p
unfolding read_run_item read_marked_run
run-first t h = rw (first-marked t) h

-- ---- an item takes a byte

-- It is read out of some byte.
pub run_takes : (stepped : Bool) → Eats (read_run_item stepped)
unfolding read_run_item
run_takes true = eats later_run_exact (λ r t. refl)
run_takes false = eats first_run_exact (λ r t. refl)
