-- All items of a line, read one after another as cells and kept where they fit.
--     read_items, begun                              all items of a line, and the cells that are read before the grammar breaks
--     step_marks, kept_mark                           the marks that are kept of cells: none on a line without steps
--     said_items, items_place, items_count, Gathered   what all items that were read, or a break, say in the grammar's terms, and what memory then holds
--     turned_same, turned_more                      a value turned into itself; one item more
--     Gathering                                     the loop over items: those read so far, and what is left, give the whole
-- One cell is in Cells. Assumes nothing.
use Rattle.std.specs.Prelude.{ℕ, zero, suc, ◌+◌, ◌-◌, ◌≤◌, ◌<◌, ◌≡◌, refl, Bool, true, false, List, [], ◌∷◌, ◌++◌, Result, Ok, Err, map, length, drop, set}
use Rattle.std.proofs.Common.{ap, sym, ◌∙◌, append-nil, arith, length-append}
use Rattle.std.proofs.lemmas.List.{map-append, length-map}
use Rattle.std.proofs.Math.Seq.{append_snoc}
use Rattle.grammar.specs.Reading.{Read, broken, got, letters, many, marks, onward, read_first, turned}
use Rattle.numerals.specs.Numbers.{Told}
use Rattle.scans.specs.Kept.{kept, kept_next, length-kept}
use Rattle.numerals.specs.declared.numbers.Broken.{Broken}
use Rattle.cell_scans.specs.Cells.{read_item}

-- All items that were read, or a break, in the grammar's terms.
abbrev pub said_items : List ℕ → List (ℕ × ℕ) → Result ℕ Broken → Read (List (ℕ × ℕ))
said_items text cells (Ok next) = got cells (drop next text)
said_items text cells (Err b) = broken (drop b.place text)

-- The place after them, or of the break.
abbrev pub items_place : Result ℕ Broken → ℕ
items_place (Ok next) = next
items_place (Err b) = b.place

-- How many cells were read: all, or as many as there were before the break.
abbrev pub items_count : ℕ → List (ℕ × ℕ) → Result ℕ Broken → ℕ
items_count count cells (Ok next) = count
items_count count cells (Err b) = length cells

-- All items of a line, with or without steps.
abbrev pub read_items : Bool → ℕ → List ℕ → Read (List (ℕ × ℕ))
read_items steps = many read_first (read_item steps)

-- A cell that was read and more after it, or none.
abbrev pub and_more : {A : Type 0} → Read A → (List ℕ → List A) → List A
and_more (got c t) more = c ∷ more t
and_more (broken t) more = []

-- The cells that are read one after another before the grammar breaks: all of so many where it does not.
abbrev pub begun : Bool → Bool → ℕ → List ℕ → List (ℕ × ℕ)
begun stepped steps zero t = []
begun stepped steps (suc k) t = and_more (read_item stepped t) (begun steps steps k)

-- The marks that are kept of cells, and of one cell more: a line without steps tells none.
abbrev pub step_marks : Bool → List (ℕ × ℕ) → List ℕ
step_marks true cells = marks cells
step_marks false cells = []

abbrev pub kept_mark : Bool → List ℕ → ℕ → ℕ → List ℕ
kept_mark true ms i m = set ms i m
kept_mark false ms i m = ms

-- All items, which begin where t is left of the text, are read, or the grammar breaks; the letters of the cells that were read, and on a line with steps their
-- marks, are kept as far as there is room.
pub record Gathered (text t : List ℕ) (steps : Bool) (count : ℕ) (old_letters old_marks xs ms : List ℕ) (r : Result ℕ Broken) : Type 0 where
  pub told : Told text (read_items steps count t) (said_items text (begun false steps count t) r) (items_place r)
  pub long : length (begun false steps count t) ≡ items_count count (begun false steps count t) r
  pub letters_are : xs ≡ kept (letters (begun false steps count t)) old_letters
  pub marks_are : ms ≡ kept (step_marks steps (begun false steps count t)) old_marks

-- The items before i are read, and the next stands at place at.
pub record Gathering (text t : List ℕ) (steps : Bool) (count : ℕ) (old_letters old_marks xs ms : List ℕ) (stepped : Bool) (i at : ℕ) : Type 0 where
  pub sofar : List (ℕ × ℕ)
  pub left_over : read_items steps count t ≡ turned (λ more. sofar ++ more) (many (read_item stepped) (read_item steps) (count - i) (drop at text))
  pub cells_are : begun false steps count t ≡ sofar ++ begun stepped steps (count - i) (drop at text)
  pub long : length sofar ≡ i
  pub reached : i ≤ count
  pub within : at ≤ length text
  pub letters_size : length xs ≡ length old_letters
  pub marks_size : length ms ≡ length old_marks
  pub letters_are : xs ≡ kept (letters sofar) old_letters
  pub marks_are : ms ≡ kept (step_marks steps sofar) old_marks

-- What was read, with its value as it is.
pub turned_same : {A : Type 0} (r : Read A) → r ≡ turned (λ a. a) r
turned_same (got a t) = refl
turned_same (broken t) = refl

-- One item more, by the order in which they are read.
pub turned_more : {A : Type 0} (cs : List A) (c : A) (r : Read (List A))
    → turned (λ more. cs ++ more) (turned (λ more. c ∷ more) r) ≡ turned (λ more. (cs ++ (c ∷ [])) ++ more) r
turned_more cs c (got l t) = rw (append_snoc cs c l)
turned_more cs c (broken t) = refl

-- A column of cells, kept so far, and one more.
kept_more : (f : ℕ × ℕ → ℕ) (cs : List (ℕ × ℕ)) (c : ℕ × ℕ) (xs old : List ℕ) (i : ℕ) → length cs ≡ i → xs ≡ kept (map f cs) old
    → set xs i (f c) ≡ kept (map f (cs ++ (c ∷ []))) old
kept_more f cs c xs old i e h =
    let size : length (map f cs) ≡ i = length-map cs f ∙ e in
    rw (map-append f cs (c ∷ []), ← size, h) (kept_next (map f cs) old (f c))

-- The same of marks, and none before the first cell.
marks_more : (steps : Bool) (cs : List (ℕ × ℕ)) (c : ℕ × ℕ) (ms old : List ℕ) (i : ℕ) → length cs ≡ i → ms ≡ kept (step_marks steps cs) old
    → kept_mark steps ms i c.1 ≡ kept (step_marks steps (cs ++ (c ∷ []))) old
marks_more true cs c ms old i e h = kept_more (λ c. c.1) cs c ms old i e h
marks_more false cs c ms old i e h = h

pub marks_none : (steps : Bool) (old : List ℕ) → old ≡ kept (step_marks steps []) old
marks_none true old = refl
marks_none false old = refl

module _ {text t : List ℕ} {steps : Bool} {count : ℕ} {old_letters old_marks xs ms : List ℕ} {stepped : Bool} {i at : ℕ}
    (g : Gathering text t steps count old_letters old_marks xs ms stepped i at) where
  -- What is left, from its first item on.
  item_left : i < count
      → (read_items steps count t ≡ turned (λ more. g.sofar ++ more) (onward ◌∷◌ (λ a. many (read_item steps) (read_item steps) (count - (i + 1))) (read_item stepped (drop at text))))
      × (begun false steps count t ≡ g.sofar ++ and_more (read_item stepped (drop at text)) (begun steps steps (count - (i + 1))))
  item_left l = let more : count - i ≡ suc (count - (i + 1)) = omega arith in (rw more at g.left_over, rw more at g.cells_are)

  -- One item more is read and kept,
  pub gather_turn : {xs' ms' : List ℕ} {x m next : ℕ} → i < count → Told text (read_item stepped (drop at text)) (got (x, m) (drop next text)) next
      → xs' ≡ set xs i x → ms' ≡ kept_mark steps ms i m → Gathering text t steps count old_letters old_marks xs' ms' steps (i + 1) next
  gather_turn {xs'} {ms'} {x} {m} {next} l h k j =
      let letters-kept = k ∙ kept_more (λ c. c.0) g.sofar (x, m) xs old_letters i g.long g.letters_are in
      let marks-kept = j ∙ marks_more steps g.sofar (x, m) ms old_marks i g.long g.marks_are in
      record {
        sofar = g.sofar ++ ((x, m) ∷ []);
        left_over = (item_left l).0 ∙ rw h.says (turned_more g.sofar (x, m) (many (read_item steps) (read_item steps) (count - (i + 1)) (drop next text)));
        cells_are = (item_left l).1 ∙ rw h.says (sym (append_snoc g.sofar (x, m) (begun steps steps (count - (i + 1)) (drop next text))));
        long = length-append g.sofar ((x, m) ∷ []) ∙ omega (arith, g.long);
        reached = omega arith;
        within = h.within;
        letters_size = ap length letters-kept ∙ simp length-kept;
        marks_size = ap length marks-kept ∙ simp length-kept;
        letters_are = letters-kept;
        marks_are = marks-kept;
      }

  -- All cells that were read.
  gathered : begun false steps count t ≡ g.sofar ++ []
      → (xs ≡ kept (letters (begun false steps count t)) old_letters) × (ms ≡ kept (step_marks steps (begun false steps count t)) old_marks)
  gathered e = let is : begun false steps count t ≡ g.sofar = e ∙ append-nil g.sofar in (rw is g.letters_are, rw is g.marks_are)

  -- or breaks the grammar.
  pub gather_broken : {b : Broken} → i < count → Told text (read_item stepped (drop at text)) (broken (drop b.place text)) b.place
      → Gathered text t steps count old_letters old_marks xs ms (Err b)
  gather_broken l h =
      let kept_are = gathered ((item_left l).1 ∙ rw h.says) in
      record {
        told = record { says = (item_left l).0 ∙ rw h.says; within = h.within };
        long = refl;
        letters_are = kept_are.0;
        marks_are = kept_are.1;
      }
