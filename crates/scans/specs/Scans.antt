-- Whole lines, read at places of the text. The readings are those of the grammar with its parts one after another.
--     read_body, read_whole              a line from its items on, and a whole line as rank and cells
--     whole_cells                       the cells of a line that are read before the grammar breaks
--     said_cells, line_count, Scanned    what a whole line that was read, or a break, says in the grammar's terms, and what memory then holds
-- The beginning and the end of a line are in Heads; which line of the grammar this is, in Kinds. Assumes nothing.
use Rattle.std.specs.Prelude.{ℕ, ◌≤◌, ◌≡◌, Bool, List, [], Result, Ok, Err, length, drop}
use Rattle.std.proofs.Math.Path.{refl}
use Rattle.std.proofs.Math.Bool.{false}
use Rattle.grammar.specs.Reading.{Read, after, broken, ended, got, letters}
use Rattle.numerals.specs.Numbers.{Told}
use Rattle.scans.specs.Kept.{kept}
use Rattle.scans.specs.Items.{Gathered, begun, marks_none, read_items, step_marks}
use Rattle.scans.specs.Heads.{and_then, line_place, read_end, read_head}
use Rattle.scans.specs.declared.line.Head.{Head}
use Rattle.numerals.specs.declared.numbers.Broken.{Broken}

-- A line from its items on.
unfoldable pub read_body : Bool → ℕ → ℕ → List ℕ → Read (ℕ × List (ℕ × ℕ))
read_body steps n k t = and_then (read_items steps k t) (λ cells. read_end (n, cells))

-- A whole line: rank and cells.
unfoldable pub read_whole : ℕ → Bool → Bool → List ℕ → Read (ℕ × List (ℕ × ℕ))
read_whole kind ranked steps t = and_then (read_head kind ranked t) (λ h. read_body steps h.0 h.1)

-- A whole line that was read, or a break, in the grammar's terms.
abbrev pub said_cells : List ℕ → List (ℕ × ℕ) → Result Head Broken → Read (ℕ × List (ℕ × ℕ))
said_cells text cells (Ok h) = got (h.rank, cells) (drop h.next text)
said_cells text cells (Err b) = broken (drop b.place text)

-- How many cells were read: all, or as many as there were before the break.
abbrev pub line_count : List (ℕ × ℕ) → Result Head Broken → ℕ
line_count cells (Ok h) = h.count
line_count cells (Err b) = length cells

-- The cells that are read before the grammar breaks, after the beginning of a line, and of a whole line.
abbrev pub head_cells : Bool → Read (ℕ × ℕ) → List (ℕ × ℕ)
head_cells steps (got h t) = begun false steps h.1 t
head_cells steps (broken t) = []

unfoldable pub whole_cells : ℕ → Bool → Bool → List ℕ → List (ℕ × ℕ)
whole_cells kind ranked steps t = head_cells steps (read_head kind ranked t)

-- The line is read, or the grammar breaks; the letters of the cells that were read, and on a line with steps their marks, are kept as far as there is room.
pub record Scanned (text : List ℕ) (steps : Bool) (reading : Read (ℕ × List (ℕ × ℕ))) (cells : List (ℕ × ℕ)) (old_letters old_marks xs ms : List ℕ) (r : Result Head Broken) : Type 0 where
  pub told : Told text reading (said_cells text cells r) (line_place r)
  pub long : length cells ≡ line_count cells r
  pub letters_are : xs ≡ kept (letters cells) old_letters
  pub marks_are : ms ≡ kept (step_marks steps cells) old_marks

-- A break.
scan_broken : (text : List ℕ) {steps : Bool} (reading : Read (ℕ × List (ℕ × ℕ))) (cells : List (ℕ × ℕ)) {old_letters old_marks xs ms : List ℕ} (b : Broken)
    → xs ≡ kept (letters cells) old_letters → ms ≡ kept (step_marks steps cells) old_marks → reading ≡ broken (drop b.place text) → b.place ≤ length text
    → Scanned text steps reading cells old_letters old_marks xs ms (Err b)
scan_broken text reading cells b x m e l = record { told = record { says = e; within = l }; long = refl; letters_are = x; marks_are = m }

module _ {text t : List ℕ} {steps : Bool} (n : ℕ) {k : ℕ} {old_letters old_marks xs ms : List ℕ} where
  -- The items break the grammar,
  pub body_broken : {b : Broken} → Gathered text t steps k old_letters old_marks xs ms (Err b)
      → Scanned text steps (read_body steps n k t) (begun false steps k t) old_letters old_marks xs ms (Err b)
  unfolding read_body
  body_broken {b} h = scan_broken text _ _ b h.letters_are h.marks_are (rw h.told.says) h.told.within

  module _ {feed : ℕ} (h : Gathered text t steps k old_letters old_marks xs ms (Ok feed)) where
    -- or no end follows them,
    pub body_more : {b : Broken} → Told text (after 10 ended (drop feed text)) (broken (drop b.place text)) b.place
        → Scanned text steps (read_body steps n k t) (begun false steps k t) old_letters old_marks xs ms (Err b)
    unfolding read_body read_end
    body_more {b} l = scan_broken text _ _ b h.letters_are h.marks_are (rw (h.told.says, l.says)) l.within

    -- or the end.
    pub body_end : {next : ℕ} → Told text (after 10 ended (drop feed text)) (got tt (drop next text)) next
        → Scanned text steps (read_body steps n k t) (begun false steps k t) old_letters old_marks xs ms (Ok (record { rank = n; count = k; next = next }))
    unfolding read_body read_end
    body_end l = record { told = record { says = rw (h.told.says, l.says); within = l.within }; long = h.long; letters_are = h.letters_are; marks_are = h.marks_are }

-- A line from its first byte on.
module _ (text : List ℕ) (kind : ℕ) (ranked steps : Bool) where
  pub whole_broken : {b : Broken} (xs ms : List ℕ) → Told text (read_head kind ranked text) (broken (drop b.place text)) b.place
      → Scanned text steps (read_whole kind ranked steps text) (whole_cells kind ranked steps text) xs ms xs ms (Err b)
  unfolding read_whole whole_cells
  whole_broken {b} xs ms f = scan_broken text _ _ b (rw f.says) (rw f.says (marks_none steps ms)) (rw f.says) f.within

  pub whole_body : {n k next : ℕ} {old_letters old_marks xs ms : List ℕ} {r : Result Head Broken}
      → Told text (read_head kind ranked text) (got (n, k) (drop next text)) next
      → Scanned text steps (read_body steps n k (drop next text)) (begun false steps k (drop next text)) old_letters old_marks xs ms r
      → Scanned text steps (read_whole kind ranked steps text) (whole_cells kind ranked steps text) old_letters old_marks xs ms r
  unfolding read_whole whole_cells
  whole_body f s = rw f.says s
