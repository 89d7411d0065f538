-- The parts of a pair in a line: how many cells it has, the cells, and after them the recording entries, whose number is that of the cells.
--     parts xs ms rs                         their bytes
--     Alike xs ms rs                         at most 1,024 letters, as many marks, as many entries
--     Placed xs ms rs have start             as many marks as letters, and room for all parts from a place on
--     parts_start, parts_end                 the loop that counts the bytes of the entries after those of the cells
--     cells_room, entries_begun, parts_written     the loop that writes them
--     parting                                the ruleset of the functions on parts
-- Assumes nothing.
use Rattle.std.specs.Prelude.{ℕ, ◌+◌, ◌≤◌, ◌≡◌, List, ◌++◌, length}
use Rattle.std.proofs.Common.{append_assoc, arith, length-append, rules}
use Rattle.grammar.specs.Lines.{cell, cells, field, first_cell, items}
use Rattle.line_sizes.specs.Sizes.{Counted}
use Rattle.writers.specs.Items.{Totalling, Writing, field_at, field_room, fields_end, fields_start, fields_turn, list_kept, listed, total_end, total_fits, total_start, total_turn}
use Rattle.writers.specs.Laying.{Laid, laid_then}

-- How many cells, the cells, the entries.
unfoldable pub parts : List ℕ → List ℕ → List ℕ → List ℕ
parts xs ms rs = listed (length xs) (items first_cell cell (cells xs ms) ++ items field field rs)

-- The three lists of a pair are of one length, which is not above the limit.
pub record Alike (xs ms rs : List ℕ) : Type 0 where
  pub short : length xs ≤ 1024
  pub marks : length ms ≡ length xs
  pub entries : length rs ≡ length xs

-- From a place on there is room for the parts.
pub record Placed (xs ms rs : List ℕ) (have start : ℕ) : Type 0 where
  pub marks : length ms ≡ length xs
  pub room : start + length (parts xs ms rs) ≤ have

-- The cells with their count, then the entries.
parts_are : (xs ms rs : List ℕ) → listed (length xs) (items first_cell cell (cells xs ms)) ++ items field field rs ≡ parts xs ms rs
unfolding listed parts
parts_are xs ms rs = append_assoc (field (length xs)) (items first_cell cell (cells xs ms)) (items field field rs)

-- Their bytes.
length_parts : (xs ms rs : List ℕ)
    → length (parts xs ms rs) ≡ length (listed (length xs) (items first_cell cell (cells xs ms))) + length (items field field rs)
length_parts xs ms rs =
    rw (← (parts_are xs ms rs)) (length-append (listed (length xs) (items first_cell cell (cells xs ms))) (items field field rs))

-- ---- counted

-- From the bytes of the cells on.
module _ {base : ℕ} (xs ms rs : List ℕ) (n : Counted 23573 (listed (length xs) (items first_cell cell (cells xs ms))) base) (h : Alike xs ms rs) where
  pub parts_start : Totalling base rs base 0
  parts_start = total_start base rs n.few (omega (arith, h.short, h.entries))

  pub parts_end : {size i : ℕ} → Totalling base rs size i → length rs ≤ i → Counted 45077 (parts xs ms rs) size
  parts_end {size} {i} t l = record {
    is = omega (arith, total_end t l, n.is, length_parts xs ms rs);
    few = omega (arith, t.few, t.short, t.reached, n.few);
  }

-- What the count of the cells asks.
pub alike_short : (xs ms rs : List ℕ) → Alike xs ms rs → length xs ≤ 1024
alike_short xs ms rs h = h.short

pub alike_marks : (xs ms rs : List ℕ) → Alike xs ms rs → length ms ≡ length xs
alike_marks xs ms rs h = h.marks

-- ---- written

-- There is room for the cells,
module _ (xs ms rs old : List ℕ) (start : ℕ) (h : Placed xs ms rs (length old) start) where
  pub placed_marks : length ms ≡ length xs
  placed_marks = h.marks

  pub cells_room : start + length (listed (length xs) (items first_cell cell (cells xs ms))) ≤ length old
  cells_room = omega (arith, h.room, length_parts xs ms rs)

  -- after them for the entries,
  module _ {mid : List ℕ} {at : ℕ} (k : Laid (listed (length xs) (items first_cell cell (cells xs ms))) old start mid at) where
    pub entries_begun : Writing (field_at rs) (length rs) mid at mid 0 at
    entries_begun = fields_start rs mid at (omega (arith, h.room, length_parts xs ms rs, k.ends, k.long))

-- and with the last of them all parts are written.
pub parts_written : {mid now : List ℕ} {first i at : ℕ} (xs ms rs old : List ℕ) (start : ℕ)
    → Laid (listed (length xs) (items first_cell cell (cells xs ms))) old start mid first → Writing (field_at rs) (length rs) mid first now i at → length rs ≤ i
    → Laid (parts xs ms rs) old start now at
parts_written xs ms rs old start k h l = rw (← (parts_are xs ms rs)) (laid_then k (fields_end rs h l))

pub ruleset parting = (
  alike_short,
  alike_marks,
  parts_start,
  total_fits,
  total_turn,
  parts_end,
  placed_marks,
  cells_room,
  entries_begun,
  field_room,
  fields_turn,
  parts_written,
  list_kept,
  rules,
)
