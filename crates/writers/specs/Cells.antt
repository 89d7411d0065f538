-- The cells of a tableau as items of a line: the letter of the first, step and letter of every other.
--     cell_at xs ms i                                the bytes of the cell at place i
--     cell_room, ribbon-begun, ribbon-written       the loop that writes them, after how many there are
--     cells_size                                    their bytes: those of the letters, and two for each step between neighbours
--     ribbon-none, ribbon-some                      so counted from the bytes of the letters
--     later_is                                      the bytes of a cell after the first
--     step_at ms i                                   the bytes of the step into the cell at place i
--     step-none, comma_room, step_room, step_laid, step_right, step_down                   the step
--     cell_step_room, letter_room, cell_laid        the cell: its step, and its letter
--     laid_kept                                     what is written changes no length
--     stepping                                      the ruleset of the functions on cells
-- Assumes nothing.
use Prim.Native.Nat.{ℕ, zero, suc, ◌+◌, ◌*◌, ◌-◌, ◌≤◌, ◌<◌}
use Rattle.std.specs.Prelude.{◌≡◌, List, [], ◌∷◌, ◌++◌, length, get_or, set}
use Rattle.std.proofs.Math.Path.{refl}
use Rattle.std.proofs.Common.{ap, ◌∙◌, add-one, arith, length-append, length-set, rules}
use Rattle.grammar.specs.Lines.{cell, cells, field, first_cell, items, step}
use Rattle.grammar.specs.Numbers.{decimal}
use Rattle.line_sizes.specs.Sizes.{Counted}
use Rattle.writers.specs.Items.{Writing, count_room, item_room, joined, joined-first, length-listed, list_kept, listed, listed_begun, listed_written, write_turn}
use Rattle.writers.specs.Laying.{Laid, laid_none, laid_then}

-- The bytes of the cell at a place.
unfoldable pub cell_at : List ℕ → List ℕ → ℕ → List ℕ
cell_at xs ms zero = field (get_or xs 0 0)
cell_at xs ms (suc i) = cell (get_or xs (suc i) 0, get_or ms (suc i) 0)

-- The cells after the first.
joined_later : (xs ms : List ℕ) → length ms ≡ length xs → joined (λ i. cell (get_or xs i 0, get_or ms i 0)) (length xs) ≡ items cell cell (cells xs ms)
unfolding joined
joined_later [] ms e = refl
joined_later (x ∷ xs) [] e = let z : ⊥ = omega arith in absurd z
joined_later (x ∷ xs) (m ∷ ms) e =
    joined-first (λ i. cell (get_or (x ∷ xs) i 0, get_or (m ∷ ms) i 0)) (length xs) ∙ rw (joined_later xs ms (omega arith))

-- All cells.
joined-cells : (xs ms : List ℕ) → length ms ≡ length xs → joined (cell_at xs ms) (length xs) ≡ items first_cell cell (cells xs ms)
unfolding joined cell_at
joined-cells [] ms e = refl
joined-cells (x ∷ xs) [] e = let z : ⊥ = omega arith in absurd z
joined-cells (x ∷ xs) (m ∷ ms) e = joined-first (cell_at (x ∷ xs) (m ∷ ms)) (length xs) ∙ rw (joined_later xs ms (omega arith))

-- ---- the loop that writes them

-- There is room for the next cell.
pub cell_room : (xs ms : List ℕ) {old : List ℕ} {start : ℕ} {now : List ℕ} {i at : ℕ} → Writing (cell_at xs ms) (length xs) old start now i at → i < length xs
    → at + length (cell_at xs ms i) ≤ length now
cell_room xs ms h l = item_room h l

-- From how many there are to the last.
module _ (xs ms old : List ℕ) (start : ℕ) (e : length ms ≡ length xs) where
  pub ribbon-begun : {mid : List ℕ} {at : ℕ} → start + length (listed (length xs) (items first_cell cell (cells xs ms))) ≤ length old
      → Laid (field (length xs)) old start mid at → Writing (cell_at xs ms) (length xs) mid at mid 0 at
  ribbon-begun h k = listed_begun (cell_at xs ms) (length xs) old start (joined-cells xs ms e) h k

  pub ribbon-written : {mid now : List ℕ} {first i at : ℕ} → Laid (field (length xs)) old start mid first
      → Writing (cell_at xs ms) (length xs) mid first now i at → length xs ≤ i → Laid (listed (length xs) (items first_cell cell (cells xs ms))) old start now at
  ribbon-written k h l = listed_written (cell_at xs ms) (length xs) old start (joined-cells xs ms e) k h l

-- ---- their size

-- The cells after the first: a step each.
steps_size : (xs ms : List ℕ) → length ms ≡ length xs → length (items cell cell (cells xs ms)) ≡ length (items field field xs) + length xs * 2
steps_size [] ms e = refl
steps_size (x ∷ xs) [] e = let z : ⊥ = omega arith in absurd z
steps_size (x ∷ xs) (m ∷ ms) e =
    omega (arith, steps_size xs ms (omega arith), length-append (decimal x) (items cell cell (cells xs ms)), length-append (decimal x) (items field field xs))

-- All cells: a step between neighbours.
pub cells_size : (xs ms : List ℕ) → length ms ≡ length xs → length (items first_cell cell (cells xs ms)) ≡ length (items field field xs) + (length xs - 1) * 2
cells_size [] ms e = refl
cells_size (x ∷ xs) [] e = let z : ⊥ = omega arith in absurd z
cells_size (x ∷ xs) (m ∷ ms) e =
    omega (arith, steps_size xs ms (omega arith), length-append (decimal x) (items cell cell (cells xs ms)), length-append (decimal x) (items field field xs))

-- So counted from the bytes of the letters, of which there are some or none.
module _ {size : ℕ} (xs ms : List ℕ) (n : Counted 21525 (listed (length xs) (items field field xs)) size) (e : length ms ≡ length xs) where
  more_bytes : length (listed (length xs) (items first_cell cell (cells xs ms))) ≡ size + (length xs - 1) * 2
  more_bytes =
      omega
      (arith, n.is, cells_size xs ms e, length-listed (length xs) (items field field xs), length-listed (length xs) (items first_cell cell (cells xs ms)))

  pub ribbon-none : length xs ≡ 0 → Counted 23573 (listed (length xs) (items first_cell cell (cells xs ms))) size
  ribbon-none z = record { is = omega (arith, more_bytes); few = omega (arith, n.few) }

  pub ribbon-some : length xs ≤ 1024 → Counted 23573 (listed (length xs) (items first_cell cell (cells xs ms))) (size + (length xs - 1) * 2)
  ribbon-some s = record { is = omega (arith, more_bytes); few = omega (arith, n.few) }

-- ---- one cell

-- After the first each is its step and its letter.
pub later_is : (xs ms : List ℕ) (i : ℕ) → (i ≡ 0 → ⊥) → cell_at xs ms i ≡ 44 ∷ step (get_or ms i 0) ∷ field (get_or xs i 0)
unfolding cell_at
later_is xs ms zero z = absurd (z refl)
later_is xs ms (suc i) z = refl

-- The bytes of the step into the cell at a place: none before the first.
unfoldable pub step_at : List ℕ → ℕ → List ℕ
step_at ms zero = []
step_at ms (suc i) = 44 ∷ step (get_or ms (suc i) 0) ∷ []

-- A cell is its step, and its letter.
cell_is : (xs ms : List ℕ) (i : ℕ) → cell_at xs ms i ≡ step_at ms i ++ field (get_or xs i 0)
unfolding cell_at step_at
cell_is xs ms zero = refl
cell_is xs ms (suc i) = refl

pub length-cell : (xs ms : List ℕ) (i : ℕ) → length (cell_at xs ms i) ≡ length (step_at ms i) + length (field (get_or xs i 0))
length-cell xs ms i = ap length (cell_is xs ms i) ∙ length-append (step_at ms i) (field (get_or xs i 0))

-- No step leads into the first,
pub step-none : (ms old : List ℕ) (i at : ℕ) → i ≡ 0 → at + length (step_at ms i) ≤ length old → Laid (step_at ms i) old at old at
unfolding step_at
step-none ms old i at z h = rw z (laid_none old at (omega (arith, h)))

-- and the two bytes of a step into each other.
module _ (ms old : List ℕ) (i at : ℕ) (z : i ≡ 0 → ⊥) (h : at + length (step_at ms i) ≤ length old) where
  two_bytes : (j : ℕ) → (j ≡ 0 → ⊥) → step_at ms j ≡ 44 ∷ step (get_or ms j 0) ∷ []
  unfolding step_at
  two_bytes zero y = absurd (y refl)
  two_bytes (suc j) y = refl

  step_size : at + 2 ≤ length old
  step_size = omega (arith, h, ap length (two_bytes i z))

  pub comma_room : at < length old
  comma_room = omega (arith, step_size)

  pub step_room : at + 1 < length (set old at 44)
  step_room = omega (arith, step_size, length-set old at 44)

  pub step_laid : {d : ℕ} → d ≡ step (get_or ms i 0) → Laid (step_at ms i) old at (set (set old at 44) (at + 1) d) (at + 2)
  step_laid {d} s =
      let two : Laid (44 ∷ d ∷ []) old at (set (set old at 44) (at + 1) d) (at + 2) = record {
        is = rw (add-one at);
        ends = omega arith;
        room = omega (arith, step_size);
        long = length-set (set old at 44) (at + 1) d ∙ length-set old at 44;
      } in
      rw (two_bytes i z, ← s) two

-- The letter after it.
module _ (xs ms old : List ℕ) (i at : ℕ) (h : at + length (cell_at xs ms i) ≤ length old) where
  pub cell_step_room : at + length (step_at ms i) ≤ length old
  cell_step_room = omega (arith, h, length-cell xs ms i)

  module _ {mid : List ℕ} {from x : ℕ} (l : Laid (step_at ms i) old at mid from) (e : x ≡ get_or xs i 0) where
    pub letter_room : from + length (field x) ≤ length mid
    letter_room = rw e (omega (arith, h, length-cell xs ms i, l.ends, l.long))

    pub cell_laid : {now : List ℕ} {end : ℕ} → Laid (field x) mid from now end → Laid (cell_at xs ms i) old at now end
    cell_laid g = rw (cell_is xs ms i, ← e) (laid_then l g)

-- What is written changes no length.
pub laid_kept : {us vs mid now : List ℕ} {at from end : ℕ} (old : List ℕ) → Laid us old at mid from → Laid vs mid from now end → length now ≡ length old
laid_kept old h k = k.long ∙ h.long

-- The letter of a step.
pub step_right : (m : ℕ) → m ≡ 0 → 114 ≡ step m
step_right m e = rw e

pub step_down : (m : ℕ) → (m ≡ 0 → ⊥) → 100 ≡ step m
step_down zero z = absurd (z refl)
step_down (suc m) z = refl

pub ruleset stepping = (
  count_room,
  ribbon-begun,
  cell_room,
  write_turn,
  ribbon-written,
  list_kept,
  ribbon-none,
  ribbon-some,
  step-none,
  comma_room,
  step_room,
  step_laid,
  cell_step_room,
  letter_room,
  cell_laid,
  laid_kept,
  step_right,
  step_down,
  rules,
)
