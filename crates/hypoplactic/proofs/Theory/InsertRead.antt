-- Insertion and the column reading: how a letter at the end of a tableau's column reading comes to its seat, up to joining.
--     insert_read     the column reading of a tableau with a letter at its end is joined to that of the tableau with the letter inserted
-- Assumes nothing.
use Prim.Native.Nat.{ℕ, suc, ◌≤◌, ◌<◌, zero-le}
use mathlib.Core.Path.{◌≡◌, refl}
use mathlib.Core.Bool.{Bool, true, false, cond}
use mathlib.Core.List.{List, [], ◌∷◌, ◌++◌, append_assoc}
use native.Mathlib.Nat.{le_refl}
use native.Mathlib.Omega.{arith}
use lib.Dec.{leb}
use borrow.Author.Tests.{leb-true, leb-false}
use Rattle.hypoplactic.specs.Rewriting.{Joined, same}
use Rattle.hypoplactic.proofs.Theory.Cells.{Cell, right, down, Follows, Cells, insert_cell, read_cells}
use Rattle.hypoplactic.proofs.Theory.Columns.{letter_joins, column_splits}
use Rattle.hypoplactic.proofs.Theory.Factors.{Falls, ends, falls_none, falls_one, falls_below, falls_first}
use Rattle.hypoplactic.proofs.Theory.Joining.{joined_front}

-- A claim about a test, from the two things that the test may tell.
by_test : (P : Bool → Type 0) (m n : ℕ) → (m ≤ n → P true) → (n < m → P false) → P (leb m n)
by_test P m n f g = by (leb m n) refl
  where
    by : (b : Bool) → leb m n ≡ b → P b
    by true e = f (leb-true m n e)
    by false e = g (leb-false m n e)

-- The walk over the letters at most a, with a column L of such letters in hand: at the first larger cell, a column that begins there takes a on its top,
-- and a column that goes on there is split.
insert-read_from : (a : ℕ) {h lo : ℕ} {L : List ℕ} (cs : List Cell) → Falls (suc h) L lo → h ≤ a → Follows h cs
    → Joined (read_cells L cs ++ (a ∷ [])) (read_cells L (insert_cell a cs))
insert-read_from a [] f le w = same
insert-read_from a {L} (right z ∷ cs) f le w =
    by_test (λ t. Joined ((L ++ read_cells (z ∷ []) cs) ++ (a ∷ [])) (read_cells L (cond t (right z ∷ insert_cell a cs) (right a ∷ down z ∷ cs)))) z a
    (λ q. rw append_assoc (joined_front L (insert-read_from a cs (falls_one (le_refl z)) q w.1)))
    (λ q. rw append_assoc (joined_front L (letter_joins cs q falls_none w.1)))
insert-read_from a {L} (down z ∷ cs) f le w =
    by_test (λ t. Joined (read_cells (z ∷ L) cs ++ (a ∷ [])) (read_cells L (cond t (down z ∷ insert_cell a cs) (right a ∷ down z ∷ cs)))) z a
    (λ q. insert-read_from a cs (falls_first w.0 f) q w.1)
    (λ q. column_splits cs falls_none q (falls_below (omega arith) f) w.1)

-- The first cell of a tableau may follow the letter 0.
cells_follow : (cs : List Cell) → Cells cs → Follows 0 cs
cells_follow [] w = w
cells_follow (right x ∷ cs) w = (zero-le, w)
cells_follow (down x ∷ cs) w = absurd w

-- The column reading of a tableau with a at its end is joined to the column reading of the tableau with a inserted.
pub insert_read : (a : ℕ) (cs : List Cell) → Cells cs → Joined (read_cells [] cs ++ (a ∷ [])) (read_cells [] (insert_cell a cs))
insert_read a cs w = insert-read_from a cs (ends zero-le) zero-le (cells_follow cs w)
