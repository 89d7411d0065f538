-- A letter at the end of a column reading, up to joining: how it comes to stand where insertion seats it. `read col` is the column reading of the cells that
-- follow, with the column col in hand from bottom to top; that column has its least letter written out and grows at its front at a down step.
--     letter_forward        b · read (C a) ~ b a · read C
--     letter_joins          read (U u) · a ~ read (U u a)
--     column_forward        U u L · read (C r a) ~ L U u a · read (C r)
--     column_splits         read (U u L) · a ~ L · read (U u a)
-- Assumes nothing.
use Prim.Native.Nat.{ℕ, suc, ◌≤◌, ◌<◌}
use mathlib.Core.List.{List, [], ◌∷◌, ◌++◌, append_assoc, append-nil}
use native.Mathlib.Nat.{le_trans}
use native.Mathlib.Omega.{arith}
use Rattle.hypoplactic.specs.Rewriting.{Joined, same}
use Rattle.hypoplactic.proofs.Theory.Joining.{◌⨾◌, joined_under, joined_front}
use Rattle.hypoplactic.proofs.Theory.Factors.{Falls, falls_none, falls_one, falls_bounds, falls_below, falls_first, falls_last, past_above, columns_pass, columns_cross}
use Rattle.hypoplactic.proofs.Theory.Cells.{Cell, right, down, Follows, read_cells}

-- The top letter a of the column in hand comes out before it, behind a letter b, if a < b and b is at most the rest of that column.
letter_forward : {a b h : ℕ} {C : List ℕ} (cs : List Cell) → a < b → Falls (suc h) C b → Follows h cs → Joined (b ∷ read_cells (C ++ (a ∷ [])) cs) (b ∷ a ∷ read_cells C cs)
letter_forward [] lt f w = rw append-nil at (past_above [] lt f)
letter_forward (right y ∷ cs) lt f w = rw append_assoc (past_above (read_cells (y ∷ []) cs) lt f)
letter_forward (down y ∷ cs) lt f w = letter_forward cs lt (falls_first w.0 f) w.1

-- A letter a at the end of a reading comes to stand on top of the column in hand, if a is below that column.
pub letter_joins : {a u h : ℕ} {U : List ℕ} (cs : List Cell) → a < u → Falls (suc h) U (suc u) → Follows h cs
    → Joined (read_cells (U ++ (u ∷ [])) cs ++ (a ∷ [])) (read_cells (U ++ (u ∷ a ∷ [])) cs)
letter_joins [] lt f w = simp append_assoc same
letter_joins {u} {h} {U} (right y ∷ cs) lt f w =
    let le : u ≤ y = omega (arith, falls_bounds f) in
    simp append_assoc (joined_front U (joined_under u (letter_joins cs (le_trans lt le) falls_none w.1) ⨾ letter_forward cs lt (falls_one le) w.1))
letter_joins (down y ∷ cs) lt f w = letter_joins cs lt (falls_first w.0 f) w.1

-- A column U u L before the column in hand gives up its top L and takes a letter a from that column instead, if L ≤ a < u and U u is at most the column
-- in hand.
column_forward : {a h lo r u : ℕ} {C L U : List ℕ} (cs : List Cell) → Falls (suc h) C (suc r) → Falls (suc r) U (suc u) → a < u → Falls (suc a) L lo → Follows h cs
    → Joined (U ++ (u ∷ (L ++ read_cells (C ++ (r ∷ a ∷ [])) cs))) (L ++ (U ++ (u ∷ a ∷ read_cells (C ++ (r ∷ [])) cs)))
column_forward [] c f lt l w = columns_cross [] c f lt l
column_forward (right y ∷ cs) c f lt l w = simp append_assoc (columns_cross (read_cells (y ∷ []) cs) c f lt l)
column_forward (down y ∷ cs) c f lt l w = column_forward cs (falls_first w.0 c) f lt l w.1

-- A letter a at the end of a reading splits the column in hand, if L ≤ a < u: the letters L come out before it, and a stands on top of what is left.
pub column_splits : {a h lo u : ℕ} {L U : List ℕ} (cs : List Cell) → Falls (suc h) U (suc u) → a < u → Falls (suc a) L lo → Follows h cs
    → Joined (read_cells (U ++ (u ∷ L)) cs ++ (a ∷ [])) (L ++ read_cells (U ++ (u ∷ a ∷ [])) cs)
column_splits [] f lt l w = simp append_assoc (simp append_assoc at (columns_pass [] (falls_last f lt) l))
column_splits {a} {u} {L} {U} (right y ∷ cs) f lt l w =
    let le : u ≤ y = omega (arith, falls_bounds f) in
    let joins : Joined (read_cells (y ∷ []) cs ++ (a ∷ [])) (read_cells (y ∷ a ∷ []) cs) = letter_joins cs (le_trans lt le) falls_none w.1 in
    simp append_assoc (joined_front U (joined_under u (joined_front L joins)) ⨾ column_forward cs falls_none (falls_below (omega arith) f) lt l w.1)
column_splits (down y ∷ cs) f lt l w = column_splits cs (falls_first w.0 f) lt l w.1
