-- Lent memory after a result (document 01: "Elements of an output beyond those needed keep their values"). That a refusal leaves it as it was is
-- `refused_keeps` of Passing.
--     written_needed    the needed elements are the values,
--     written_beyond    those beyond are the old ones,
--     written_old       each of them at its place,
--     written-length    and a list that is long enough keeps its length
-- Assumes nothing.
use Prim.Native.Nat.{ℕ, ◌+◌, ◌-◌, ◌≤◌}
use native.Mathlib.Omega.{arith}
use mathlib.Core.Path.{◌≡◌, ◌∙◌}
use mathlib.Core.List.{List}
use lib.ListN.{length, get_or, take, drop, length-append, length-drop}
use lib.Seq.{take-append_seam, drop-append_seam, get_or-append-add, get_or-drop}
use Rattle.outcomes.specs.Replies.{written}

module _ (vs old : List ℕ) where
  pub written_needed : take (length vs) (written vs old) ≡ vs
  written_needed = take-append_seam vs _

  pub written_beyond : drop (length vs) (written vs old) ≡ drop (length vs) old
  written_beyond = drop-append_seam vs (drop (length vs) old)

  pub written_old : (p : ℕ) → length vs ≤ p → get_or (written vs old) p 0 ≡ get_or old p 0
  written_old p h =
      let whole : length vs + (p - length vs) ≡ p = omega arith in
      rw whole at (get_or-append-add vs (drop (length vs) old) (p - length vs) 0 ∙ get_or-drop (length vs) old (p - length vs) 0)

  pub written-length : length vs ≤ length old → length (written vs old) ≡ length old
  written-length h = omega (arith, length-append vs (drop (length vs) old), length-drop (length vs) old)
