-- A line with its rank field left out (document 02, N5), as a function on bytes, so that it can be said of what was written.
--     without_rank line     the byte of the kind, then what follows the field after it
-- It fits every kind of line that has the rank directly after its kind: W, T, C and P lines, and later kinds. Of bytes that are no line it gives some bytes; nothing
-- is asked of them. Assumes nothing.
use Rattle.std.specs.Prelude.{ℕ, List, [], ◌∷◌, ◌||◌, cond, eqb}

-- From the next comma (44) or line feed (10) on.
abbrev pub past_field : List ℕ → List ℕ
past_field [] = []
past_field (b ∷ bs) = cond (eqb b 44 || eqb b 10) (b ∷ bs) (past_field bs)

-- The byte of the kind, then what follows the rank field. The byte between them is the comma before the rank, which goes with it.
unfoldable pub without_rank : List ℕ → List ℕ
without_rank [] = []
without_rank (kind ∷ []) = kind ∷ []
without_rank (kind ∷ comma ∷ bs) = kind ∷ past_field bs
