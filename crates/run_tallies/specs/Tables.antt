-- The tables of a line's items, one number for each letter.
--     tabled_more                          the table of items and one more
-- Assumes nothing.
use Rattle.std.specs.Prelude.{ℕ, ◌≡◌, refl, List, [], ◌∷◌, ◌++◌}
use Rattle.grammar.specs.Lines.{Run}
use Rattle.run_tallies.specs.Tallies.{kept_at, tabled}

-- One item more is stored after the others.
pub tabled_more : (f : Run → ℕ) (rs : List Run) (r : Run) (cs : List ℕ) → tabled f (rs ++ (r ∷ [])) cs ≡ kept_at r.letter (f r) (tabled f rs cs)
tabled_more f [] r cs = refl
tabled_more f (s ∷ rs) r cs = tabled_more f rs r (kept_at s.letter (f s) cs)
