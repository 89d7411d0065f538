-- A letter as a byte.
--     narrowed x      the letter, or 0 where no byte holds it
-- Assumes nothing.
use Rattle.std.specs.Prelude.{ℕ, cond, ltb}

abbrev pub narrowed : ℕ → ℕ
narrowed x = cond (ltb x 256) x 0
