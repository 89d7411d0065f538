-- A count of the letters that pass a test.
--     Tallies post xs n     n of the list's letters pass the test, whose answers obey `post`
-- Assumes nothing.
use Rattle.std.specs.Prelude.{ℕ, ◌≤◌, ◌≡◌, List, Bool, count_by, length}

-- At most all of them, and whatever property the test decides, so many have it.
pub record Tallies (post : ℕ → Bool → Type 0) (xs : List ℕ) (n : ℕ) : Type 0 where
  pub within : n ≤ length xs
  pub all : (has : ℕ → Bool) → ((x : ℕ) (b : Bool) → post x b → b ≡ has x) → n ≡ count_by has xs
