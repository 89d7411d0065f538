-- Values copied into lent memory, as many as it has room for.
--     copied vs old     the values at its beginning, as far as it goes
--     copied_all        all of them, where it has room
-- Assumes nothing.
use Rattle.std.specs.Prelude.{ℕ, ◌≤◌, ◌≡◌, refl, List, ◌++◌, length, take, drop}
use Rattle.std.proofs.Common.{◌∙◌, take_all}
use Rattle.outcomes.specs.Replies.{written}

-- For values of any type what `written` says of numbers: as many as have room, and then what was there.
abbrev pub copied : {X : Type 0} → List X → List X → List X
copied vs old = take (length old) vs ++ drop (length (take (length old) vs)) old

pub copied_all : (vs old now : List ℕ) → now ≡ copied vs old → length vs ≤ length old → now ≡ written vs old
copied_all vs old now e l = e ∙ rw (take_all (length old) vs l) refl
