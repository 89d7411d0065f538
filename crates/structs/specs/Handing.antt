-- The kernel's answers handed on as structs: what every C function above (crate capi) cites.
--     passed_on      an answer's struct beside the memory that the operation leaves
-- Assumes nothing.
use Rattle.std.specs.Prelude.{◌≡◌}
use Rattle.outcomes.specs.Replies.{Said}
use Rattle.structs.specs.Replies.{replied}

pub passed_on : {R A : Type 0} (f : Said → R) (r : R) (s : Said) (m : A) (run : Said × A) → r ≡ f s → (s, m) ≡ run → (r, m) ≡ replied f run
unfolding replied
passed_on f r s m run e h = rw (e, ← h)
