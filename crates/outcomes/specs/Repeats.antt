-- What a repeat count says of its move (document 01, "Strength of the contracts", c: "the most times its move can be repeated"), over what operations reply
-- and leave in lent memory. A run takes what lent memory holds to a reply and to what it then holds: the letters of a word, or those of a tableau and its
-- letter counts, beside marks that stay.
--     Made run k u v         made k times, one after the other, the run leads from u to v
--     Repeated run k j u     from u it can be made k times, and is then refused with the number j
-- That a repeat count's reply is such a k, with j 10 under an inversion and else 11, is proofs/Theory/RepeatReplies. Assumes nothing.
use Rattle.std.specs.Prelude.{ℕ, zero, suc, ◌≡◌}
use Rattle.outcomes.specs.Replies.{Said, Passes, refused}

-- No time is refused, and each begins with what the one before has left.
abbrev pub Made : {A : Type 0} → (A → Said × A) → ℕ → A → A → Type 0
Made run zero u v = u ≡ v
Made run (suc k) u v = Passes (run u).0 × Made run k (run u).1 v

-- Made k times, it is refused the next time, and lent memory stays.
pub record Repeated {A : Type 0} (run : A → Said × A) (k j : ℕ) (u : A) : Type 0 where
  pub last : A
  pub made : Made run k u last
  pub stops : run last ≡ (refused j 0, last)
