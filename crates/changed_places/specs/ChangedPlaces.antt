-- A move replies the place that it changed (document 02, N3): what that means for the letters, over what operations reply and leave in lent memory.
--     Past s p q        q is left of p for raising, right of p for lowering
--     MovedAt m w r     r is the reply to the move m in the letters w beside what is left of them: one place, where the letter taken stood, and none stands
--                       past it; there stands now the letter given, and all else is as it was
--     in_letters r       the reply to a move on a tableau beside the letters that are left, without their counts
--     Beside rs s t     the replies s and t of a move to a word and to its tableau, rs being the word's recording ribbon
-- That every move which is not refused is MovedAt is proofs/Theory/ChangedPlaces; that the two replies stand Beside each other, Theory/MoveTogether.
-- Assumes nothing.
use Rattle.std.specs.Prelude.{ℕ, suc, ◌<◌, ◌≡◌, ◌≢◌, List, [], ◌∷◌, length, get_or, set}
use Rattle.quasi_crystal.specs.Moves.{Side, raising, lowering, Move, taken, given}
use Rattle.outcomes.specs.Replies.{Said, gives, refused}

abbrev pub Past : Side → ℕ → ℕ → Type 0
Past raising p q = q < p
Past lowering p q = p < q

pub record MovedAt (m : Move) (w : List ℕ) (r : Said × List ℕ) : Type 0 where
  pub place : ℕ
  pub inside : place < length w
  pub held : get_or w place 0 ≡ taken m.side m.index
  pub none_past : (q : ℕ) → q < length w → Past m.side place q → get_or w q 0 ≢ taken m.side m.index
  pub told : r ≡ (gives (place ∷ []), set w place (given m.side m.index))

abbrev pub in_letters : Said × (List ℕ × List ℕ) → Said × List ℕ
in_letters r = (r.0, r.1.0)

-- One refusal; or a place in the word and a cell of the tableau, whose recording entry is that place plus 1.
pub data Beside (rs : List ℕ) : Said → Said → Type 0 where
  alike : {k p : ℕ} → Beside rs (refused k p) (refused k p)
  beside : {p c : ℕ} → get_or rs c 0 ≡ suc p → Beside rs (gives (p ∷ [])) (gives (c ∷ []))
