-- Letters and marks of at most 20 cells at the beginning of 20 bytes.
--     Holds xs ys         ys begins with xs
--     take_freed          a beginning with its first step made free
-- Assumes nothing.
use Rattle.std.specs.Prelude.{ℕ, zero, suc, ◌≤◌, ◌≡◌, refl, List, [], ◌∷◌, length, set, take}
use Rattle.std.proofs.Common.{ap, ◌∙◌, arith}
use Rattle.outcomes.proofs.Theory.Memory.{written_needed}
use Rattle.numbering.specs.Orders.{freed}
use Rattle.buffers.specs.Copies.{copied, copied_all}

pub record Holds (xs ys : List ℕ) : Type 0 where
  pub is : length xs ≤ 20 → take (length xs) ys ≡ xs

pub held_copy : (xs old ys : List ℕ) → length old ≡ 20 → ys ≡ copied xs old → Holds xs ys
held_copy xs old ys l e = record {
  is = λ m. ap (take (length xs)) (copied_all xs old ys e (omega arith)) ∙ written_needed xs old;
}

-- The first of a beginning made free.
pub take_freed : (k : ℕ) (ys ms : List ℕ) → take k ys ≡ ms → take k (set ys 0 2) ≡ freed ms
take_freed k ys ms e = go k ys ∙ ap freed e
  where
    go : (k : ℕ) (ys : List ℕ) → take k (set ys 0 2) ≡ freed (take k ys)
    go zero ys = refl
    go (suc k) [] = refl
    go (suc k) (y ∷ ys) = refl
