-- The step of the comparison of weights (document 02, N2).
--     Stepped a b x y c d     from the sums a and b and the numbers x and y that come next, the sums c and d
--     Grown a c               c is more than a by a number of 16 bits at most
--     stepped_sums            of two tables: from both sums of the first k numbers and the two next ones, both sums of the first k + 1
-- That it gives the sums of two words is proofs/Theory/Steps.antt. Assumes nothing.
use Rattle.std.specs.Prelude.{ℕ, suc, ◌+◌, ◌≤◌, ◌≡◌, refl, List, get_or}
use Rattle.std.proofs.Common.{ap₂, ◌∙◌}
use Rattle.words.specs.Tables.{sum_of}

-- The step: each sum with its own next number.
pub record Stepped (a b x y c d : ℕ) : Type 0 where
  pub first : c ≡ a + x
  pub second : d ≡ b + y

-- A sum after one number of 16 bits more.
pub record Grown (a c : ℕ) : Type 0 where
  pub grown : c ≤ a + 65535

-- Of two tables: from the sums of the first k numbers and the next numbers, the sums of the first k + 1.
pub stepped_sums : (cs ds : List ℕ) {a b c d : ℕ} (k : ℕ) → a ≡ sum_of k cs → b ≡ sum_of k ds → Stepped a b (get_or cs k 0) (get_or ds k 0) c d
    → (c ≡ sum_of (suc k) cs) × (d ≡ sum_of (suc k) ds)
stepped_sums cs ds k p q s = (s.first ∙ ap₂ ◌+◌ p refl, s.second ∙ ap₂ ◌+◌ q refl)
