-- A count taken part by part: what is counted so far, and what is left.
--     Remaining post xs rest n     n of the letters that pass are counted, and those of `rest` are not
--     count_told, up_to_told       how often a letter stands in a word, and how many are at most it, as counts of what passes a test
-- Assumes nothing.
use Rattle.std.specs.Prelude.{ℕ, ◌+◌, ◌≤◌, ◌≡◌, List, Bool, cond, true, false, eqb, leb, count_by, length, refl}
use Rattle.std.proofs.Common.{arith}
use Rattle.std.proofs.lemmas.List.Recursion.{is_count_by}
use Rattle.hypoplactic.specs.Words.{count, count_up_to, tick}

pub record Remaining (post : ℕ → Bool → Type 0) (xs rest : List ℕ) (n : ℕ) : Type 0 where
  pub within : n + length rest ≤ length xs
  pub all : (has : ℕ → Bool) → ((x : ℕ) (b : Bool) → post x b → b ≡ has x) → n + count_by has rest ≡ count_by has xs

tick_told : (b : Bool) (n : ℕ) → tick b n ≡ cond b (1 + n) n
tick_told true n = omega arith
tick_told false n = refl

pub count_told : (a : ℕ) (w : List ℕ) → count a w ≡ count_by (λ x. eqb x a) w
count_told a w = is_count_by (count a) (λ x. eqb x a) refl (λ x xs. tick_told (eqb x a) (count a xs)) w

pub up_to_told : (a : ℕ) (w : List ℕ) → count_up_to a w ≡ count_by (λ x. leb x a) w
up_to_told a w = is_count_by (count_up_to a) (λ x. leb x a) refl (λ x xs. tick_told (leb x a) (count_up_to a xs)) w
