-- Local memory for the items of a line, before any is kept there.
--     blank n                  so many zeros
--     blank_is, blank_long     an array of zeros is blank; how long blank memory is
-- Assumes nothing.
use Rattle.std.specs.Prelude.{ℕ, ◌≡◌, refl, List, length, replicate}
use Rattle.std.proofs.Common.{ap, ◌∙◌}
use Rattle.std.proofs.lemmas.List.{length-replicate}

-- So many zeros. Kept folded, so that no goal unrolls them.
unfoldable pub blank : ℕ → List ℕ
blank n = replicate n 0

pub blank_is : (n : ℕ) → replicate n 0 ≡ blank n
unfolding blank
blank_is n = refl

pub blank_long : (n : ℕ) {xs : List ℕ} → xs ≡ blank n → length xs ≡ n
unfolding blank
blank_long n e = ap length e ∙ length-replicate n 0
