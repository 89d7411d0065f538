-- The cases of the product (products' specs/Cases), computed by the checker.
--     worked_products      products
--     refused_products     refusals
--     largest_products     1,024 cells
-- Assumes nothing.
use mathlib.Core.Path.{◌≡◌, refl}
use mathlib.Core.List.{map}
use Rattle.outcomes.specs.Counts.{counts_judged, counts_of}
use Rattle.hypoplactic.specs.Insertion.{insert, pair_of}
use Rattle.hypoplactic.specs.Reading.{column_reading}
use Rattle.outcomes.specs.Judgements.{alike_judged, length_judged, letters_judged, marks_judged, rank_judged, rising_judged, room_judged}
use Rattle.outcomes.specs.Starred.{Case}
use Rattle.products.specs.Cases.{product_limits, product_cases, product_refusals}
use Rattle.products.specs.Products.{product_run, product_says, product_word}

-- Every product: the meaning is what is expected.
pub worked_products : map (λ (c : Case). c.meaning) product_cases ≡ map (λ (c : Case). c.document) product_cases
unfolding counts_of counts_judged pair_of insert column_reading rank_judged length_judged alike_judged letters_judged rising_judged marks_judged room_judged product_word product_says product_run
worked_products = refl

-- Every refusal.
pub refused_products : map (λ (c : Case). c.meaning) product_refusals ≡ map (λ (c : Case). c.document) product_refusals
unfolding counts_of counts_judged rank_judged length_judged alike_judged letters_judged rising_judged marks_judged room_judged product_says product_run
refused_products = refl

-- 1,024 cells together.
pub largest_products : map (λ (c : Case). c.meaning) product_limits ≡ map (λ (c : Case). c.document) product_limits
unfolding counts_judged rank_judged length_judged alike_judged letters_judged rising_judged marks_judged room_judged product_says
largest_products = refl
