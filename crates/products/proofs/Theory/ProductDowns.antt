-- The merge rule (ProductSteps) of the product itself.
--     product_down, product_last    its down steps, from letters and marks of the factors
-- Assumes nothing.
use Prim.Native.Nat.{ℕ}
use mathlib.Core.Path.{◌≡◌, sym, ◌∙◌}
use mathlib.Core.Bool.{false, ◌&&◌, ◌||◌}
use mathlib.Core.List.{List, ◌++◌}
use mathlib.Core.Option.{none, some}
use Rattle.hypoplactic.specs.Words.{occurs}
use Rattle.hypoplactic.specs.Ribbons.{Tableau}
use Rattle.hypoplactic.specs.Junctions.{down_out, next_larger}
use Rattle.hypoplactic.proofs.Theory.DownSteps.{junction_down}
use Rattle.products.specs.Products.{product_letters, product_marks, product_word}
use Rattle.products.proofs.Theory.ProductSteps.{product_junction, product_no_junction}

module _ (xs ms ys ns : List ℕ) (h : Tableau xs ms) (k : Tableau ys ns) where
  -- The down steps of the product, with a next larger letter b,
  pub product_down : (a b : ℕ) → next_larger a (xs ++ ys) ≡ some b
      → down_out a (product_letters xs ms ys ns) (product_marks xs ms ys ns) ≡ (occurs b xs && (down_out a xs ms || occurs a ys) || occurs b ys && down_out a ys ns)
  product_down a b e = sym (junction_down (product_word xs ms ys ns) a) ∙ product_junction xs ms ys ns h k a b e

  -- and without one.
  pub product_last : (a : ℕ) → next_larger a (xs ++ ys) ≡ none → down_out a (product_letters xs ms ys ns) (product_marks xs ms ys ns) ≡ false
  product_last a e = sym (junction_down (product_word xs ms ys ns) a) ∙ product_no_junction xs ms ys ns h k a e
