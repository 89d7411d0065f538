-- The merge rule: the down steps of the product from those of the factors. Let b be the next larger letter after a in both factors together. A down step
-- leads out of a in the product exactly when
--     b is in the first factor, and a down step leads out of a there or a is in the second, or
--     b is in the second factor, and a down step leads out of a there.
-- With no larger letter there is none. So the product is found from letters and marks alone.
--     product_junction, product_no_junction    the rule, of the junctions of the product word
-- The same of the product stands in ProductDowns; that no other tableau has these down steps, in ProductOnly. Assumes nothing.
use Prim.Native.Nat.{ℕ, ◌<◌}
use native.Mathlib.Omega.{arith}
use mathlib.Core.Path.{◌≡◌, refl, ap, ◌∙◌}
use mathlib.Core.Bool.{Bool, true, false, ◌&&◌, ◌||◌}
use mathlib.Core.List.{List, ◌++◌}
use mathlib.Core.Option.{none, some}
use Rattle.hypoplactic.specs.Words.{before, occurs}
use Rattle.hypoplactic.specs.Ribbons.{Tableau}
use Rattle.hypoplactic.specs.Reading.{column_reading}
use Rattle.hypoplactic.specs.Junctions.{down_out, junction, left_of, next_larger}
use Rattle.hypoplactic.proofs.Theory.DownSteps.{junction_down}
use Rattle.hypoplactic.proofs.Theory.Marks.{Apart}
use Rattle.hypoplactic.proofs.Theory.NextLarger.{next_larger_lem}
use Rattle.hypoplactic.proofs.Theory.Occurrences.{before_append, count_append, occurs_same}
use Rattle.hypoplactic.proofs.Theory.ReadBack.{read_back}
use Rattle.hypoplactic.proofs.Theory.SameClass.{before_neighbours}
use Rattle.products.specs.Products.{product_word}
use Rattle.products.proofs.Theory.ProductContents.{product_next, reading_count}

-- ---- one factor

module _ (xs ms : List ℕ) (h : Tableau xs ms) where
  -- A letter occurs in the column reading where it occurs in the tableau.
  reading_occurs : (a : ℕ) → occurs a (column_reading xs ms) ≡ occurs a xs
  reading_occurs a = occurs_same a (column_reading xs ms) xs (reading_count xs ms h a)

  -- The junctions of the column reading are the down steps of the tableau.
  pub reading_junction : (a : ℕ) → junction (column_reading xs ms) a ≡ down_out a xs ms
  reading_junction a = let (letters, marks) = read_back xs ms h in junction_down (column_reading xs ms) a ∙ rw (letters, marks)

  -- So the order of neighbours in the column reading is told by the tableau.
  pub reading_before : (a b : ℕ) → a < b → Apart a b xs → before (column_reading xs ms) a b ≡ (occurs b xs && down_out a xs ms)
  reading_before a b l apart =
      before_neighbours (column_reading xs ms) a b l (λ x g k. reading_count xs ms h x ∙ apart x g k)
      ∙ rw (reading_occurs b, reading_junction a)

-- ---- the rule

-- What b in the first factor asks for, taken together.
regroup : (b d o e : Bool) → (b && d || b && o || e) ≡ (b && (d || o) || e)
regroup true true o e = refl
regroup true false o e = refl
regroup false d o e = refl

module _ (xs ms ys ns : List ℕ) (h : Tableau xs ms) (k : Tableau ys ns) where
  -- The junctions of the product word, with a next larger letter b,
  pub product_junction : (a b : ℕ) → next_larger a (xs ++ ys) ≡ some b
      → junction (product_word xs ms ys ns) a ≡ (occurs b xs && (down_out a xs ms || occurs a ys) || occurs b ys && down_out a ys ns)
  unfolding product_word
  product_junction a b e =
      let (above, here, apart) = rw e at (next_larger_lem a (xs ++ ys)) in
      ap (left_of (product_word xs ms ys ns) a) (product_next xs ms ys ns h k a ∙ e)
      ∙ before_append (column_reading xs ms) (column_reading ys ns) a b
      ∙ rw (
        reading_before xs ms h a b above (λ x g l. omega (arith, apart x g l, count_append x xs ys)),
        reading_before ys ns k a b above (λ x g l. omega (arith, apart x g l, count_append x xs ys)),
        reading_occurs xs ms h b,
        reading_occurs ys ns k a,
      )
      (regroup (occurs b xs) (down_out a xs ms) (occurs a ys) (occurs b ys && down_out a ys ns))

  -- and without one.
  pub product_no_junction : (a : ℕ) → next_larger a (xs ++ ys) ≡ none → junction (product_word xs ms ys ns) a ≡ false
  product_no_junction a e = rw (product_next xs ms ys ns h k a, e)
