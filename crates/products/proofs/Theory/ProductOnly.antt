-- The merge rule (ProductSteps) tells the product.
--     product_only    no other tableau has the letters of both factors and these down steps
-- Assumes nothing.
use Prim.Native.Nat.{ℕ, ◌+◌, ◌<◌}
use mathlib.Core.Path.{◌≡◌, refl, ap, ap₂, sym, ◌∙◌}
use mathlib.Core.Bool.{◌&&◌, ◌||◌}
use mathlib.Core.List.{List, ◌++◌}
use mathlib.Core.Option.{Option, none, some}
use Rattle.hypoplactic.specs.Words.{before, count, occurs}
use Rattle.hypoplactic.specs.Ribbons.{Tableau}
use Rattle.hypoplactic.specs.Reading.{column_reading}
use Rattle.hypoplactic.specs.Junctions.{down_out, left_of, next_larger}
use Rattle.hypoplactic.proofs.Theory.Boundary.{tableau_of_word}
use Rattle.hypoplactic.proofs.Theory.Letters.{letters_same}
use Rattle.hypoplactic.proofs.Theory.Marks.{Apart, marks_same}
use Rattle.hypoplactic.proofs.Theory.NextLarger.{next_same}
use Rattle.hypoplactic.proofs.Theory.Occurrences.{count_append, occurs_same}
use Rattle.hypoplactic.proofs.Theory.ReadBack.{read_back}
use Rattle.products.specs.Products.{product_letters, product_marks, product_word}
use Rattle.products.proofs.Theory.ProductContents.{product_letters-count, reading_count}
use Rattle.products.proofs.Theory.ProductSteps.{reading_before, reading_junction}
use Rattle.products.proofs.Theory.ProductDowns.{product_down, product_last}

-- ---- no other tableau

-- Letters and down steps tell a tableau.
told_by_downs : (xs ms ys ns : List ℕ) → Tableau xs ms → Tableau ys ns → ((a : ℕ) → count a xs ≡ count a ys)
    → ((a : ℕ) → down_out a xs ms ≡ down_out a ys ns) → (xs ≡ ys) × (ms ≡ ns)
told_by_downs xs ms ys ns h k c d =
    let u : List ℕ = column_reading xs ms in
    let v : List ℕ = column_reading ys ns in
    let counts : (a : ℕ) → count a u ≡ count a v = λ a. reading_count xs ms h a ∙ c a ∙ sym (reading_count ys ns k a) in
    let order : (p q : ℕ) → p < q → Apart p q u → before u p q ≡ before v p q
    = λ p q l apart.
    reading_before xs ms h p q l (λ x g m. sym (reading_count xs ms h x) ∙ apart x g m)
    ∙ ap₂ ◌&&◌ (occurs_same q xs ys (c q)) (d p)
    ∙ sym (reading_before ys ns k p q l (λ x g m. sym (reading_count ys ns k x) ∙ sym (counts x) ∙ apart x g m)) in
    let (letters, marks) = read_back xs ms h in
    let (letters', marks') = read_back ys ns k in
    (sym letters ∙ letters_same u v counts ∙ letters', sym marks ∙ marks_same u v counts order ∙ marks')

module _ (xs ms ys ns : List ℕ) (h : Tableau xs ms) (k : Tableau ys ns) where
  -- The product is the only tableau with the letters of both factors and the down steps of the rule.
  pub product_only : (zs os : List ℕ) → Tableau zs os → ((a : ℕ) → count a zs ≡ count a xs + count a ys)
      → ((a b : ℕ) → next_larger a (xs ++ ys) ≡ some b
      → down_out a zs os ≡ (occurs b xs && (down_out a xs ms || occurs a ys) || occurs b ys && down_out a ys ns))
      → (zs ≡ product_letters xs ms ys ns) × (os ≡ product_marks xs ms ys ns)
  product_only zs os t c rule =
      told_by_downs zs os (product_letters xs ms ys ns) (product_marks xs ms ys ns) t (tableau_of_word (product_word xs ms ys ns))
      (λ a. c a ∙ sym (product_letters-count xs ms ys ns h k a)) (λ a. go a (next_larger a (xs ++ ys)) refl)
    where
      next : (a : ℕ) → next_larger a (column_reading zs os) ≡ next_larger a (xs ++ ys)
      next a = next_same a (column_reading zs os) (xs ++ ys) (λ b. reading_count zs os t b ∙ c b ∙ sym (count_append b xs ys))

      go : (a : ℕ) (o : Option ℕ) → next_larger a (xs ++ ys) ≡ o → down_out a zs os ≡ down_out a (product_letters xs ms ys ns) (product_marks xs ms ys ns)
      go a none e =
          sym (reading_junction zs os t a) ∙ ap (left_of (column_reading zs os) a) (next a ∙ e) ∙ sym (product_last xs ms ys ns h k a e)
      go a (some b) e = rule a b e ∙ sym (product_down xs ms ys ns h k a b e)
