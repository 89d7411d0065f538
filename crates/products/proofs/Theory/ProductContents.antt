-- What the product holds: the letters of both factors, each as often as in both together. Its down steps stand in ProductSteps and ProductDowns.
--     reading_count       each letter stands in a column reading as often as in the tableau
--     product_count       each letter stands in the product word as often as in both factors; product_letters-count: so in the product's letters
--     product_entry       its letter counts are the sums of true letter counts of both; product_counts: they are those of the product's letters
--     product_length      the product word is as long as both; product_cells: so many letters and marks has the product
--     product_next        the next larger letter in the product word is that in the letters of both
--     product_accepted    factors within the limits that fit together: the product word is accepted
--     product_at          and the product is a tableau within the limits
-- Assumes nothing.
use Prim.Native.Nat.{ℕ, suc, ◌+◌, ◌≤◌, ◌<◌}
use native.Mathlib.Omega.{arith}
use mathlib.Core.Path.{◌≡◌, ap, ap₂, sym, ◌∙◌}
use mathlib.Core.Logic.{◌⊎◌, inl, inr}
use mathlib.Core.List.{List, ◌++◌}
use lib.ListN.{get_or, length, length-append}
use Rattle.hypoplactic.specs.Words.{Accepted, Inside, count}
use Rattle.outcomes.specs.Counts.{TrueCounts, counts_of}
use Rattle.hypoplactic.specs.Ribbons.{Tableau, TableauAt}
use Rattle.hypoplactic.specs.Reading.{column_reading}
use Rattle.hypoplactic.specs.Junctions.{next_larger}
use Rattle.quasi_crystal.proofs.Theory.Closure.{word_tableau_at}
use Rattle.hypoplactic.proofs.Theory.Contents.{within-counts}
use Rattle.outcomes.proofs.Theory.Counts.{counts-true, letters-counts}
use Rattle.hypoplactic.proofs.Theory.Letters.{count-letters}
use Rattle.hypoplactic.proofs.Theory.NextLarger.{next_same}
use Rattle.hypoplactic.proofs.Theory.Occurrences.{count_append}
use Rattle.hypoplactic.proofs.Theory.Pairs.{le-or-lt, length-letters, length-marks}
use Rattle.hypoplactic.proofs.Theory.ReadBack.{read_back, reading_length}
use Rattle.products.specs.Products.{product_letters, product_marks, product_word}

-- ---- the column reading of one factor

-- It has each letter as often as the tableau.
pub reading_count : (xs ms : List ℕ) → Tableau xs ms → (a : ℕ) → count a (column_reading xs ms) ≡ count a xs
reading_count xs ms h a = sym (count-letters a (column_reading xs ms)) ∙ ap (count a) (read_back xs ms h).0

-- ---- the product word

module _ (xs ms ys ns : List ℕ) (h : Tableau xs ms) (k : Tableau ys ns) where
  -- Each letter stands in it as often as in both factors.
  pub product_count : (a : ℕ) → count a (product_word xs ms ys ns) ≡ count a xs + count a ys
  unfolding product_word
  product_count a = count_append a (column_reading xs ms) (column_reading ys ns) ∙ ap₂ ◌+◌ (reading_count xs ms h a) (reading_count ys ns k a)

  -- It is as long as both.
  pub product_length : length (product_word xs ms ys ns) ≡ length xs + length ys
  unfolding product_word
  product_length = length-append (column_reading xs ms) (column_reading ys ns) ∙ ap₂ ◌+◌ (reading_length xs ms h) (reading_length ys ns k)

  -- The next larger letter in it is that in the letters of both.
  pub product_next : (a : ℕ) → next_larger a (product_word xs ms ys ns) ≡ next_larger a (xs ++ ys)
  product_next a = next_same a (product_word xs ms ys ns) (xs ++ ys) (λ b. product_count b ∙ sym (count_append b xs ys))

  -- ---- the product

  -- Each letter stands in the product as often as in both factors.
  pub product_letters-count : (a : ℕ) → count a (product_letters xs ms ys ns) ≡ count a xs + count a ys
  product_letters-count a = count-letters a (product_word xs ms ys ns) ∙ product_count a

  -- The letter counts that the operation gives are those of its letters,
  pub product_counts : counts_of (product_word xs ms ys ns) ≡ counts_of (product_letters xs ms ys ns)
  product_counts = sym (letters-counts (product_word xs ms ys ns))

  -- and each is the sum of what the factors bring.
  pub product_entry : {cs ds : List ℕ} → TrueCounts xs cs → TrueCounts ys ds → (i : ℕ) → i < 64
      → get_or (counts_of (product_word xs ms ys ns)) i 0 ≡ get_or cs i 0 + get_or ds i 0
  product_entry c d i l = (counts-true (product_word xs ms ys ns)).entry i l ∙ product_count (suc i) ∙ sym (ap₂ ◌+◌ (c.entry i l) (d.entry i l))

  -- It has as many letters and as many marks as both have cells.
  pub product_cells : (length (product_letters xs ms ys ns) ≡ length xs + length ys) × (length (product_marks xs ms ys ns) ≡ length xs + length ys)
  product_cells = (length-letters (product_word xs ms ys ns) ∙ product_length, length-marks (product_word xs ms ys ns) ∙ product_length)

-- ---- limits

-- A letter counted in one of two factors within a rank is one of it.
inside_either : (n : ℕ) {xs ys : List ℕ} → Accepted n xs → Accepted n ys → (a : ℕ) → 1 ≤ count a xs + count a ys → Inside n a
inside_either n {xs} {ys} h k a c = go (le-or-lt 1 (count a xs))
  where
    go : (1 ≤ count a xs) ⊎ (count a xs < 1) → Inside n a
    go (inl l) = (within-counts n xs).0 h.letters a l
    go (inr l) = (within-counts n ys).0 k.letters a (omega arith)

module _ (n : ℕ) (xs ms ys ns : List ℕ) (h : TableauAt n xs ms) (k : TableauAt n ys ns) (fit : length xs + length ys ≤ 1024) where
  -- The product word of factors within the limits that fit together is accepted.
  pub product_accepted : Accepted n (product_word xs ms ys ns)
  product_accepted = record {
    rank_low = h.word.rank_low;
    rank_high = h.word.rank_high;
    short = omega (arith, product_length xs ms ys ns h.tableau k.tableau);
    letters = (within-counts n (product_word xs ms ys ns)).1
        (λ a c. inside_either n h.word k.word a (omega (arith, product_count xs ms ys ns h.tableau k.tableau a)));
  }

  -- The product is within the limits.
  pub product_at : TableauAt n (product_letters xs ms ys ns) (product_marks xs ms ys ns)
  product_at = word_tableau_at product_accepted
