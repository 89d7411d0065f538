-- The junction set of the product of two tableaux, from tables of both factors, by shifts and masks from the largest letter down.
--     product_bit                        the bit of a letter, from counts of it and of the next larger letter in each factor
--     Tables n xs ms ys ns cs ds es gs  the tables of two factors: letter counts and down steps of the first, of the second
--     Merged n cs ds es gs set          the set is the product's, whatever factors have these tables
--     count_of xs o                      how often the letter o, if there is one, stands in xs
--     Ahead                             the set of the letters above a, and how often the next larger letter stands in each factor
--     Merging                           the loop's invariant: so for all factors with these tables
--     merge_start, merge_occurs, merge_absent, merge_end, merge_under     the loop
--     merging                           the ruleset of the functions that make the set
-- Assumes nothing.
use Rattle.std.specs.Prelude.{ℕ, suc, ◌+◌, ◌*◌, ◌-◌, ◌^◌, ◌%◌, ◌≤◌, ◌<◌, ◌≡◌, List, ◌++◌, Bool, true, false, cond, ◌&&◌, ◌||◌, get_or}
use Rattle.std.proofs.Math.Path.{refl}
use Rattle.std.proofs.Common.{sym, ap₂, ◌∙◌, arith, rules}
use Rattle.std.proofs.Math.Option.{Option, none, some}
use mir.Val.{bool_byte}
use Rattle.std.specs.Int.Bits.{bit_or}
use Rattle.std.proofs.Math.Dec.{ltb}
use Rattle.outcomes.specs.Counts.{TrueCounts}
use Rattle.hypoplactic.specs.Junctions.{down_out, junction, junction_set, next_larger, number}
use Rattle.hypoplactic.specs.Ribbons.{TableauAt}
use Rattle.hypoplactic.specs.Words.{count, tick}
use Rattle.hypoplactic.proofs.Theory.Bits.{number-below}
use Rattle.hypoplactic.proofs.Theory.Limits.{count-outside}
use Rattle.hypoplactic.proofs.Theory.NextLarger.{next_is}
use Rattle.hypoplactic.proofs.Theory.Occurrences.{count_append, occurs-append, occurs_count}
use Rattle.products.specs.Products.{product_word}
use Rattle.products.proofs.Theory.ProductSteps.{product_junction, product_no_junction}
use Rattle.words.specs.Bits.{number-none, number_more, under_power, or_bit}
use Rattle.words.specs.Junctions.{next_step}
use Rattle.multiplication.specs.Downs.{Flags}

-- ---- one bit

-- Of a letter whose next larger letter stands so often in the first and in the second factor: down in the product.
unfoldable pub product_bit : ℕ → ℕ → Bool → ℕ → Bool → Bool
product_bit first_next second_next first_down second_count second_down =
    ltb 0 first_next && (first_down || ltb 0 second_count) || ltb 0 second_next && second_down

-- A bit from a test.
bit_of : (b : Bool) → bool_byte b ≡ tick b 0
bit_of true = refl
bit_of false = refl

-- ---- tables of two factors

-- Letter counts and down steps of the first factor, and of the second.
pub record Tables (n : ℕ) (xs ms ys ns cs : List ℕ) (ds : List Bool) (es : List ℕ) (gs : List Bool) : Type 0 where
  pub first : TableauAt n xs ms
  pub second : TableauAt n ys ns
  pub first_counts : TrueCounts xs cs
  pub first_downs : Flags (λ a. down_out a xs ms) ds
  pub second_counts : TrueCounts ys es
  pub second_downs : Flags (λ a. down_out a ys ns) gs

-- The set is that of the product of any factors with these tables.
pub record Merged (n : ℕ) (cs : List ℕ) (ds : List Bool) (es : List ℕ) (gs : List Bool) (set : ℕ) : Type 0 where
  pub is : (xs ms ys ns : List ℕ) → Tables n xs ms ys ns cs ds es gs → set ≡ junction_set (product_word xs ms ys ns)

-- How often a letter stands in a word, if there is one.
abbrev pub count_of : List ℕ → Option ℕ → ℕ
count_of xs none = 0
count_of xs (some b) = count b xs

-- The letters above a are done.
pub record Ahead (xs ms ys ns : List ℕ) (a set first_next second_next : ℕ) : Type 0 where
  pub built : set ≡ number (junction (product_word xs ms ys ns)) (64 - a) (suc a)
  pub first_ahead : first_next ≡ count_of xs (next_larger a (xs ++ ys))
  pub second_ahead : second_next ≡ count_of ys (next_larger a (xs ++ ys))

-- The loop's invariant.
pub record Merging (n : ℕ) (cs : List ℕ) (ds : List Bool) (es : List ℕ) (gs : List Bool) (a set first_next second_next : ℕ) : Type 0 where
  pub reached : a ≤ 64
  pub ahead : (xs ms ys ns : List ℕ) → Tables n xs ms ys ns cs ds es gs → Ahead xs ms ys ns a set first_next second_next

-- ---- the loop

module _ {n : ℕ} {xs ms ys ns cs es : List ℕ} {ds gs : List Bool} (t : Tables n xs ms ys ns cs ds es gs) where
  -- No letter above the rank stands in either factor,
  none_above : (a : ℕ) → n ≤ a → next_larger a (xs ++ ys) ≡ none
  none_above a l =
      next_is a (xs ++ ys) none
      (λ b k.
      count_append b xs ys
      ∙ ap₂ ◌+◌ (count-outside b xs t.first.word.letters (λ i. omega arith)) (count-outside b ys t.second.word.letters (λ i. omega arith)))

  -- so none has a bit.
  start : Ahead xs ms ys ns n 0 0 0
  start = record {
    built = sym (number-none (junction (product_word xs ms ys ns)) (64 - n) (suc n)
        (λ a l. product_no_junction xs ms ys ns t.first.tableau t.second.tableau a (none_above a (omega arith))));
    first_ahead = rw (none_above n (omega arith));
    second_ahead = rw (none_above n (omega arith));
  }

  -- The bit of a letter is its junction.
  bit_is : (a first_next second_next : ℕ) → first_next ≡ count_of xs (next_larger a (xs ++ ys)) → second_next ≡ count_of ys (next_larger a (xs ++ ys))
      → product_bit first_next second_next (down_out a xs ms) (count a ys) (down_out a ys ns) ≡ junction (product_word xs ms ys ns) a
  unfolding product_bit
  bit_is a first_next second_next e f = go (next_larger a (xs ++ ys)) refl e f
    where
      go : (o : Option ℕ) → next_larger a (xs ++ ys) ≡ o → first_next ≡ count_of xs o → second_next ≡ count_of ys o
          → (ltb 0 first_next && (down_out a xs ms || ltb 0 (count a ys)) || ltb 0 second_next && down_out a ys ns)
          ≡ junction (product_word xs ms ys ns) a
      go none q e f = rw (e, f) (sym (product_no_junction xs ms ys ns t.first.tableau t.second.tableau a q))
      go (some b) q e f =
          rw (e, f, ← occurs_count b xs, ← occurs_count b ys, ← occurs_count a ys)
          (sym (product_junction xs ms ys ns t.first.tableau t.second.tableau a b q))

  -- The next larger letter of b is the letter after b where that stands in either factor.
  next_on : (v : List ℕ) (b : ℕ) → count_of v (next_larger b (xs ++ ys))
      ≡ cond (ltb 0 (count (suc b) xs) || ltb 0 (count (suc b) ys)) (count (suc b) v) (count_of v (next_larger (suc b) (xs ++ ys)))
  next_on v b = rw (next_step b (xs ++ ys), occurs-append (suc b) xs ys, occurs_count (suc b) xs, occurs_count (suc b) ys)
      (go (ltb 0 (count (suc b) xs) || ltb 0 (count (suc b) ys)))
    where
      go : (s : Bool) → count_of v (cond s (some (suc b)) (next_larger (suc b) (xs ++ ys))) ≡ cond s (count (suc b) v) (count_of v (next_larger (suc b) (xs ++ ys)))
      go true = refl
      go false = refl

  -- One letter down.
  turn : (a set first_next second_next : ℕ) → a < 64 → Ahead xs ms ys ns (suc a) set first_next second_next
      → Ahead xs ms ys ns a
      (bit_or (set * 2 ^ 1 % 2 ^ 64) (tick (product_bit first_next second_next (get_or ds a false) (get_or es a 0) (get_or gs a false)) 0))
      (cond (ltb 0 (get_or cs a 0) || ltb 0 (get_or es a 0)) (get_or cs a 0) first_next)
      (cond (ltb 0 (get_or cs a 0) || ltb 0 (get_or es a 0)) (get_or es a 0) second_next)
  turn a set first_next second_next l h =
      rw (t.first_counts.entry a l, t.second_counts.entry a l, t.first_downs.entry a l, t.second_downs.entry a l)
      record {
        built =
            rw (
              bit_is (suc a) first_next second_next h.first_ahead h.second_ahead,
              h.built,
              or_bit (number (junction (product_word xs ms ys ns)) (64 - suc a) (suc (suc a))) (junction (product_word xs ms ys ns) (suc a)) below,
            )
            (number_more (junction (product_word xs ms ys ns)) (64 - a) (64 - suc a) (suc a) (omega arith));
        first_ahead = rw (next_on xs a, h.first_ahead);
        second_ahead = rw (next_on ys a, h.second_ahead);
      }
    where
      below : number (junction (product_word xs ms ys ns)) (64 - suc a) (suc (suc a)) < 2 ^ 63
      below =
          under_power _ (64 - suc a) 63 (number-below (junction (product_word xs ms ys ns)) (64 - suc a) (suc (suc a))) (omega arith)

-- Before the largest letter.
pub merge_start : (n : ℕ) (cs : List ℕ) (ds : List Bool) (es : List ℕ) (gs : List Bool) → n ≤ 64 → Merging n cs ds es gs n 0 0 0
merge_start n cs ds es gs l = record { reached = l; ahead = λ xs ms ys ns t. start t }

-- One letter down, which stands in a factor or in none.
module _ {b : Bool} {bit : ℕ} (n : ℕ) (cs : List ℕ) (ds : List Bool) (es : List ℕ) (gs : List Bool) (a set first_next second_next : ℕ) (h : Merging n cs ds es gs a set first_next second_next)
    (l : 0 < a) (o : bit ≡ bool_byte b)
    (e : b ≡ product_bit first_next second_next (get_or ds (a - 1) false) (get_or es (a - 1) 0) (get_or gs (a - 1) false)) where
  pub merge_turn : {first_next' second_next' : ℕ} {occurs : Bool} → (ltb 0 (get_or cs (a - 1) 0) || ltb 0 (get_or es (a - 1) 0)) ≡ occurs
      → first_next' ≡ cond occurs (get_or cs (a - 1) 0) first_next → second_next' ≡ cond occurs (get_or es (a - 1) 0) second_next
      → Merging n cs ds es gs (a - 1) (bit_or (set * 2 ^ 1 % 2 ^ 64) bit) first_next' second_next'
  merge_turn k f s =
      let back : suc (a - 1) ≡ a = omega (arith, l) in
      rw (o, bit_of b, e, f, s, ← k) record {
        reached = omega (arith, h.reached);
        ahead = λ xs ms ys ns t. turn t (a - 1) set first_next second_next (omega (arith, l, h.reached)) (rw (← back) at (h.ahead xs ms ys ns t));
      }

  pub merge_occurs : (ltb 0 (get_or cs (a - 1) 0) || ltb 0 (get_or es (a - 1) 0)) ≡ true
      → Merging n cs ds es gs (a - 1) (bit_or (set * 2 ^ 1 % 2 ^ 64) bit) (get_or cs (a - 1) 0) (get_or es (a - 1) 0)
  merge_occurs k = merge_turn k refl refl

  pub merge_absent : (ltb 0 (get_or cs (a - 1) 0) || ltb 0 (get_or es (a - 1) 0)) ≡ false
      → Merging n cs ds es gs (a - 1) (bit_or (set * 2 ^ 1 % 2 ^ 64) bit) first_next second_next
  merge_absent k = merge_turn k refl refl

-- All letters are done.
pub merge_end : (n : ℕ) (cs : List ℕ) (ds : List Bool) (es : List ℕ) (gs : List Bool) (a set first_next second_next : ℕ) → Merging n cs ds es gs a set first_next second_next → a ≤ 0
    → Merged n cs ds es gs set
unfolding junction_set
merge_end n cs ds es gs a set first_next second_next h l =
    let none : a ≡ 0 = omega arith in
    record { is = λ xs ms ys ns t. rw none at (h.ahead xs ms ys ns t).built }

-- The place of the next letter is within a table.
pub merge_under : (n : ℕ) (cs : List ℕ) (ds : List Bool) (es : List ℕ) (gs : List Bool) (a set first_next second_next : ℕ) → Merging n cs ds es gs a set first_next second_next → 0 < a → a - 1 < 64
merge_under n cs ds es gs a set first_next second_next h l = omega (arith, h.reached)

pub ruleset merging = (merge_start, merge_occurs, merge_absent, merge_end, merge_under, rules)
