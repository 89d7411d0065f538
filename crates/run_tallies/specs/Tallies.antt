-- What is kept of the items of a C line while they are read one by one (document 02, N9): the line may have thousands of them, so none is kept itself.
--     inside_lead n rs           how many items stand before the first whose letter is outside 1 to n: all where there is none
--     rising_lead x rs           how many stand before the first that breaks 19, after the letter x: all where there is none
--     last_letter x rs           the letter of the last item, x where there is none
--     capped k                  k, but 1,025 for anything larger: no L that passes 2 is so large
--     Tallied n rs y            the tally y of these items at rank n
--     Fresh y                   the tally of no items, at whatever rank
--     next_count k, lead_after    the number of items with one more; a lead with one more
--     Added n x k y z           the tally z is y with one item more, of the letter x and the count k
--     tally_judgements L y       4, 19 and 20 by a tally
--     tally_says n L y           1, 2, 4, 19 and 20 by a tally. Of a tally that items have it is what run_judgements say of them (tally-judges in Leads)
--     kept_at x v cs             64 values, one for each letter, with v stored at the place of the letter x
--     tabled f rs cs            with what f tells of each item stored at its letter's place, a later item over an earlier
-- Assumes nothing.
use Rattle.std.specs.Prelude.{ℕ, suc, ◌+◌, ◌-◌, min, ◌≡◌, Bool, ◌||◌, cond, not, List, [], ◌∷◌, eqb, leb, ltb, length, set}
use Rattle.grammar.specs.Lines.{Run}
use Rattle.outcomes.specs.Judgements.{length_judged, outside, rank_judged}
use Rattle.outcomes.specs.Replies.{Said, first, passed, refuse_if}
use Rattle.run_lines.specs.Runs.{run_cells}
use Rattle.run_tallies.specs.declared.tally.Tally.{Tally}

-- ---- leads and sums

abbrev pub inside_lead : ℕ → List Run → ℕ
inside_lead n [] = 0
inside_lead n (r ∷ rs) = cond (outside n r.letter) 0 (suc (inside_lead n rs))

abbrev pub rising_lead : ℕ → List Run → ℕ
rising_lead x [] = 0
rising_lead x (r ∷ rs) = cond (leb r.letter x || eqb r.times 0) 0 (suc (rising_lead r.letter rs))

abbrev pub last_letter : ℕ → List Run → ℕ
last_letter x [] = x
last_letter x (r ∷ rs) = last_letter r.letter rs

abbrev pub capped : ℕ → ℕ
capped k = min k 1025

pub record Tallied (n : ℕ) (rs : List Run) (y : Tally) : Type 0 where
  pub items : y.items ≡ length rs
  pub inside : y.inside ≡ inside_lead n rs
  pub rising : y.rising ≡ rising_lead 0 rs
  pub last : y.last ≡ last_letter 0 rs
  pub sum : y.sum ≡ capped (run_cells rs)

-- No items.
pub record Fresh (y : Tally) : Type 0 where
  pub none : (n : ℕ) → Tallied n [] y

-- ---- one item more

-- The number of items, 2 to the power 63 at most.
unfoldable pub next_count : ℕ → ℕ
next_count k = min k 9223372036854775807 + 1

-- A lead over so many items: it goes on past the item that is added, if no fault stands before it or in it.
unfoldable pub lead_after : Bool → ℕ → ℕ → ℕ
lead_after fault lead items = cond fault lead (cond (ltb lead items) lead (next_count items))

pub record Added (n x k : ℕ) (y z : Tally) : Type 0 where
  pub items : z.items ≡ next_count y.items
  pub inside : z.inside ≡ lead_after (outside n x) y.inside y.items
  pub rising : z.rising ≡ lead_after (leb x y.last || eqb k 0) y.rising y.items
  pub last : z.last ≡ x
  pub sum : z.sum ≡ capped (capped y.sum + k)

-- ---- the checks

-- 4, 19 and 20: a lead below the number of items is the index of the first fault.
abbrev pub tally_judgements : ℕ → Tally → List Said
tally_judgements L y =
    refuse_if (ltb y.inside y.items) 4 y.inside passed ∷ refuse_if (ltb y.rising y.items) 19 y.rising passed
    ∷ refuse_if (not (eqb y.sum L)) 20 0 passed ∷ []

-- 1 and 2 before them.
unfoldable pub tally_says : ℕ → ℕ → Tally → Said
tally_says n L y = first (rank_judged n ∷ length_judged L ∷ tally_judgements L y) passed

-- ---- tables

-- Nothing is stored where the letter is outside 1 to 64.
unfoldable pub kept_at : {A : Type 0} → ℕ → A → List A → List A
kept_at x v cs = cond (outside 64 x) cs (set cs (x - 1) v)

-- Every item, one after another.
abbrev pub tabled : (Run → ℕ) → List Run → List ℕ → List ℕ
tabled f [] cs = cs
tabled f (r ∷ rs) cs = tabled f rs (kept_at r.letter (f r) cs)
