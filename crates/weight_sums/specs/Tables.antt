-- The comparison of weights on tables of counts, by sums that are carried along.
--     sums_at_most k cs ds       each sum of the first 1 to k numbers of cs is at most that of ds
--     compare_tables cs ds      the comparison from the sums of the first 1 to 64 numbers
--     Sum cs i a               the loop over the letters: a is the sum of the first i numbers of cs
--     Summing                  both sums and both answers so far
--     sum_small                what the step asks
--     start, turn, end         no letter; one letter more; past the last
--     summing                  the ruleset of the comparison of tables
-- Assumes nothing.
use Rattle.std.specs.Prelude.{ℕ, zero, suc, ◌+◌, ◌*◌, ◌≤◌, ◌<◌, ◌≡◌, refl, List, [], ◌∷◌, Bool, true, ◌&&◌, leb, get_or}
use Rattle.std.proofs.Common.{arith, add-one, ap, ap₂, ◌∙◌, rules}
use Rattle.hypoplactic.specs.Weights.{Comparison, comparison}
use Rattle.outcomes.specs.Replies.{Said, gives}
use Rattle.outcomes.specs.WordOperations.{comparison_number}
use Rattle.words.specs.Tables.{sum_of}
use Rattle.weight_sums.specs.Sums.{Grown, Stepped, stepped_sums}

-- Each sum of the first 1 to k numbers is at most that of the second table.
abbrev pub sums_at_most : ℕ → List ℕ → List ℕ → Bool
sums_at_most zero cs ds = true
sums_at_most (suc k) cs ds = sums_at_most k cs ds && leb (sum_of (suc k) cs) (sum_of (suc k) ds)

-- The comparison from both, over all 64.
unfoldable pub compare_tables : List ℕ → List ℕ → Comparison
compare_tables cs ds = comparison (sums_at_most 64 cs ds) (sums_at_most 64 ds cs)

-- ---- the loop

-- After i letters: the sum of a table, of i numbers of 16 bits.
pub record Sum (cs : List ℕ) (i a : ℕ) : Type 0 where
  pub within : i ≤ 64
  pub small : a ≤ 65535 * i
  pub is : a ≡ sum_of i cs

-- Both sums, and whether each sum so far is at most the other's.
pub record Summing (cs ds : List ℕ) (i a b : ℕ) (low high : Bool) : Type 0 where
  pub first : Sum cs i a
  pub second : Sum ds i b
  pub at_most : low ≡ sums_at_most i cs ds
  pub at_least : high ≡ sums_at_most i ds cs

-- What the step asks of a sum.
pub sum_small : (cs : List ℕ) (i a : ℕ) → Sum cs i a → a ≤ 4194304
sum_small cs i a h = omega (arith, h.within, h.small)

-- Before the first letter.
pub start : (cs ds : List ℕ) → Summing cs ds 0 0 0 true true
start cs ds =
    let none : (xs : List ℕ) → Sum xs 0 0 = λ xs. record { within = omega arith; small = omega arith; is = refl } in
    record { first = none cs; second = none ds; at_most = refl; at_least = refl }

-- One side's answer after one sum more.
more : {p low l : Bool} {s s' t t' : ℕ} → p ≡ (low && leb s t) → low ≡ l → s ≡ s' → t ≡ t' → p ≡ (l && leb s' t')
more e f g h = e ∙ ap₂ ◌&&◌ f (ap₂ leb g h)

-- One letter more in both tables: the step, then both answers by the new sums.
pub turn : (cs ds : List ℕ) (i a b c d : ℕ) (low high p q : Bool) → Summing cs ds i a b low high → i < 64 → Stepped a b (get_or cs i 0) (get_or ds i 0) c d
    → Grown a c → Grown b d → p ≡ (low && leb c d) → q ≡ (high && leb d c) → Summing cs ds (i + 1) c d p q
turn cs ds i a b c d low high p q h l s f g e e' =
    let both : (c ≡ sum_of (suc i) cs) × (d ≡ sum_of (suc i) ds) = stepped_sums cs ds i h.first.is h.second.is s in
    rw (add-one i)
    (record {
      first = record { within = l; small = omega (arith, h.first.small, f.grown); is = both.0 };
      second = record { within = l; small = omega (arith, h.second.small, g.grown); is = both.1 };
      at_most = more e h.at_most both.0 both.1;
      at_least = more e' h.at_least both.1 both.0;
    })

-- Past the last letter the answers are the tables'.
pub end : {r : Said} (cs ds : List ℕ) (i a b : ℕ) (low high : Bool) → Summing cs ds i a b low high → 64 ≤ i
    → r ≡ gives (comparison_number (comparison low high) ∷ []) → r ≡ gives (comparison_number (compare_tables cs ds) ∷ [])
unfolding compare_tables
end cs ds i a b low high h l e =
    let all : i ≡ 64 = omega (arith, h.first.within) in
    e ∙ ap₂ (λ (p q : Bool). gives (comparison_number (comparison p q) ∷ []))
    (h.at_most ∙ ap (λ (k : ℕ). sums_at_most k cs ds) all) (h.at_least ∙ ap (λ (k : ℕ). sums_at_most k ds cs) all)

pub ruleset summing = (sum_small, start, turn, end, rules)
