-- The comparison of two words' weights is that of their letter counts.
--     compare_true        the comparison of true letter counts is that of the weights
--     weights_tested, weights_refused     the reply past the checks of both words, from the comparison of the counts, and where they refuse
--     weighing            the ruleset of the comparison of two words
-- Assumes nothing.
use Rattle.std.specs.Prelude.{ℕ, zero, suc, ◌≤◌, ◌≡◌, refl, List, [], ◌∷◌, ◌&&◌, leb}
use Rattle.std.proofs.Common.{arith, ap, ap₂, ◌∙◌, rules}
use Rattle.outcomes.specs.Counts.{TrueCounts}
use Rattle.hypoplactic.specs.Weights.{at_most, Comparison, comparison, compare_weights}
use Rattle.outcomes.specs.Replies.{Said, gives, passed, first}
use Rattle.outcomes.specs.WordOperations.{comparison_number, words_judgements, weights_says}
use Rattle.outcomes.proofs.Theory.Passing.{first_else}
use Rattle.words.specs.Given.{accepted_true, count_given}
use Rattle.words.specs.Tables.{Table, table_sum}
use Rattle.refusals.specs.Chains.{halts, proceeds}
use Rattle.refusals.specs.Said.{said_refusal}
use Rattle.refusals.specs.declared.refusal.Refusal.{Refusal}
use Rattle.second_inputs.specs.Passed.{accepted_first, accepted_second}
use Rattle.weight_sums.specs.Tables.{sums_at_most, compare_tables}

-- True letter counts compare as the words do,
at_most-true : (u v : List ℕ) {cs ds : List ℕ} → TrueCounts u cs → TrueCounts v ds → (k : ℕ) → k ≤ 64 → sums_at_most k cs ds ≡ at_most k u v
at_most-true u v f g zero h = refl
at_most-true u v f g (suc k) h = ap₂ ◌&&◌ (at_most-true u v f g k (omega arith)) (ap₂ leb (table_sum u f (suc k) h) (table_sum v g (suc k) h))

-- all 64 of them.
pub compare_true : (u v : List ℕ) {cs ds : List ℕ} → TrueCounts u cs → TrueCounts v ds → compare_tables cs ds ≡ compare_weights u v
unfolding compare_tables compare_weights
compare_true u v f g = ap₂ comparison (at_most-true u v f g 64 (omega arith)) (at_most-true v u g f 64 (omega arith))

-- What the comparison of the counts says of two words that pass their checks,
pub weights_tested : {s : Said} (n : ℕ) (u : List ℕ) (m : ℕ) (v : List ℕ) {cs ds : List ℕ} → gives [] ≡ first (words_judgements n u m v) passed
    → Table (count_given n u) cs → Table (count_given m v) ds → s ≡ gives (comparison_number (compare_tables cs ds) ∷ []) → s ≡ weights_says n u m v
unfolding weights_says
weights_tested n u m v e f g d =
    proceeds e
    (d ∙ ap (λ (c : Comparison). gives (comparison_number c ∷ [])) (compare_true u v (accepted_true (accepted_first n u m v e) f) (accepted_true (accepted_second n u m v e) g)))
    ∙ first_else (words_judgements n u m v) _

-- and where they refuse.
pub weights_refused : (r : Refusal) (n : ℕ) (u : List ℕ) (m : ℕ) (v : List ℕ) → said_refusal r ≡ first (words_judgements n u m v) passed
    → said_refusal r ≡ weights_says n u m v
unfolding weights_says
weights_refused r n u m v e = halts r _ e ∙ first_else (words_judgements n u m v) _

pub ruleset weighing = (weights_tested, weights_refused, rules)
