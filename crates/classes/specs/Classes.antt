-- The same-class test of two words, from their letter counts and their junction sets.
--     other_counts, by_sets           the answer from what the tests find
--     class_said                      yes or no, as a number
--     class_tested, class_refused     the reply past the checks of both words, from the test, and where they refuse
--     matching               the ruleset of the same-class test
-- Assumes nothing.
use Rattle.std.specs.Prelude.{ℕ, ◌≡◌, refl, List, [], ◌∷◌, Bool, true, false, eqb, Ok}
use Rattle.std.proofs.Common.{sym, ap, ◌∙◌}
use Rattle.hypoplactic.specs.Words.{Accepted, tick}
use Rattle.hypoplactic.specs.Junctions.{same_class, same_counts}
use Rattle.outcomes.specs.Replies.{gives, passed, first}
use Rattle.outcomes.specs.WordOperations.{same_class_says, words_judgements}
use Rattle.outcomes.proofs.Theory.Passing.{first_else}
use Rattle.refusals.specs.Chains.{halts, proceeds}
use Rattle.refusals.specs.Said.{said_class, said_refusal}
use Rattle.refusals.specs.declared.refusal.Refusal.{Refusal}
use Rattle.second_inputs.specs.Passed.{judging}
use Rattle.words.specs.Given.{accepted_set, accepted_true, count_given, junction_given}
use Rattle.words.specs.Tables.{Table}
use Rattle.classes.specs.Tables.{same_true, same_tables}

-- ---- two accepted words

module _ {n m : ℕ} (u v : List ℕ) (h : Accepted n u) (g : Accepted m v) where
  -- What their tables tell of their counts.
  counts-told : {b : Bool} {cs ds : List ℕ} → Table (count_given n u) cs → Table (count_given m v) ds → b ≡ same_tables cs ds → same_counts 64 1 u v ≡ b
  counts-told f e p = sym (p ∙ same_true u v (accepted_true h f) (accepted_true g e))

  -- Words whose tables differ are not of one class;
  pub other_counts : {b : Bool} {cs ds : List ℕ} → Table (count_given n u) cs → Table (count_given m v) ds → b ≡ same_tables cs ds → b ≡ false
      → b ≡ same_class u v
  unfolding same_class
  other_counts f e p q = rw (counts-told f e p, q)

  -- where they agree, the junction sets decide.
  pub by_sets : {j k : ℕ} {b : Bool} {cs ds : List ℕ} → Table (count_given n u) cs → Table (count_given m v) ds → b ≡ same_tables cs ds → b ≡ true
      → j ≡ junction_given n u → k ≡ junction_given m v → eqb j k ≡ same_class u v
  unfolding same_class
  by_sets {j} {k} f e p q s t = rw (counts-told f e p, q, ← accepted_set h s, ← accepted_set g t)

-- ---- two words

-- Yes or no, as a number.
pub class_said : (b : Bool) → said_class (Ok b) ≡ gives (tick b 0 ∷ [])
class_said true = refl
class_said false = refl

-- The reply past the checks, from the test,
pub class_tested : {b : Bool} (n : ℕ) (u : List ℕ) (m : ℕ) (v : List ℕ) → gives [] ≡ first (words_judgements n u m v) passed → b ≡ same_class u v
    → said_class (Ok b) ≡ same_class_says n u m v
unfolding same_class_says
class_tested {b} n u m v e h = class_said b ∙ proceeds e (ap (λ (c : Bool). gives (tick c 0 ∷ [])) h) ∙ first_else (words_judgements n u m v) _

-- and where they refuse.
pub class_refused : (r : Refusal) (n : ℕ) (u : List ℕ) (m : ℕ) (v : List ℕ) → said_refusal r ≡ first (words_judgements n u m v) passed
    → said_refusal r ≡ same_class_says n u m v
unfolding same_class_says
class_refused r n u m v e = halts r _ e ∙ first_else (words_judgements n u m v) _

pub ruleset matching = (other_counts, by_sets, class_tested, class_refused, judging)
