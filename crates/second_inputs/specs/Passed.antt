-- What an operation knows of two words once the check of them has passed, and what it says from the check's verdict on.
--     accepted_first, accepted_second    two words that their check lets pass are accepted
--     judging                            the ruleset of operations on two words past their check
-- Assumes nothing.
use Rattle.std.specs.Prelude.{ℕ, ◌≡◌, refl, List, [], length, Ok}
use Rattle.std.specs.Prelude.{ℕ, ◌≡◌, refl, List, [], length, Ok}
use Rattle.std.proofs.Common.{rules}
use Rattle.hypoplactic.specs.Words.{Accepted}
use Rattle.outcomes.specs.Replies.{gives, passed, Passes, first}
use Rattle.outcomes.specs.Judgements.{letters_judged}
use Rattle.outcomes.specs.WordOperations.{words_judgements}
use Rattle.outcomes.proofs.Theory.Judged.{word_passing}
use Rattle.outcomes.proofs.Theory.Passing.{passes_nearer}
use Rattle.refusals.specs.Chains.{stops, goes_on}
use Rattle.refusals.specs.Running.{all_passing}

-- Two words that their check lets pass are accepted, each at its rank:
module _ (n : ℕ) (u : List ℕ) (m : ℕ) (v : List ℕ) (e : gives [] ≡ first (words_judgements n u m v) passed) where
  both_accepted : Accepted n u × Accepted m v
  both_accepted =
      let (rank, (rank', (short, (short', (letters, (letters', t)))))) = all_passing {v = Ok tt} (words_judgements n u m v) e refl in
      let inside : Passes (letters_judged m v) = passes_nearer (length u) (letters_judged m v) letters' in
      ((word_passing n u).0 (rank, (short, (letters, tt))), (word_passing m v).0 (rank', (short', (inside, tt))))

  -- the first is,
  pub accepted_first : Accepted n u
  accepted_first = both_accepted.0

  -- and so is the second.
  pub accepted_second : Accepted m v
  accepted_second = both_accepted.1

pub ruleset judging = (stops, goes_on, accepted_first, accepted_second, rules)
