-- Chains of checks: what a chain says from the verdicts of its checks.
--     stops, goes_on      an operation whose checks refuse says so; one whose checks pass says what follows
--     refuses, passes     what one verdict or else another says
--     chained             a check and then a chain; chained_two, chained_three: a group of checks and then a chain
--     ends                the last check
--     chaining            the ruleset of chains
-- Assumes nothing.
use Rattle.std.specs.Prelude.{◌≡◌, refl, [], Result, Ok, Err}
use Rattle.std.proofs.Common.{ap, ◌∙◌, rules}
use Rattle.outcomes.specs.Replies.{Said, gives, refused, passed, or_else}
use Rattle.refusals.specs.declared.refusal.Refusal.{Refusal}
use Rattle.refusals.specs.Said.{said_refusal, said_verdict}

pub stops : {v : Result (Unit {0}) Refusal} (r : Refusal) (j s : Said) → said_verdict v ≡ j → v ≡ Err r → said_refusal r ≡ or_else j s
stops {v} r j s e q = rw (← e, q)

pub goes_on : {v : Result (Unit {0}) Refusal} {r : Said} (j s : Said) → said_verdict v ≡ j → v ≡ Ok tt → r ≡ s → r ≡ or_else j s
goes_on {v} j s e q h = rw (← e, q) h

-- ---- checks passed on one by one: a refusal is that of the chain, and past a check that passes the others decide

pub halts : {j : Said} (r : Refusal) (s : Said) → said_refusal r ≡ j → said_refusal r ≡ or_else j s
halts r s e = rw (← e)

pub proceeds : {j t s : Said} → gives [] ≡ j → t ≡ s → t ≡ or_else j s
proceeds e h = rw (← e) h

last : (v : Result (Unit {0}) Refusal) → said_verdict v ≡ or_else (said_verdict v) passed
last (Ok u) = refl
last (Err r) = refl

pub ends : (v : Result (Unit {0}) Refusal) (j : Said) → said_verdict v ≡ j → said_verdict v ≡ or_else j passed
ends v j e = last v ∙ ap (λ (s : Said). or_else s passed) e

-- ---- chains of verdicts

pub refuses : {v : Result (Unit {0}) Refusal} {r : Refusal} (w : Result (Unit {0}) Refusal) → v ≡ Err r → said_refusal r ≡ or_else (said_verdict v) (said_verdict w)
refuses w e = rw e

pub passes : {v : Result (Unit {0}) Refusal} (w : Result (Unit {0}) Refusal) → v ≡ Ok tt → said_verdict w ≡ or_else (said_verdict v) (said_verdict w)
passes w e = rw e

joins_two : (j k s : Said) → or_else (or_else j (or_else k passed)) s ≡ or_else j (or_else k s)
joins_two (gives vs) (gives us) s = refl
joins_two (gives vs) (refused n p) s = refl
joins_two (refused n p) k s = refl

joins_three : (i j k s : Said) → or_else (or_else i (or_else j (or_else k passed))) s ≡ or_else i (or_else j (or_else k s))
joins_three (gives vs) j k s = joins_two j k s
joins_three (refused n p) j k s = refl

-- The verdict t is that of u or else that of v.
module _ (t u v : Result (Unit {0}) Refusal) (e : said_verdict t ≡ or_else (said_verdict u) (said_verdict v)) where
  pub chained : (j s : Said) → said_verdict u ≡ j → said_verdict v ≡ s → said_verdict t ≡ or_else j s
  chained j s f g = rw (← f, ← g) e

  pub chained_two : (j k s : Said) → said_verdict u ≡ or_else j (or_else k passed) → said_verdict v ≡ s → said_verdict t ≡ or_else j (or_else k s)
  chained_two j k s f g = chained (or_else j (or_else k passed)) s f g ∙ joins_two j k s

  pub chained_three : (i j k s : Said) → said_verdict u ≡ or_else i (or_else j (or_else k passed)) → said_verdict v ≡ s
      → said_verdict t ≡ or_else i (or_else j (or_else k s))
  chained_three i j k s f g = chained (or_else i (or_else j (or_else k passed))) s f g ∙ joins_three i j k s

pub ruleset chaining = (halts, proceeds, refuses, passes, ends, chained, chained_two, chained_three, rules)
