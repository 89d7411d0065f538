-- What an operation knows of its input once the check of it has passed, and what it says from the check's verdict on.
--     accepted_word, passed_word     a word that its check lets pass is accepted, by the check's answer, and by what that says
--     judging           the ruleset of operations past their check
-- Assumes nothing.
use Rattle.std.specs.Prelude.{Result, Ok}
use Rattle.refusals.specs.declared.refusal.Refusal.{Refusal}
use Rattle.std.specs.Prelude.{ℕ, ◌≡◌, List, []}
use Rattle.std.proofs.Common.{sym, ap, ◌∙◌, rules}
use Rattle.hypoplactic.specs.Words.{Accepted}
use Rattle.outcomes.specs.Replies.{gives, passed, first}
use Rattle.outcomes.specs.Judgements.{word_judgements}
use Rattle.outcomes.proofs.Theory.Judged.{word_judged}
use Rattle.refusals.specs.Chains.{stops, goes_on}
use Rattle.refusals.specs.Said.{said_verdict}

-- A word that its check lets pass is accepted.
pub accepted_word : {v : Result (Unit {0}) Refusal} (n : ℕ) (w : List ℕ) → said_verdict v ≡ first (word_judgements n w) passed → v ≡ Ok tt → Accepted n w
accepted_word n w e q = (word_judged n w).0 (sym e ∙ ap said_verdict q)

pub passed_word : (n : ℕ) (w : List ℕ) → gives [] ≡ first (word_judgements n w) passed → Accepted n w
passed_word n w e = (word_judged n w).0 (sym e)

pub ruleset judging = (stops, goes_on, accepted_word, passed_word, rules)
