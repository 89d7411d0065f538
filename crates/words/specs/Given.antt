-- What a word gives to the crates above: its letter counts and its junction set, and 0 in their place where the word is refused.
--     count_given n w a                  how often a stands in the word w of rank n
--     junction_given n w                 its junction set
--     refused_counts, passed-counts     the table of a refused word and of an accepted one
--     refused_set, passed-set           the same of the set
--     accepted_counts, accepted_set     of an accepted word they are the counts and the set themselves; accepted_true: true counts
--     counts-given                      and no other 64 numbers are the counts
--     giving                            the ruleset of both
-- Assumes nothing.
use Rattle.std.specs.Prelude.{Result, Ok, Err}
use Rattle.std.specs.Prelude.{ℕ, ◌≤◌, ◌≡◌, refl, List, length, replicate}
use Rattle.std.proofs.Common.{sym, ap, ◌∙◌, rules}
use Rattle.std.proofs.Math.ListN.{get_or-replicate}
use Rattle.hypoplactic.specs.Words.{Accepted, Within, count}
use Rattle.outcomes.specs.Counts.{TrueCounts, counts_of}
use Rattle.hypoplactic.specs.Junctions.{junction_set}
use Rattle.outcomes.specs.Replies.{Said, passed, first, after}
use Rattle.outcomes.specs.Judgements.{word_judgements}
use Rattle.outcomes.proofs.Theory.Counts.{counts_whole}
use Rattle.outcomes.proofs.Theory.Judged.{word_judged}
use Rattle.hypoplactic.proofs.Theory.Limits.{accepted_within}
use Rattle.refusals.specs.declared.refusal.Refusal.{Refusal}
use Rattle.refusals.specs.Said.{said_verdict}
use Rattle.acceptance.specs.Passed.{accepted_word}
use Rattle.words.specs.Tables.{Table, Counts, true_counts}

-- A number of an accepted word, 0 of a refused one.
abbrev given : ℕ → List ℕ → ℕ → ℕ
given n w k = after (first (word_judgements n w) passed) k 0

unfoldable pub count_given : ℕ → List ℕ → ℕ → ℕ
count_given n w a = given n w (count a w)

unfoldable pub junction_given : ℕ → List ℕ → ℕ
junction_given n w = given n w (junction_set w)

-- By the verdict on the word.
module _ {v : Result (Unit {0}) Refusal} (n : ℕ) (w : List ℕ) (e : said_verdict v ≡ first (word_judgements n w) passed) where
  said : (u : Result (Unit {0}) Refusal) → v ≡ u → (k : ℕ) → after (said_verdict u) k 0 ≡ given n w k
  said u q k = ap (λ (s : Said). after s k 0) (ap said_verdict (sym q) ∙ e)

  -- What counting an accepted word asks.
  pub passed-within : v ≡ Ok tt → Within 64 w
  passed-within q = accepted_within (accepted_word n w e q)

  pub passed-short : v ≡ Ok tt → length w ≤ 1024
  passed-short q = (accepted_word n w e q).short

  pub refused_counts : (r : Refusal) → v ≡ Err r → Table (count_given n w) (replicate 64 0)
  unfolding count_given
  refused_counts r q = record { size = refl; entry = λ j l. get_or-replicate {A = ℕ} 64 j 0 0 l ∙ said (Err r) q _ }

  pub passed-counts : (xs : List ℕ) → v ≡ Ok tt → Counts w xs → Table (count_given n w) xs
  unfolding count_given
  passed-counts xs q t = record { size = t.size; entry = λ j l. t.entry j l ∙ said (Ok tt) q _ }

  pub refused_set : (r : Refusal) → v ≡ Err r → 0 ≡ junction_given n w
  unfolding junction_given
  refused_set r q = said (Err r) q (junction_set w)

  pub passed-set : (s : ℕ) → v ≡ Ok tt → s ≡ junction_set w → s ≡ junction_given n w
  unfolding junction_given
  passed-set s q h = h ∙ said (Ok tt) q (junction_set w)

-- Of an accepted word.
module _ {n : ℕ} {w : List ℕ} (h : Accepted n w) where
  told : (k : ℕ) → given n w k ≡ k
  told k = ap (λ (s : Said). after s k 0) ((word_judged n w).1 h)

  pub accepted_counts : {xs : List ℕ} → Table (count_given n w) xs → Counts w xs
  unfolding count_given
  accepted_counts t = record { size = t.size; entry = λ j l. t.entry j l ∙ told _ }

  pub accepted_true : {xs : List ℕ} → Table (count_given n w) xs → TrueCounts w xs
  accepted_true t = true_counts (accepted_counts t)

  pub counts-given : {xs : List ℕ} → Table (count_given n w) xs → xs ≡ counts_of w
  counts-given {xs} t = counts_whole w xs t.size (accepted_true t)

  pub accepted_set : {s : ℕ} → s ≡ junction_given n w → s ≡ junction_set w
  unfolding junction_given
  accepted_set e = e ∙ told _

pub ruleset giving = (accepted_word, passed-within, passed-short, refused_counts, passed-counts, refused_set, passed-set, rules)
