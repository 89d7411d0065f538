-- Operations that write into lent memory: what they reply, and what memory then holds, from the verdict of their checks on.
--     checks_then js ks             what the checks of an input say, and then those of the room that its outputs have
--     stops_there, goes_further    what they say from the verdict of the first alone
--     all_passing, then_passing    where the verdict of checks passes, all of them do
--     run-stopped                  where it refuses, memory is as it was, whatever checks follow
--     run_refused, run_passed      a refusal, and memory is as it was; or the values, and memory is the new one
--     written_part                 a list that holds values at its beginning, and then more values in the part straight after them
--     written_element              the same with one value more
-- Assumes nothing.
use Rattle.std.specs.Prelude.{ℕ, suc, ◌+◌, ◌<◌, ◌≡◌, List, [], ◌∷◌, ◌++◌, length, drop, set, Result, Ok, Err}
use Rattle.std.proofs.Math.Path.{sym}
use Rattle.std.proofs.Common.{ap, ◌∙◌, append_assoc, arith, length-append, drop-drop, drop-cons}
use Rattle.std.proofs.Math.Seq.{take-append_seam, drop-append_seam, set-append_seam, append_snoc}
use borrow.Rule.Slice.PartMut.{put_mid}
use Rattle.outcomes.specs.Replies.{Said, gives, passed, or_else, first, ran_to, written}
use Rattle.outcomes.proofs.Theory.Passing.{Passing, first-append, first_else, first-passed}
use Rattle.refusals.specs.Chains.{goes_on, stops}
use Rattle.refusals.specs.Said.{said_refusal, said_verdict}
use Rattle.refusals.specs.declared.refusal.Refusal.{Refusal}

-- What the checks js of an input say, and then the checks ks of what it is for.
unfoldable pub checks_then : List Said → List Said → Said
checks_then js ks = first (js ++ ks) passed

-- By the verdict of the first checks alone: it refuses, or the others decide.
module _ {v : Result (Unit {0}) Refusal} (js : List Said) (e : said_verdict v ≡ first js passed) where
  pub stops_there : (ks : List Said) (r : Refusal) → v ≡ Err r → said_refusal r ≡ checks_then js ks
  unfolding checks_then
  stops_there ks r q = stops r (first js passed) (first ks passed) e q ∙ sym (first-append js ks passed)

  pub goes_further : {s : Said} (ks ls : List Said) → v ≡ Ok tt → s ≡ checks_then ks ls → s ≡ checks_then js (ks ++ ls)
  unfolding checks_then
  goes_further ks ls q h = goes_on (first js passed) (first (ks ++ ls) passed) e q h ∙ sym (first-append js (ks ++ ls) passed)

-- Checks whose verdict passes refuse nothing.
pub all_passing : {v : Result (Unit {0}) Refusal} (js : List Said) → said_verdict v ≡ first js passed → v ≡ Ok tt → Passing js
all_passing js e q = (first-passed js).0 (sym e ∙ ap said_verdict q)

-- Where they refuse, memory is as it was, whatever checks follow.
pub run-stopped : {A : Type 0} {v : Result (Unit {0}) Refusal} (js ks : List Said) (vs : List ℕ) (new old : A) (r : Refusal) → said_verdict v ≡ first js passed → v ≡ Err r
    → (said_refusal r, old) ≡ ran_to (first (js ++ ks) (gives vs)) new old
run-stopped js ks vs new old r e q = rw (first-append js ks (gives vs), ← e, q)

-- All of two lists pass.
both_passing : (js ks : List Said) → Passing (js ++ ks) → Passing js × Passing ks
both_passing [] ks p = (tt, p)
both_passing (j ∷ js) ks p = let rest : Passing js × Passing ks = both_passing js ks p.1 in ((p.0, rest.0), rest.1)

-- What is said and done past a verdict.
run_by : {A : Type 0} (v : Result (Unit {0}) Refusal) (js : List Said) (vs : List ℕ) (new old : A) → said_verdict v ≡ first js passed
    → ran_to (first js (gives vs)) new old ≡ ran_to (or_else (said_verdict v) (gives vs)) new old
run_by v js vs new old e = ap (λ (s : Said). ran_to s new old) (sym (first_else js (gives vs)) ∙ ap (λ (s : Said). or_else s (gives vs)) (sym e))

-- The verdict of all checks is v.
module _ {v : Result (Unit {0}) Refusal} (js ks : List Said) (e : said_verdict v ≡ checks_then js ks) where
  -- Where it is no refusal, none of them refuses.
  pub then_passing : v ≡ Ok tt → Passing js × Passing ks
  unfolding checks_then
  then_passing q = both_passing js ks (all_passing (js ++ ks) e q)

  -- Without a refusal the values vs are given, and memory is new; else it is as it was.
  module _ {A : Type 0} (vs : List ℕ) (new old : A) where
    pub run_refused : (r : Refusal) → v ≡ Err r → (said_refusal r, old) ≡ ran_to (first (js ++ ks) (gives vs)) new old
    unfolding checks_then
    run_refused r q = sym (run_by v (js ++ ks) vs new old e ∙ rw q)

    pub run_passed : (now : A) → v ≡ Ok tt → now ≡ new → (gives vs, now) ≡ ran_to (first (js ++ ks) (gives vs)) new old
    unfolding checks_then
    run_passed now q h = sym (run_by v (js ++ ks) vs new old e ∙ rw (q, ← h))

-- ---- lists written from the front

module _ (vs old : List ℕ) where
  pub written_part : (c : ℕ) (ys : List ℕ) → length ys ≡ c → put_mid (length vs) c (written vs old) ys ≡ written (vs ++ ys) old
  written_part c ys e =
      let size : length (vs ++ ys) ≡ length vs + c = length-append vs ys ∙ rw e in
      rw (take-append_seam vs (drop (length vs) old), drop-append_seam vs (drop (length vs) old), drop-drop c (length vs) old, size) (sym (append_assoc vs ys _))

  pub written_element : (k v : ℕ) → length vs ≡ k → k < length old → set (written vs old) k v ≡ written (vs ++ (v ∷ [])) old
  written_element k v e l =
      let size : length (vs ++ (v ∷ [])) ≡ suc (length vs) = omega (arith, length-append vs (v ∷ [])) in
      let more : length vs < length old = omega arith in
      rw (← e, drop-cons old (length vs) 0 more, size, set-append_seam vs _ (drop (suc (length vs)) old) v) (sym (append_snoc vs v _))
