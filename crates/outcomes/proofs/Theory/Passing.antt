-- Chains of judgements: when all of them pass, and what is then replied.
--     Passing js           no judgement of the list refuses
--     passing_append       two lists pass exactly when both do
--     first-passed         the chain replies passed exactly when none refuses
--     first_answer         where none refuses, the reply is the answer
--     passing_first        where values are the reply, none refuses; passing_before: none of the first, with others after them
--     first-append         a chain may be cut anywhere
--     first_else           what a chain says before an answer, from what it says alone
--     first_past           what a chain says past judgements that refuse nothing; first-both past all of two lists
--     passes_then          a test and the rest pass exactly when the facts of both hold
--     passes_test          a single test passes exactly when its fact holds
--     passes-further       a refusal's place is no reason to refuse; passes_nearer: nor not to
--     ran_answer           where none refuses, lent memory is changed
--     refused_keeps        a refusal changes no lent memory
-- Assumes nothing.
use Prim.Native.Nat.{ℕ}
use mathlib.Core.Path.{◌≡◌, refl, sym, subst, ◌∙◌}
use mathlib.Core.Bool.{Bool, true, false, true≢false}
use mathlib.Core.List.{List, [], ◌∷◌, ◌++◌}
use mathlib.Core.Logic.{◌↔◌}
use Rattle.outcomes.specs.Replies.{Said, gives, refused, passed, Passes, or_else, first, refuse_if, count_on, ran_to}

-- No refusal in the list.
abbrev pub Passing : List Said → Type 0
Passing [] = Unit {0}
Passing (j ∷ js) = Passes j × Passing js

-- Two lists, one after the other.
pub passing_append : (js ks : List Said) → Passing (js ++ ks) ↔ (Passing js × Passing ks)
passing_append [] ks = (λ p. (tt, p), λ p. p.1)
passing_append (j ∷ js) ks =
    let r = passing_append js ks in
    (λ p. ((p.0, (r.0 p.1).0), (r.0 p.1).1), λ p. (p.0.0, r.1 (p.0.1, p.1)))

-- Where no judgement refuses, the reply is the answer.
pub first_answer : (js : List Said) (a : Said) → Passing js → first js a ≡ a
first_answer [] a p = refl
first_answer (gives vs ∷ js) a p = first_answer js a p.1
first_answer (refused k i ∷ js) a p = absurd p.0

-- Where values are the reply, no judgement refuses.
pub passing_first : (js : List Said) (vs : List ℕ) → Passes (first js (gives vs)) → Passing js
passing_first [] vs p = tt
passing_first (gives us ∷ js) vs p = (tt, passing_first js vs p)
passing_first (refused k i ∷ js) vs p = absurd p

-- nor does one of the first, with others after them.
pub passing_before : (js ks : List Said) (vs : List ℕ) → Passes (first (js ++ ks) (gives vs)) → Passing js
passing_before [] ks vs p = tt
passing_before (gives us ∷ js) ks vs p = (tt, passing_before js ks vs p)
passing_before (refused k i ∷ js) ks vs p = absurd p

-- The chain replies passed exactly when no judgement refuses.
pub first-passed : (js : List Said) → (first js passed ≡ passed) ↔ Passing js
first-passed js = (λ e. passing_first js [] (subst Passes (sym e) tt), first_answer js passed)

-- A chain may be cut anywhere: what the first part refuses, else what the second says.
pub first-append : (js ks : List Said) (a : Said) → first (js ++ ks) a ≡ or_else (first js passed) (first ks a)
first-append [] ks a = refl
first-append (gives vs ∷ js) ks a = first-append js ks a
first-append (refused k i ∷ js) ks a = refl

-- What a chain says before an answer is what it says alone, or else the answer.
pub first_else : (js : List Said) (a : Said) → or_else (first js passed) a ≡ first js a
first_else [] a = refl
first_else (gives vs ∷ js) a = first_else js a
first_else (refused k i ∷ js) a = refl

-- Past judgements that refuse nothing the chain goes on,
pub first_past : (js ks : List Said) (a : Said) → Passing js → first (js ++ ks) a ≡ first ks a
first_past js ks a p = rw (first-append js ks a, first_answer js passed p)

-- and past all of two lists the reply is the answer.
pub first-both : (js ks : List Said) (a : Said) → Passing js → Passing ks → first (js ++ ks) a ≡ a
first-both js ks a p q = first_past js ks a p ∙ first_answer ks a q

-- A test and then the rest: both facts.
pub passes_then : {P Q : Type 0} (b : Bool) (k i : ℕ) (s : Said) → ((b ≡ false) ↔ P) → Passes s ↔ Q → Passes (refuse_if b k i s) ↔ (P × Q)
passes_then true k i s p q = (λ r. absurd r, λ r. true≢false (p.1 r.0))
passes_then false k i s p q = (λ r. (p.0 refl, q.0 r), λ r. q.1 r.1)

-- A single test: its fact.
pub passes_test : {P : Type 0} (b : Bool) (k i : ℕ) → ((b ≡ false) ↔ P) → Passes (refuse_if b k i passed) ↔ P
passes_test true k i p = (λ r. absurd r, λ r. true≢false (p.1 r))
passes_test false k i p = (λ r. p.0 refl, λ r. tt)

-- Counting a refusal's place on refuses nothing,
pub passes-further : (k : ℕ) (s : Said) → Passes s → Passes (count_on k s)
passes-further k (gives vs) p = tt
passes-further k (refused j i) p = p

-- nor does counting it back.
pub passes_nearer : (k : ℕ) (s : Said) → Passes (count_on k s) → Passes s
passes_nearer k (gives vs) p = tt
passes_nearer k (refused j i) p = p

-- Where no judgement refuses, the values are given and lent memory is the new one.
pub ran_answer : {A : Type 0} (js ks : List Said) (vs : List ℕ) (new old : A) → Passing js → Passing ks → ran_to (first (js ++ ks) (gives vs)) new old ≡ (gives vs, new)
ran_answer js ks vs new old p q = rw (first-both js ks (gives vs) p q)

-- A refusal changes no lent memory.
pub refused_keeps : {A : Type 0} (s : Said) (k i : ℕ) (new old : A) → s ≡ refused k i → ran_to s new old ≡ (refused k i, old)
refused_keeps s k i new old e = rw e
