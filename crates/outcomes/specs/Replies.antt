-- What an operation replies, in document 01's own numbers, and what lent memory holds afterwards ("Returned instead of a result").
--     Said             the values that an operation gives, or a refusal's number and place
--     Passes s         s is no refusal
--     first js a       the first refusal of a list of judgements, else the answer a
--     count_on k s      the same refusal k places further on: places in a second word count on from the first's length
--     written vs old   a lent list with values at its beginning: elements beyond those needed keep their values
--     OneNumber s t    both give values, or both refuse with one number
--     ran_to s new old  the reply s beside lent memory: new where values are given, old where refused
-- Assumes nothing.
use Rattle.std.specs.Prelude.{ℕ, ◌+◌, ◌≡◌, List, [], ◌∷◌, ◌++◌, Bool, true, false, length, drop}

pub data Said : Type 0 where
  gives : List ℕ → Said
  refused : ℕ → ℕ → Said

-- A judgement that refuses nothing.
abbrev pub passed : Said
passed = gives []

-- No refusal.
abbrev pub Passes : Said → Type 0
Passes (gives vs) = Unit {0}
Passes (refused k p) = ⊥

-- What the first says if it refuses, else what the second says.
abbrev pub or_else : Said → Said → Said
or_else (gives vs) s = s
or_else (refused k p) s = refused k p

-- Checks run in order, each over the whole input; the first refusal is the reply.
abbrev pub first : List Said → Said → Said
first [] answer = answer
first (j ∷ js) answer = or_else j (first js answer)

-- A refusal where the test passes, else what is said further on.
abbrev pub refuse_if : Bool → ℕ → ℕ → Said → Said
refuse_if true k p s = refused k p
refuse_if false k p s = s

abbrev pub count_on : ℕ → Said → Said
count_on k (gives vs) = gives vs
count_on k (refused j p) = refused j (k + p)

abbrev pub written : List ℕ → List ℕ → List ℕ
written vs old = vs ++ drop (length vs) old

-- Lent memory after a reply.
abbrev pub after : {A : Type 0} → Said → A → A → A
after (gives vs) new old = new
after (refused k p) new old = old

abbrev pub ran_to : {A : Type 0} → Said → A → A → Said × A
ran_to s new old = (s, after s new old)

-- Two replies agree on whether, and with which number, they refuse.
abbrev pub OneNumber : Said → Said → Type 0
OneNumber (gives vs) (gives us) = Unit {0}
OneNumber (gives vs) (refused k p) = ⊥
OneNumber (refused k p) (gives vs) = ⊥
OneNumber (refused k p) (refused j q) = k ≡ j
