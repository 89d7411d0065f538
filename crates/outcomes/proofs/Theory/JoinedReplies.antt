-- What a move replies to joined words and to their tableaux (beside theorem a).
--     joined_refusal     joined words, accepted or not: made in both, or refused in both with one number; only the place of 4 can differ
--     joined-cell        their tableaux with their counts: one reply, and so one cell, and one tableau left with its counts
-- Assumes nothing.
use Prim.Native.Nat.{ℕ, suc}
use mathlib.Core.Path.{◌≡◌, refl, sym, ap, ◌∙◌, subst}
use mathlib.Core.Logic.{◌↔◌}
use mathlib.Core.Bool.{Bool, true, false}
use mathlib.Core.List.{List, [], ◌∷◌, ◌++◌}
use lib.ListN.{length}
use Rattle.hypoplactic.specs.Rewriting.{Joined}
use Rattle.hypoplactic.specs.Insertion.{letters_of, marks_of}
use Rattle.quasi_crystal.specs.Moves.{Move, inverted, taken}
use Rattle.outcomes.specs.Replies.{Said, gives, refused, Passes, first, refuse_if, OneNumber}
use Rattle.outcomes.specs.Counts.{counts_of}
use Rattle.outcomes.specs.Judgements.{outside, rank_judged, length_judged, letters_from, letters_judged, letter_judged, inversion_judged, index_judged, word_judgements}
use Rattle.outcomes.specs.WordOperations.{move_judgements, move_word_says}
use Rattle.outcomes.specs.TableauOperations.{move_tableau_run}
use Rattle.hypoplactic.proofs.Theory.Contents.{within-counts}
use Rattle.hypoplactic.proofs.Theory.Invariants.{joined_count, joined_inversion, joined_tableau}
use Rattle.hypoplactic.proofs.Theory.Pairs.{length-letters}
use Rattle.hypoplactic.proofs.Theory.Joining.{joined_sym}
use Rattle.outcomes.proofs.Theory.Counts.{counts_same}
use Rattle.outcomes.proofs.Theory.Judgements.{letters-judged}

-- ---- replies of one number

one_same : (s : Said) → OneNumber s s
one_same (gives vs) = tt
one_same (refused k p) = refl

one_equal : {s t : Said} → s ≡ t → OneNumber s t
one_equal {s} e = subst (OneNumber s) e (one_same s)

-- Judgements that agree one by one.
abbrev OneByOne : List Said → List Said → Type 0
OneByOne [] [] = Unit {0}
OneByOne [] (k ∷ ks) = ⊥
OneByOne (j ∷ js) [] = ⊥
OneByOne (j ∷ js) (k ∷ ks) = OneNumber j k × OneByOne js ks

first_one : (js ks : List Said) (a b : Said) → OneByOne js ks → OneNumber a b → OneNumber (first js a) (first ks b)
first_one [] [] a b h e = e
first_one (gives vs ∷ js) (gives us ∷ ks) a b h e = first_one js ks a b h.1 e
first_one (gives vs ∷ js) (refused k p ∷ ks) a b h e = absurd h.0
first_one (refused k p ∷ js) (gives vs ∷ ks) a b h e = absurd h.0
first_one (refused k p ∷ js) (refused i q ∷ ks) a b h e = h.0
first_one [] (_ ∷ ks) a b h e = elim h [ ]
first_one (gives vs ∷ js) [] a b h e = elim h [ ]
first_one (refused k p ∷ js) [] a b h e = elim h [ ]

-- ---- the letters of joined words

-- A refusal, if it is one, has the number k.
abbrev Only : ℕ → Said → Type 0
Only k (gives vs) = Unit {0}
Only k (refused j p) = j ≡ k

only_one : (k : ℕ) (s t : Said) → Only k s → Only k t → (Passes s ↔ Passes t) → OneNumber s t
only_one k (gives vs) (gives us) a b f = tt
only_one k (gives vs) (refused j p) a b f = f.0 tt
only_one k (refused j p) (gives vs) a b f = f.1 tt
only_one k (refused j p) (refused i q) a b f = a ∙ sym b

letters_only : (n i : ℕ) (xs : List ℕ) → Only 4 (letters_from n i xs)
letters_only n i [] = tt
letters_only n i (x ∷ xs) = go (outside n x) (letters_only n (suc i) xs)
  where
    go : (b : Bool) → Only 4 (letters_from n (suc i) xs) → Only 4 (refuse_if b 4 i (letters_from n (suc i) xs))
    go true h = refl
    go false h = h

module _ {u v : List ℕ} (j : Joined u v) where
  letters_one : (n : ℕ) → OneNumber (letters_judged n u) (letters_judged n v)
  unfolding letters_judged
  letters_one n = only_one 4 (letters_judged n u) (letters_judged n v) (letters_only n 0 u) (letters_only n 0 v) (across j, across (joined_sym j))
    where
      across : {s t : List ℕ} → Joined s t → Passes (letters_judged n s) → Passes (letters_judged n t)
      across {s} {t} k h =
          (letters-judged n t).1 ((within-counts n t).1 (λ a c. (within-counts n s).0 ((letters-judged n s).0 h) a (rw (joined_count k a) c)))

  joined_length : length u ≡ length v
  joined_length = sym (length-letters u) ∙ ap length (joined_tableau j).0 ∙ length-letters v

  letter_same : (a : ℕ) → letter_judged a u ≡ letter_judged a v
  unfolding letter_judged
  letter_same a = cc (joined_count j a)

  -- Every move replies to joined words with one number, or refuses neither.
  pub joined_refusal : (n : ℕ) (m : Move) → OneNumber (move_word_says n m u) (move_word_says n m v)
  unfolding move_word_says
  joined_refusal n m =
      first_one (word_judgements n u ++ move_judgements n m (inverted m.index u) u) (word_judgements n v ++ move_judgements n m (inverted m.index v) v)
      _ _ (
        one_same (rank_judged n),
        (
          one_equal (ap length_judged joined_length),
          (
            letters_one n,
            (
              one_same (index_judged n m.index),
              (
                one_equal (ap inversion_judged (joined_inversion j m.index)),
                (one_equal (letter_same (taken m.side m.index)), tt),
              ),
            ),
          ),
        ),
      ) tt

  -- On their tableaux, which are one, it has one reply and changes one cell.
  pub joined-cell : (n : ℕ) (m : Move) → move_tableau_run n m (letters_of u) (marks_of u) (counts_of u) ≡ move_tableau_run n m (letters_of v) (marks_of v) (counts_of v)
  joined-cell n m = rw ((joined_tableau j).0, (joined_tableau j).1, counts_same u v (joined_count j))
