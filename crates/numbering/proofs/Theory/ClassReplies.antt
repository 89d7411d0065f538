-- Sizes and numbers of classes over what the operations reply and leave in lent memory.
--     small-judged, number-judged     15 and 16 pass exactly for at most 20, and for numbers below the size
--     class_passing           1 to 6, 17 and 15 pass exactly for a tableau within the limits with true letter counts, of at most 20 cells
--     size_result, word_result, number_result      an input within the limits gets its result
--     word_length             the word of a number has as many letters as the tableau cells
--     Written, word_written   a word that was written keeps all limits, and is there
--     number_of_written       the number of the word that class_word has written is the number asked for
--     word_of_told            the word of the number that class_number told is the word
-- The last three of any input that is not refused. That a refusal leaves lent memory as it was is refused_keeps of outcomes, Theory.Passing.
-- Assumes nothing.
use Prim.Native.Nat.{ℕ, ◌≤◌, ◌<◌}
use native.Mathlib.Omega.{arith}
use mathlib.Core.Path.{◌≡◌, sym, ap, ap₂, subst, ◌∙◌}
use mathlib.Core.Logic.{◌↔◌}
use mathlib.Core.List.{List, [], ◌∷◌, ◌++◌}
use lib.Dec.{leb, ltb}
use lib.ListN.{length, take, get_or}
use borrow.Author.Tests.{le-ltb, ltb-false, lt-leb, leb-false}
use Rattle.hypoplactic.specs.Words.{Accepted}
use Rattle.hypoplactic.specs.Ribbons.{TableauAt}
use Rattle.hypoplactic.specs.Insertion.{letters_of, marks_of}
use Rattle.outcomes.specs.Replies.{Passes, Said, gives, refused, written}
use Rattle.outcomes.specs.Counts.{TrueCounts, counts_of}
use Rattle.outcomes.specs.Judgements.{counted_judgements, room_judged, word_judgements}
use Rattle.quasi_crystal.proofs.Theory.Closure.{word_tableau_at}
use Rattle.outcomes.proofs.Theory.Counts.{letters-true}
use Rattle.outcomes.proofs.Theory.Judged.{counted_passing, word_passing}
use Rattle.outcomes.proofs.Theory.Judgements.{room_judged_lem}
use Rattle.outcomes.proofs.Theory.Memory.{written_needed}
use Rattle.hypoplactic.proofs.Theory.Pairs.{length-letters}
use Rattle.outcomes.proofs.Theory.Passing.{Passing, first_answer, first-both, passes_test, passing_append, passing_first, ran_answer}
use Rattle.numbering.specs.Dictionary.{class_number, class_size, class_word}
use Rattle.numbering.specs.Operations.{class_judgements, class_number_says, class_size_says, class_word_run, class_word_says, number_judged, small_judged}
use Rattle.numbering.proofs.Theory.ClassNumbers.{class_members, class_within, number_of_word, word_of-number}
use Rattle.numbering.proofs.Theory.Numbers.{number-below}

-- ---- the two judgements

pub small-judged : (L : ℕ) → Passes (small_judged L) ↔ (L ≤ 20)
unfolding small_judged
small-judged L = passes_test (ltb 20 L) 15 0 (λ e. ltb-false 20 L e, λ l. le-ltb 20 L l)

pub number-judged : (k size : ℕ) → Passes (number_judged k size) ↔ (k < size)
unfolding number_judged
number-judged k size = passes_test (leb size k) 16 0 (λ e. leb-false size k e, λ l. lt-leb size k l)

-- ---- results

module _ (n : ℕ) (xs ms cs : List ℕ) where
  -- 1 to 6, 17 and 15 refuse nothing: a tableau within the limits with true counts, of at most 20 cells.
  pub class_passing : Passing (class_judgements n xs ms cs) ↔ (TableauAt n xs ms × TrueCounts xs cs × (length xs ≤ 20))
  class_passing =
      let p = passing_append (counted_judgements n xs ms cs) (small_judged (length xs) ∷ []) in
      let c = counted_passing n xs ms cs in (
        λ h. ((c.0 (p.0 h).0).0, (c.0 (p.0 h).0).1, (small-judged (length xs)).0 (p.0 h).1.0),
        λ h. p.1 (c.1 (h.0, h.1), ((small-judged (length xs)).1 h.2, tt)),
      )

  pub size_result : TableauAt n xs ms → TrueCounts xs cs → length xs ≤ 20 → class_size_says n xs ms cs ≡ gives (class_size n xs ms ∷ [])
  unfolding class_size_says
  size_result h c l = first_answer (class_judgements n xs ms cs) _ (class_passing.1 (h, c, l))

  pub word_result : (k : ℕ) (out : List ℕ) → TableauAt n xs ms → TrueCounts xs cs → length xs ≤ 20 → k < class_size n xs ms → length xs ≤ length out
      → class_word_run n xs ms cs k out ≡ (gives (length xs ∷ []), written (class_word n xs ms k) out)
  unfolding class_word_run class_word_says
  word_result k out h c l b r =
      ran_answer (class_judgements n xs ms cs) (number_judged k (class_size n xs ms) ∷ room_judged (length xs) (length out) ∷ []) _ _ _
      (class_passing.1 (h, c, l)) ((number-judged k (class_size n xs ms)).1 b, ((room_judged_lem _ _).1 r, tt))

pub number_result : (n : ℕ) (w : List ℕ) → Accepted n w → length w ≤ 20 → class_number_says n w ≡ gives (class_number n w ∷ [])
unfolding class_number_says
number_result n w h l = first-both (word_judgements n w) (small_judged (length w) ∷ []) _ ((word_passing n w).1 h) ((small-judged (length w)).1 l, tt)

-- ---- there and back

-- The word of a number has as many letters as the tableau cells.
pub word_length : (n : ℕ) (xs ms : List ℕ) (k : ℕ) → k < class_size n xs ms → length (class_word n xs ms k) ≡ length xs
word_length n xs ms k l = sym (length-letters (class_word n xs ms k)) ∙ ap length (class_members n xs ms k l).0

-- A word is written: so all limits are kept, the counts are true, and the word is there.
pub record Written (n : ℕ) (xs ms cs : List ℕ) (k : ℕ) (left : List ℕ) : Type 0 where
  pub tableau : TableauAt n xs ms
  pub counts : TrueCounts xs cs
  pub small : length xs ≤ 20
  pub below : k < class_size n xs ms
  pub word : take (length xs) left ≡ class_word n xs ms k

pub word_written : (n : ℕ) (xs ms cs : List ℕ) (k : ℕ) (out : List ℕ) → Passes (class_word_run n xs ms cs k out).0
    → Written n xs ms cs k (class_word_run n xs ms cs k out).1
unfolding class_word_run class_word_says
word_written n xs ms cs k out p =
    let checks : List Said = number_judged k (class_size n xs ms) ∷ room_judged (length xs) (length out) ∷ [] in
    let all = (passing_append (class_judgements n xs ms cs) checks).0 (passing_first (class_judgements n xs ms cs ++ checks) (length xs ∷ []) p) in
    let limits : TableauAt n xs ms × TrueCounts xs cs × (length xs ≤ 20) = (class_passing n xs ms cs).0 all.0 in
    let (number, (room, t)) = all.1 in
    let b : k < class_size n xs ms = (number-judged k (class_size n xs ms)).0 number in
    let run : class_word_run n xs ms cs k out ≡ (gives (length xs ∷ []), written (class_word n xs ms k) out)
    = word_result n xs ms cs k out limits.0 limits.1 limits.2 b ((room_judged_lem _ _).0 room) in
    record {
      tableau = limits.0;
      counts = limits.1;
      small = limits.2;
      below = b;
      word =
          ap₂ take (sym (word_length n xs ms k b)) (ap (λ (r : Said × List ℕ). r.1) run)
          ∙ written_needed (class_word n xs ms k) out;
    }

-- The number of the word that was written is the number asked for.
pub number_of_written : (n : ℕ) (xs ms cs : List ℕ) (k : ℕ) (out : List ℕ) → Passes (class_word_run n xs ms cs k out).0
    → class_number_says n (take (length xs) (class_word_run n xs ms cs k out).1) ≡ gives (k ∷ [])
number_of_written n xs ms cs k out p =
    let h : Written n xs ms cs k (class_word_run n xs ms cs k out).1 = word_written n xs ms cs k out p in
    let w : List ℕ = class_word n xs ms k in
    let size : length w ≡ length xs = word_length n xs ms k h.below in
    let accepted : Accepted n w = record {
      rank_low = h.tableau.word.rank_low;
      rank_high = h.tableau.word.rank_high;
      short = omega (arith, size, h.small);
      letters = class_within n xs ms k h.below;
    } in
    ap (class_number_says n) h.word ∙ number_result n w accepted (omega (arith, size, h.small))
    ∙ ap (λ (j : ℕ). gives (j ∷ [])) (number_of_word n xs ms k h.below)

-- A number is told of an accepted word of at most 20 letters.
number_told : (n : ℕ) (w : List ℕ) → Passes (class_number_says n w) → Accepted n w × (length w ≤ 20)
unfolding class_number_says
number_told n w p =
    let (word, (small, t)) = (passing_append (word_judgements n w) (small_judged (length w) ∷ [])).0
    (passing_first (word_judgements n w ++ (small_judged (length w) ∷ [])) _ p) in
    ((word_passing n w).0 word, (small-judged (length w)).0 small)

-- The first value of a reply.
value : Said → ℕ
value (gives vs) = get_or vs 0 0
value (refused k p) = 0

-- The word of the number that was told, of the word's tableau with its counts, is the word.
pub word_of_told : (n : ℕ) (w : List ℕ) (k : ℕ) (out : List ℕ) → class_number_says n w ≡ gives (k ∷ []) → length w ≤ length out
    → class_word_run n (letters_of w) (marks_of w) (counts_of w) k out ≡ (gives (length w ∷ []), written w out)
unfolding value
word_of_told n w k out e r =
    let told : Accepted n w × (length w ≤ 20) = number_told n w (subst Passes (sym e) tt) in
    let same : class_number n w ≡ k = ap value (sym (number_result n w told.0 told.1) ∙ e) in
    let cells : length (letters_of w) ≡ length w = length-letters w in
    let run = word_result n (letters_of w) (marks_of w) (counts_of w) (class_number n w) out (word_tableau_at told.0) (letters-true w)
    (omega (arith, cells, told.1)) (number-below n w told.0.letters) (omega (arith, cells, r)) in
    ap (λ (j : ℕ). class_word_run n (letters_of w) (marks_of w) (counts_of w) j out) (sym same) ∙ run
    ∙ ap₂ (λ (l : ℕ) (v : List ℕ). (gives (l ∷ []), written v out)) cells (word_of-number n w told.0.letters)
