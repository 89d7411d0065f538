-- What the operations on the words of a class reply, from what their checks say on.
--     size_refused, size_told          the size of a tableau's class
--     word_stopped, word_refused, word_told      a word of it: the tableau, or the number or the room, is refused; the word is written
--     number_refused, number_told      the number of a word
--     sizing, wording, telling         the rulesets of the three operations
-- Assumes nothing.
use Rattle.std.specs.Prelude.{Ok, Err}
use Rattle.std.specs.Prelude.{ℕ, ◌≤◌, ◌≡◌, length, set}
use Rattle.std.proofs.Math.Path.{refl, sym, ap}
use Rattle.std.proofs.Common.{ap₂, ◌∙◌, rules}
use mathlib.Core.List.{List, [], ◌∷◌, ◌++◌}
use native.Mathlib.Omega.{arith}
use Rattle.std.proofs.Math.ListN.{take}
use Rattle.hypoplactic.specs.Words.{Accepted}
use Rattle.hypoplactic.specs.Ribbons.{Tableau, TableauAt}
use Rattle.hypoplactic.specs.Insertion.{Pair, letters_of, marks_of, pair_of, pair_with}
use Rattle.outcomes.specs.Replies.{Said, first, gives, passed, ran_to, written}
use Rattle.outcomes.specs.Judgements.{counted_judgements, room_judged, word_judgements}
use Rattle.outcomes.specs.TableauOperations.{pair_run, written_pair}
use Rattle.outcomes.proofs.Theory.Judged.{counted_passing, word_passing}
use Rattle.outcomes.proofs.Theory.Judgements.{alike-judged, room_judged_lem}
use Rattle.outcomes.proofs.Theory.Memory.{written_needed}
use Rattle.hypoplactic.proofs.Theory.Pairs.{length-letters, length-marks}
use Rattle.outcomes.proofs.Theory.Passing.{Passing, first_else, first_past, ran_answer}
use Rattle.outcomes.proofs.Theory.Results.{pair_result}
use Rattle.numbering.specs.Dictionary.{class_number, class_size, class_word}
use Rattle.numbering.specs.Operations.{class_judgements, class_number_says, class_size_says, class_word_run, class_word_says, number_judged, small_judged}
use Rattle.numbering.specs.Orders.{across, freed, head_of, orders, place_of, tally, word_at}
use Rattle.numbering.proofs.Theory.ClassReplies.{small-judged}
use Rattle.numbering.proofs.Theory.ClassSize.{class_size_lem}
use Rattle.numbering.proofs.Theory.Counting.{length-freed}
use Rattle.numbering.proofs.Theory.Numbers.{class_number_lem, class_word_lem, place-below}
use Rattle.refusals.specs.Chains.{goes_on, stops}
use Rattle.refusals.specs.Running.{all_passing, checks_then, run-stopped, then_passing}
use Rattle.refusals.specs.Said.{said_refusal}
use Rattle.refusals.specs.declared.refusal.Refusal.{Refusal}
use Rattle.numbering.proofs.Theory.Bounds.{orders_20}
use Rattle.ribbon_orders.specs.Rows.{orders-some, orders_given}
use Rattle.class_numbers.specs.Held.{Holds, take_freed}
use Rattle.class_numbers.specs.NumberFound.{Placed, place_held}

-- ---- tableaux

-- 16 and 13 of a word of the class.
abbrev asked : ℕ → List ℕ → List ℕ → ℕ → List ℕ → List Said
asked n xs ms k old = number_judged k (class_size n xs ms) ∷ room_judged (length xs) (length old) ∷ []

-- 1 to 6 on the tableau, 17 on its letter counts or 15 refuses.
module _ (n : ℕ) (xs ms cs : List ℕ) (r : Refusal) (e : said_refusal r ≡ checks_then (counted_judgements n xs ms cs) (small_judged (length xs) ∷ [])) where
  pub size_refused : said_refusal r ≡ class_size_says n xs ms cs
  unfolding class_size_says checks_then
  size_refused = stops {v = Err r} r (first (class_judgements n xs ms cs) passed) (gives (class_size n xs ms ∷ [])) e refl ∙ first_else (class_judgements n xs ms cs) _

  pub word_stopped : (k : ℕ) (old : List ℕ) → (said_refusal r, old) ≡ class_word_run n xs ms cs k old
  unfolding class_word_run class_word_says checks_then
  word_stopped k old =
      run-stopped {v = Err r} (class_judgements n xs ms cs) (asked n xs ms k old) (length xs ∷ []) (written (class_word n xs ms k) old) old r e refl

-- They pass, so that the tableau is one of at most 20 cells.
module _ (n : ℕ) (xs ms cs : List ℕ) (e : gives [] ≡ checks_then (counted_judgements n xs ms cs) (small_judged (length xs) ∷ [])) where
  checks : Passing (counted_judgements n xs ms cs) × Passing (small_judged (length xs) ∷ [])
  checks = then_passing {v = Ok tt} _ _ e refl

  tableau : TableauAt n xs ms
  tableau = ((counted_passing n xs ms cs).0 checks.0).0

  pub letters_few : length xs ≤ 20
  letters_few = (small-judged (length xs)).0 checks.1.0

  alike : length ms ≡ length xs
  alike = ((alike-judged _ _).0 checks.0.1.1.0).0

  marks_few : length ms ≤ 20
  marks_few = omega (arith, alike, letters_few)

  -- The first step of a tableau is a right one, which leaves as many orders as a free one.
  size_is : orders_given ms ≡ class_size n xs ms
  unfolding orders
  size_is = orders-some ms marks_few ∙ right xs ms tableau.tableau ∙ sym (class_size_lem n xs ms tableau.word.letters tableau.tableau)
    where
      head : (ns : List ℕ) → head_of (across 0 0 ns) ≡ head_of (across 2 0 ns)
      head [] = refl
      head (k ∷ ns) = omega arith

      right : (xs ms : List ℕ) → Tableau xs ms → orders ms ≡ orders (freed ms)
      right [] [] h = refl
      right [] (m ∷ ms) h = absurd h
      right (x ∷ xs) [] h = absurd h
      right (x ∷ xs) (m ∷ ms) h = rw h.0 (head (tally ms))

  all : Passing (class_judgements n xs ms cs)
  unfolding checks_then
  all = all_passing {v = Ok tt} (class_judgements n xs ms cs) e refl

  pub size_told : (k : ℕ) → k ≡ orders_given ms → gives (k ∷ []) ≡ class_size_says n xs ms cs
  unfolding class_size_says checks_then
  size_told k h =
      goes_on {v = Ok tt} (first (class_judgements n xs ms cs) passed) (gives (class_size n xs ms ∷ [])) e refl (ap (λ (j : ℕ). gives (j ∷ [])) (h ∙ size_is))
      ∙ first_else (class_judgements n xs ms cs) _

  module _ (k size : ℕ) (old : List ℕ) (h : size ≡ orders_given ms) where
    said : first (number_judged k size ∷ room_judged (length xs) (length old) ∷ []) passed ≡ first (asked n xs ms k old) passed
    said = ap (λ (j : ℕ). first (number_judged k j ∷ room_judged (length xs) (length old) ∷ []) passed) (h ∙ size_is)

    -- Then 16 and 13 refuse,
    pub word_refused : (r : Refusal) → said_refusal r ≡ first (number_judged k size ∷ room_judged (length xs) (length old) ∷ []) passed
        → (said_refusal r, old) ≡ class_word_run n xs ms cs k old
    unfolding class_word_run class_word_says
    word_refused r f =
        run-stopped {v = Err r} (asked n xs ms k old) [] (length xs ∷ []) (written (class_word n xs ms k) old) old r (f ∙ said) refl
        ∙ ap (λ (t : Said). ran_to t (written (class_word n xs ms k) old) old)
        (sym (first_past (class_judgements n xs ms cs) (asked n xs ms k old) (gives (length xs ∷ [])) all))

    -- or pass, so that the word has room,
    module _ (f : gives [] ≡ first (number_judged k size ∷ room_judged (length xs) (length old) ∷ []) passed) where
      asking : Passing (asked n xs ms k old)
      asking = all_passing {v = Ok tt} (asked n xs ms k old) (f ∙ said) refl

      pub word_room : length xs ≤ length old
      word_room = (room_judged_lem _ _).0 asking.1.0

      -- and is written.
      pub word_told : (ys ns now : List ℕ) → Holds xs ys → Holds ms ns
          → now ≡ written (word_at (length xs) (take (length xs) ys) (take (length xs) (set ns 0 2)) k) old
          → (gives (length xs ∷ []), now) ≡ class_word_run n xs ms cs k old
      unfolding class_word_run class_word_says
      word_told ys ns now a b g =
          ap (λ (new : List ℕ). (gives (length xs ∷ []), new)) (g ∙ ap (λ (w : List ℕ). written w old) word)
          ∙ sym (ran_answer (class_judgements n xs ms cs) (asked n xs ms k old) (length xs ∷ []) (written (class_word n xs ms k) old) old all asking)
        where
          marks : take (length xs) (set ns 0 2) ≡ freed ms
          marks = take_freed (length xs) ns ms (ap (λ (j : ℕ). take j ns) (sym alike) ∙ b.is marks_few)

          word : word_at (length xs) (take (length xs) ys) (take (length xs) (set ns 0 2)) k ≡ class_word n xs ms k
          word =
              ap₂ (λ (us vs : List ℕ). word_at (length xs) us vs k) (a.is letters_few) marks
              ∙ sym (class_word_lem n xs ms tableau.word.letters tableau.tableau k)

pub ruleset sizing = (size_refused, size_told, rules)

pub ruleset wording = (letters_few, word_stopped, word_refused, word_room, word_told, rules)

-- ---- words

abbrev judged : ℕ → List ℕ → List Said
judged n w = word_judgements n w ++ (small_judged (length w) ∷ [])

-- 1, 2 and 4 on the word or 15 refuses.
pub number_refused : (n : ℕ) (w : List ℕ) (r : Refusal) → said_refusal r ≡ checks_then (word_judgements n w) (small_judged (length w) ∷ [])
    → said_refusal r ≡ class_number_says n w
unfolding class_number_says checks_then
number_refused n w r e = stops {v = Err r} r (first (judged n w) passed) (gives (class_number n w ∷ [])) e refl ∙ first_else (judged n w) _

-- They pass, and the pair of the word stands in three lists of 20 elements.
module _ (n : ℕ) (w : List ℕ) (e : gives [] ≡ checks_then (word_judgements n w) (small_judged (length w) ∷ [])) where
  module _ (ls ks js cs us vs rs ds : List ℕ) (made : Said) (d : length ls ≡ 20) (c : length ks ≡ 20) (b : length js ≡ 20)
      (t : (made, (pair_with us vs rs, ds)) ≡ pair_run n w (pair_with ls ks js) cs) where
    accepted : Accepted n w
    accepted = (word_passing n w).0 (then_passing {v = Ok tt} _ _ e refl).0

    few : length w ≤ 20
    few = (small-judged (length w)).0 (then_passing {v = Ok tt} _ _ e refl).1.0

    ran : pair_with us vs rs ≡ written_pair (pair_of w) (pair_with ls ks js)
    ran =
        ap (λ (o : Said × (Pair × List ℕ)). o.1.0)
        (t ∙ pair_result n w accepted (pair_with ls ks js) cs (omega (arith, few)) (omega (arith, few)) (omega (arith, few)))

    letters_in : take (length w) us ≡ letters_of w
    letters_in = ap₂ take (sym (length-letters w)) (ap (λ (p : Pair). p.letters) ran) ∙ written_needed (letters_of w) ls

    marks_in_lem : take (length w) (set vs 0 2) ≡ freed (marks_of w)
    marks_in_lem =
        take_freed (length w) vs (marks_of w) (ap₂ take (sym (length-marks w)) (ap (λ (p : Pair). p.marks) ran) ∙ written_needed (marks_of w) ks)

    place_is : place_held w us (set vs 0 2) ≡ place_of w (letters_of w) (freed (marks_of w))
    place_is = ap₂ (place_of w) letters_in marks_in_lem

    -- Its number there fits 64 bits,
    pub number_placed : Placed w us (set vs 0 2)
    number_placed =
        let size : length (freed (marks_of w)) ≤ 20 = omega (arith, few, length-freed (marks_of w), length-marks w) in
        record { few = few; fits = record { fits = omega (arith, place_is, place-below n w accepted.letters, orders_20 (freed (marks_of w)) size) } }

    -- and is its number in its class.
    pub number_told : (r : ℕ) → r ≡ place_held w us (set vs 0 2) → gives (r ∷ []) ≡ class_number_says n w
    unfolding class_number_says checks_then
    number_told r h =
        goes_on {v = Ok tt} (first (judged n w) passed) (gives (class_number n w ∷ [])) e refl
        (ap (λ (j : ℕ). gives (j ∷ [])) (h ∙ place_is ∙ sym (class_number_lem n w accepted.letters)))
        ∙ first_else (judged n w) _

pub ruleset telling = (number_refused, number_placed, number_told, rules)
