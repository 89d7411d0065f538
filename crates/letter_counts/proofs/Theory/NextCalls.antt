-- What the laws of letter counts are for: a tableau that one call has left another takes, and a stored tableau answers for its words. Each law has the claim
-- that it rests on as a premise or cites it, so that none of them can say less unseen.
--     next_pair, next_inserted, next_departed, next_moved, next_product, next_read, next_read_pair     from the claim CountsHeld: what each leaves passes 17
--     words_by_tableaux             from the law of column readings: the class of two words is that of their tableaux, as it is told from these
--     weights_by_tableaux           the same of weights
-- Assumes nothing.
use Prim.Native.Nat.{ℕ}
use mathlib.Core.Path.{◌≡◌, sym, ap, ◌∙◌}
use mathlib.Core.Bool.{Bool}
use mathlib.Core.List.{List, [], ◌∷◌}
use mathlib.Core.Logic.Iff
use lib.ListN.{length, take}
use Rattle.hypoplactic.specs.Words.{Accepted, tick}
use Rattle.hypoplactic.specs.Insertion.{Pair, letters_of, marks_of}
use Rattle.hypoplactic.specs.Junctions.{same_class}
use Rattle.outcomes.specs.LineReadings.{read_p_run, read_t_run}
use Rattle.quasi_crystal.specs.Moves.{Move}
use Rattle.hypoplactic.specs.Reading.{column_reading}
use Rattle.outcomes.specs.Replies.{Passes, gives}
use Rattle.outcomes.specs.TableauOperations.{insert_run, move_tableau_run, pair_run}
use Rattle.hypoplactic.specs.Weights.{Comparison}
use Rattle.outcomes.specs.WordOperations.{comparison_number, same_class_says, weights_says}
use Rattle.outcomes.specs.Counts.{counts_judged, counts_of}
use Rattle.quasi_crystal.proofs.Theory.Closure.{reading_accepted, word_tableau_at}
use Rattle.outcomes.proofs.Theory.Counts.{counts-judged, counts-true, letters-true}
use Rattle.hypoplactic.proofs.Theory.Joining.{joined_sym, joined_trans}
use Rattle.hypoplactic.proofs.Theory.Letters.{count-letters}
use Rattle.hypoplactic.proofs.Theory.NormalForm.{word_reading}
use Rattle.hypoplactic.proofs.Theory.OneClass.{class_joined}
use Rattle.outcomes.proofs.Theory.Results.{same_class_result, weights_result}
use Rattle.products.specs.Products.{product_run}
use Rattle.windows.specs.Departures.{depart_run}
use Rattle.letter_counts.specs.CountsHeld.{CountsHeld, cells_given}
use Rattle.letter_counts.specs.TwoTableaux.{same_class_tableaux_says, weights_tableaux_says}
use Rattle.letter_counts.proofs.Theory.StoredCounts.{one_truth, weights_same, weights_stored}
use Rattle.letter_counts.proofs.Theory.TwoTableaux.{class_as_readings, weights_as_readings}

-- ---- the next call

-- The counts of letters pass 17 beside these.
counts_pass : (cs xs : List ℕ) → cs ≡ counts_of xs → Passes (counts_judged cs xs)
counts_pass cs xs e = (counts-judged cs xs).1 (rw e (counts-true xs))

module _ (held : CountsHeld) where
  -- The cells that the pair of a word has filled,
  pub next_pair : (n : ℕ) (w : List ℕ) (p : Pair) (counts : List ℕ) → Passes (pair_run n w p counts).0
      → Passes (counts_judged (pair_run n w p counts).1.1 (take (cells_given (pair_run n w p counts).0) (pair_run n w p counts).1.0.letters))
  next_pair n w p counts h = counts_pass _ _ (held.pair n w p counts h)

  -- the used cells after an insertion,
  pub next_inserted : (n used a : ℕ) (p : Pair) (cs : List ℕ) → length cs ≡ 64 → Passes (insert_run n used a p cs).0
      → Passes (counts_judged (insert_run n used a p cs).1.1
      (take (cells_given (insert_run n used a p cs).0) (insert_run n used a p cs).1.0.letters))
  next_inserted n used a p cs e q = counts_pass _ _ (held.inserted n used a p cs e q)

  -- and after a departure,
  pub next_departed : (n used : ℕ) (p : Pair) (cs : List ℕ) → length cs ≡ 64 → Passes (depart_run n used p cs).0
      → Passes (counts_judged (depart_run n used p cs).1.1 (take (cells_given (depart_run n used p cs).0) (depart_run n used p cs).1.0.letters))
  next_departed n used p cs e q = counts_pass _ _ (held.departed n used p cs e q)

  -- a moved tableau,
  pub next_moved : (n : ℕ) (m : Move) (xs ms cs : List ℕ) → length cs ≡ 64 → Passes (move_tableau_run n m xs ms cs).0
      → Passes (counts_judged (move_tableau_run n m xs ms cs).1.1 (move_tableau_run n m xs ms cs).1.0)
  next_moved n m xs ms cs e p = counts_pass _ _ (held.moved n m xs ms cs e p)

  -- the cells of a product
  pub next_product : (n : ℕ) (xs ms cs ys ns ds letters marks counts : List ℕ) → Passes (product_run n xs ms cs ys ns ds letters marks counts).0
      → Passes (counts_judged (product_run n xs ms cs ys ns ds letters marks counts).1.1.1
      (take (cells_given (product_run n xs ms cs ys ns ds letters marks counts).0) (product_run n xs ms cs ys ns ds letters marks counts).1.0))
  next_product n xs ms cs ys ns ds letters marks counts p = counts_pass _ _ (held.multiplied n xs ms cs ys ns ds letters marks counts p)

  -- and those of a T line and of a P line.
  pub next_read : (text letters marks counts : List ℕ) → Passes (read_t_run text letters marks counts).0
      → Passes (counts_judged (read_t_run text letters marks counts).1.1.1
      (take (cells_given (read_t_run text letters marks counts).0) (read_t_run text letters marks counts).1.0))
  next_read text letters marks counts p = counts_pass _ _ (held.read text letters marks counts p)

  pub next_read_pair : (text : List ℕ) (p : Pair) (counts : List ℕ) → Passes (read_p_run text p counts).0
      → Passes (counts_judged (read_p_run text p counts).1.1 (take (cells_given (read_p_run text p counts).0) (read_p_run text p counts).1.0.letters))
  next_read_pair text p counts h = counts_pass _ _ (held.reads_pair text p counts h)

-- ---- words by their stored tableaux

module _ (n : ℕ) (u : List ℕ) (m : ℕ) (v : List ℕ) (a : Accepted n u) (b : Accepted m v) where
  reading : List ℕ → List ℕ
  reading w = column_reading (letters_of w) (marks_of w)

  read_first : Accepted n (reading u)
  unfolding reading
  read_first = reading_accepted (word_tableau_at a)

  read_second : Accepted m (reading v)
  unfolding reading
  read_second = reading_accepted (word_tableau_at b)

  -- Words are joined as their column readings are.
  reading_class : same_class (reading u) (reading v) ≡ same_class u v
  unfolding reading
  reading_class =
      one_truth (same_class (reading u) (reading v)) (same_class u v)
      (Iff.trans (class_joined n m (reading u) (reading v) read_first read_second) (
        λ j. joined_trans (word_reading u) (joined_trans j (joined_sym (word_reading v))),
        λ j. joined_trans (joined_sym (word_reading u)) (joined_trans j (word_reading v)),
      ))
      (class_joined n m u v a b)

  -- What is told of the stored tableaux of two words is what is told of the words: of their class,
  pub words_by_tableaux : same_class_tableaux_says n (letters_of u) (marks_of u) (counts_of u) m (letters_of v) (marks_of v) (counts_of v) ≡ same_class_says n u m v
  unfolding reading
  words_by_tableaux =
      class_as_readings n (letters_of u) (marks_of u) (counts_of u) m (letters_of v) (marks_of v) (counts_of v)
      (word_tableau_at a) (word_tableau_at b) (letters-true u) (letters-true v)
      ∙ same_class_result n (reading u) m (reading v) read_first read_second
      ∙ ap (λ (t : Bool). gives (tick t 0 ∷ [])) reading_class
      ∙ sym (same_class_result n u m v a b)

  -- and of their weights.
  pub weights_by_tableaux : weights_tableaux_says n (letters_of u) (marks_of u) (counts_of u) m (letters_of v) (marks_of v) (counts_of v) ≡ weights_says n u m v
  unfolding reading
  weights_by_tableaux =
      weights_as_readings n (letters_of u) (marks_of u) (counts_of u) m (letters_of v) (marks_of v) (counts_of v)
      (word_tableau_at a) (word_tableau_at b) (letters-true u) (letters-true v)
      ∙ weights_result n (reading u) m (reading v) read_first read_second
      ∙ ap (λ (c : Comparison). gives (comparison_number c ∷ []))
      (weights_stored (letters_of u) (marks_of u) (letters_of v) (marks_of v) (word_tableau_at a).tableau (word_tableau_at b).tableau
      ∙ weights_same (letters_of u) (letters_of v) u v (λ c. count-letters c u) (λ c. count-letters c v))
      ∙ sym (weights_result n u m v a b)
