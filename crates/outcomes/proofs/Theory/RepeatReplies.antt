-- Where a repeat count's operation replies k, the move's operation, made again and again in the lent letters, is made k times and is refused the next time:
-- with 10 under an inversion, else with 11 (document 01, "Moves"; "Strength of the contracts", c).
--     repeated_most             so k is the most times that it can be made
--     repeats                   for words and tableaux at once
--     repeat_word_replies       for words
--     repeat_tableau_replies    for tableaux
-- The same of moves with no rank and no checks is in Repeats. Assumes nothing.
use Prim.Native.Nat.{ℕ, zero, suc, ◌≤◌}
use mathlib.Core.Path.{◌≡◌, refl, ap, subst, ◌∙◌}
use mathlib.Core.List.{List, [], ◌∷◌, ◌++◌}
use mathlib.Core.Bool.{Bool, true, false, cond, not}
use mathlib.Core.Option.{Option, none, some}
use native.Mathlib.Omega.{arith}
use lib.ListN.{length, set}
use Rattle.hypoplactic.specs.Words.{Accepted}
use Rattle.hypoplactic.specs.Ribbons.{TableauAt}
use Rattle.quasi_crystal.specs.Moves.{Move, below, changed_place, given, guarded, index_of, inverted, move_tableau, move_word, moved, remaining, repeat_tableau, repeat_word, replaced}
use Rattle.outcomes.specs.Replies.{Said, Passes, first, gives, or_else, passed, refused, refuse_if}
use Rattle.outcomes.specs.Counts.{with_counts}
use Rattle.outcomes.specs.Judgements.{counted_judgements, index_judged, word_judgements}
use Rattle.outcomes.specs.WordOperations.{move_word_run, repeat_word_says}
use Rattle.outcomes.specs.TableauOperations.{move_tableau_run, repeat_tableau_says}
use Rattle.outcomes.specs.Repeats.{Made, Repeated}
use Rattle.quasi_crystal.proofs.Theory.Undo.{moved_turned, turned_upright, word_turned}
use Rattle.quasi_crystal.proofs.Theory.MoveCounts.{Counted, moved_counted}
use Rattle.quasi_crystal.proofs.Theory.MoveValid.{moved_valid, tableau_upright}
use Rattle.outcomes.proofs.Theory.Passing.{Passing}
use Rattle.outcomes.proofs.Theory.Counts.{counts_whole}
use Rattle.outcomes.proofs.Theory.Judged.{counted_passing, word_passing}
use Rattle.outcomes.proofs.Theory.MoveResults.{move_tableau-made, move_tableau_refused, move_word-made, move_word_refused}
use Rattle.quasi_crystal.proofs.Theory.Closure.{move_accepted, move_tableau_at}

-- What can be made k times and is then refused cannot be made more often.
pub repeated_most : {A : Type 0} {run : A → Said × A} {k j : ℕ} {u : A} → Repeated run k j u → (i : ℕ) (v : A) → Made run i u v → i ≤ k
repeated_most {A} {run} {k} {j} {u} r i v b = go k i u r.made b
  where
    go : (k i : ℕ) (u : A) → Made run k u r.last → Made run i u v → i ≤ k
    go k zero u a b = omega arith
    go zero (suc i) u a b = absurd (subst (λ (s : Said × A). Passes s.0) r.stops (subst (λ (w : A). Passes (run w).0) a b.0))
    go (suc k) (suc i) u a b = omega (arith, go k i (run u).1 a.1 b.1)

-- Once, and then k times.
once_more : {A : Type 0} {run : A → Said × A} {k j : ℕ} {w v : A} → Passes (run w).0 × ((run w).1 ≡ v) → Repeated run k j v → Repeated run (suc k) j w
once_more (p, e) r = record { last = r.last; made = (p, rw e r.made); stops = r.stops }

-- A run that makes a move on letters that are good, under a test for an inversion, and on what lent memory holds with them: where the test fails the letters
-- have none, moved letters are good and pass no test, and the run is refused where the move is undefined.
module _ {A : Type 0} (m : Move) (Good : List ℕ → Type 0) (test : List ℕ → Bool) (held : List ℕ → A) (run : A → Said × A)
    (upright : (w : List ℕ) → Good w → test w ≡ false → inverted m.index w ≡ false)
    (kept : (w v : List ℕ) → Good w → moved (test w) m w ≡ some v → Good v × (test v ≡ false))
    (goes : (w : List ℕ) (p : ℕ) → Good w → changed_place (test w) m w ≡ some p → run (held w) ≡ (gives (p ∷ []), held (set w p (given m.side m.index))))
    (stays : (w : List ℕ) → Good w → changed_place (test w) m w ≡ none → run (held w) ≡ (refused (cond (test w) 10 11) 0, held w)) where
  -- What the answer by a place says of the letters that the move could change.
  abbrev CountedAt : List ℕ → Option ℕ → Type 0
  CountedAt w o = Counted m (test w) w (replaced (given m.side m.index) w o)

  -- It is made as often as there are letters that the move could change.
  repeats : (k : ℕ) (w : List ℕ) → Good w → remaining m (test w) w ≡ k → Repeated run k (cond (test w) 10 11) (held w)
  repeats zero w g e = go (changed_place (test w) m w) refl (moved_counted m (test w) w (upright w g))
    where
      go : (o : Option ℕ) → changed_place (test w) m w ≡ o → CountedAt w o → Repeated run zero (cond (test w) 10 11) (held w)
      go none f c = record { last = held w; made = refl; stops = stays w g f }
      go (some p) f c = let z : ⊥ = omega arith in absurd z
  repeats (suc k) w g e = go (changed_place (test w) m w) refl (moved_counted m (test w) w (upright w g)) (repeats k)
    where
      go : (o : Option ℕ) → changed_place (test w) m w ≡ o → CountedAt w o
          → ((v : List ℕ) → Good v → remaining m (test v) v ≡ k → Repeated run k (cond (test v) 10 11) (held v)) → Repeated run (suc k) (cond (test w) 10 11) (held w)
      go none f c rest = let z : ⊥ = omega arith in absurd z
      go (some p) f c rest =
          let v : List ℕ = set w p (given m.side m.index) in
          let made : moved (test w) m w ≡ some v = ap (replaced (given m.side m.index) w) f in
          let q : Good v × (test v ≡ false) = kept w v g made in
          let left : remaining m false v ≡ k = omega arith in
          let r : Repeated run k 11 (held v) = rw q.1 at (rest v q.0 (rw q.1 left)) in
          let free : test w ≡ false = ((moved_turned m (test w) w v (upright w g)).0 made).0 in
          rw free (once_more (rw (goes w p g f) (tt, refl)) r)

-- ---- the replies

-- Where a count is replied past 9, the checks before have passed, the index is the rank's, and the count is the reply's.
count-replied : (js : List Said) (n i r k : ℕ) → first (js ++ (index_judged n i ∷ [])) (gives (r ∷ [])) ≡ gives (k ∷ []) → Passing js × (index_of n i ≡ true) × (r ≡ k)
unfolding index_judged
count-replied [] n i r k e = go (index_of n i) e
  where
    go : (b : Bool) → or_else (refuse_if (not b) 9 0 passed) (gives (r ∷ [])) ≡ gives (k ∷ []) → Unit {0} × (b ≡ true) × (r ≡ k)
    go true e = (tt, refl, cc)
    go false e = let z : ◌≡◌ {A = ℕ} 0 1 = cc in let no : ⊥ = omega arith in absurd no
count-replied (gives vs ∷ js) n i r k e = let (p, q, s) = count-replied js n i r k e in ((tt, p), q, s)
count-replied (refused a p ∷ js) n i r k e = let z : ◌≡◌ {A = ℕ} 0 1 = cc in let no : ⊥ = omega arith in absurd no

-- At an index of the rank a move at the rank is the move.
at_index : {A : Type 0} (n : ℕ) (m : Move) (o : Option A) → index_of n m.index ≡ true → guarded n m o ≡ o
at_index n m o i = rw i

-- On a word.
pub repeat_word_replies : (n : ℕ) (m : Move) (w : List ℕ) (k : ℕ) → repeat_word_says n m w ≡ gives (k ∷ [])
    → Repeated (move_word_run n m) k (cond (inverted m.index w) 10 11) w
unfolding repeat_word_says repeat_word move_word
repeat_word_replies n m w k e =
    let (p, i, same) = count-replied (word_judgements n w) n m.index (repeat_word m w) k e in
    repeats m (Accepted n) (inverted m.index) (λ (w : List ℕ). w) (move_word_run n m) (λ w a f. f)
    (λ w v a f. (move_accepted m a (at_index n m _ i ∙ f), (turned_upright m.side m.index w v ((word_turned m w v).0 f)).1))
    (λ w p a f. move_word-made n m w a p (at_index n m _ i ∙ f))
    (λ w a f. rw i at (move_word_refused n m w a (at_index n m _ i ∙ f)))
    k w ((word_passing n w).0 p) same

-- On a tableau: each move leaves letters and counts that the next one takes.
pub repeat_tableau_replies : (n : ℕ) (m : Move) (xs ms cs : List ℕ) (k : ℕ) → length cs ≡ 64 → repeat_tableau_says n m xs ms cs ≡ gives (k ∷ [])
    → Repeated (λ (s : List ℕ × List ℕ). move_tableau_run n m s.0 ms s.1) k (cond (below m.index xs ms) 10 11) (xs, cs)
unfolding repeat_tableau_says repeat_tableau move_tableau
repeat_tableau_replies n m xs ms cs k size e =
    let (p, i, same) = count-replied (counted_judgements n xs ms cs) n m.index (repeat_tableau m xs ms) k e in
    let (valid, counts) = (counted_passing n xs ms cs).0 p in
    rw (counts_whole xs cs size counts)
    (repeats m (λ ys. TableauAt n ys ms) (λ ys. below m.index ys ms) with_counts (λ (s : List ℕ × List ℕ). move_tableau_run n m s.0 ms s.1)
    (λ ys h f. tableau_upright m.index ys ms h.tableau)
    (λ ys zs h f. (move_tableau_at m h (at_index n m _ i ∙ f), (moved_valid m ys zs ms h.tableau f).1))
    (λ ys p h f. move_tableau-made n m ys ms h p (at_index n m _ i ∙ f))
    (λ ys h f. rw i at (move_tableau_refused n m ys ms h (at_index n m _ i ∙ f)))
    k xs valid same)
