-- What a move replies to an accepted word and to a valid tableau: defined, it is made, and the changed place told; undefined, the first of 9, 10 and 11
-- that applies.
--     move_replaced                             a move's answer is the letters with the given one at the changed place
--     move_word_result, move_tableau_result     the reply and the lent letters, those of a tableau with their counts
--     move_word-made, move_word_refused         the same where there is a place to change, and where there is none
--     move_tableau-made, move_tableau_refused
-- Assumes nothing.
use Prim.Native.Nat.{ℕ, ◌≤◌, ◌<◌}
use native.Mathlib.Omega.{arith}
use mathlib.Core.Path.{◌≡◌, refl, ap, ap₂, ◌∙◌}
use mathlib.Core.Bool.{Bool, true, false, ◌&&◌, cond, not}
use mathlib.Core.Option.{Option, none, some, none-ne-some}
use mathlib.Core.List.{List, [], ◌∷◌, ◌++◌}
use lib.Dec.{eqb, ltb}
use lib.ListN.{set}
use borrow.Author.Tests.{eq-eqb, ltb-true, ne_eqb}
use Rattle.hypoplactic.specs.Words.{Accepted, count}
use Rattle.hypoplactic.specs.Ribbons.{TableauAt}
use Rattle.quasi_crystal.specs.Moves.{Move, below, changed_place, given, guarded, index_of, inverted, moved, moved_word, move_tableau, move_word, place_in_tableau, place_in_word, replaced, taken}
use Rattle.outcomes.specs.Replies.{Said, first, gives, or_else, passed, ran_to, refused, refuse_if}
use Rattle.outcomes.specs.Counts.{counts_of, one_over, with_counts}
use Rattle.outcomes.specs.Judgements.{counted_judgements, index_judged, inversion_judged, letter_judged, word_judgements}
use Rattle.outcomes.specs.WordOperations.{move_judgements, move_reply, move_word_run, move_word_says, or_same, place_told, undefined_by}
use Rattle.outcomes.specs.TableauOperations.{move_tableau_run, move_tableau_says}
use Rattle.quasi_crystal.proofs.Theory.Undo.{moved_turned}
use Rattle.quasi_crystal.proofs.Theory.MoveCounts.{Counted, moved_counted}
use Rattle.quasi_crystal.proofs.Theory.MoveValid.{tableau_upright}
use Rattle.outcomes.proofs.Theory.Counts.{counts-true, turned-counts}
use Rattle.outcomes.proofs.Theory.Passing.{Passing, first_past}
use Rattle.outcomes.proofs.Theory.Judged.{counted_passing, word_passing}

-- The letters after a move are those with the given one at the changed place, if there is one.
pub move_replaced : (n : ℕ) (m : Move) (b : Bool) (w : List ℕ)
    → guarded n m (moved b m w) ≡ replaced (given m.side m.index) w (guarded n m (changed_place b m w))
move_replaced n m b w = go (index_of n m.index)
  where
    go : (t : Bool) → cond t (moved b m w) none ≡ replaced (given m.side m.index) w (cond t (changed_place b m w) none)
    go true = refl
    go false = refl

-- 9, 10 and 11 as tests.
tests_reply : (m : Move) (w : List ℕ) (t b : Bool) → (b ≡ false → inverted m.index w ≡ false)
    → or_else (refuse_if (not t) 9 0 passed)
    (or_else (refuse_if b 10 0 passed) (or_else (refuse_if (eqb (count (taken m.side m.index) w) 0) 11 0 passed) (gives (place_told (changed_place b m w)))))
    ≡ move_reply (cond t (cond b 10 11) 9) (cond t (changed_place b m w) none)
tests_reply m w false b f = refl
tests_reply m w true true f = refl
tests_reply m w true false f = go (changed_place false m w) (moved_counted m false w f)
  where
    go : (o : Option ℕ) → Counted m false w (replaced (given m.side m.index) w o)
        → or_else (refuse_if (eqb (count (taken m.side m.index) w) 0) 11 0 passed) (gives (place_told o)) ≡ move_reply 11 o
    go none c = rw (eq-eqb _ _ c)
    go (some p) c = rw (ne_eqb (count (taken m.side m.index) w) 0 (omega arith))

-- A move under the test b for an inversion, past judgements that refuse nothing.
module _ (n : ℕ) (m : Move) (b : Bool) (w : List ℕ) (f : b ≡ false → inverted m.index w ≡ false) where
  move_reply_lem : first (move_judgements n m b w) (gives (place_told (changed_place b m w))) ≡ move_reply (undefined_by n m b) (guarded n m (changed_place b m w))
  unfolding index_judged inversion_judged letter_judged
  move_reply_lem = tests_reply m w (index_of n m.index) b f

  -- Lent memory that holds the letters, and where the move is made the new ones.
  move_ran_lem : {A : Type 0} (held : List ℕ → A) (new : A) (js : List Said) → Passing js
      → ((p : ℕ) → guarded n m (changed_place b m w) ≡ some p → new ≡ held (set w p (given m.side m.index)))
      → ran_to (first (js ++ move_judgements n m b w) (gives (place_told (changed_place b m w)))) new (held w)
      ≡ (move_reply (undefined_by n m b) (guarded n m (changed_place b m w)), held (or_same (guarded n m (moved b m w)) w))
  move_ran_lem held new js p made =
      rw (first_past js (move_judgements n m b w) (gives (place_told (changed_place b m w))) p, move_reply_lem)
      (kept (undefined_by n m b) (index_of n m.index) (changed_place b m w) made)
    where
      kept : (k : ℕ) (t : Bool) (o : Option ℕ) → ((p : ℕ) → cond t o none ≡ some p → new ≡ held (set w p (given m.side m.index)))
          → ran_to (move_reply k (cond t o none)) new (held w)
          ≡ (move_reply k (cond t o none), held (or_same (cond t (replaced (given m.side m.index) w o) none) w))
      kept k true none made = refl
      kept k true (some p) made = ap (λ r. (gives (p ∷ []), r)) (made p refl)
      kept k false o made = refl

  -- The letters at the place that is changed.
  made-letters : (p : ℕ) → guarded n m (changed_place b m w) ≡ some p → or_same (moved b m w) w ≡ set w p (given m.side m.index)
  made-letters p e = go (index_of n m.index) (changed_place b m w) e
    where
      go : (t : Bool) (o : Option ℕ) → cond t o none ≡ some p → or_same (replaced (given m.side m.index) w o) w ≡ set w p (given m.side m.index)
      go true none e = absurd (none-ne-some p e)
      go true (some q) e = let same : q ≡ p = cc in rw same
      go false o e = absurd (none-ne-some p e)

module _ (n : ℕ) (m : Move) (w : List ℕ) (a : Accepted n w) where
  -- A move on an accepted word: the reply, and the lent word.
  pub move_word_result : move_word_run n m w
      ≡ (move_reply (undefined_by n m (inverted m.index w)) (place_in_word n m w), or_same (move_word n m w) w)
  unfolding move_word_run move_word_says move_word
  move_word_result =
      move_ran_lem n m (inverted m.index w) w (λ e. e) (λ (v : List ℕ). v) (or_same (moved_word m w) w) (word_judgements n w) ((word_passing n w).1 a)
      (made-letters n m (inverted m.index w) w (λ e. e))

  -- Where there is a place to change it is made there,
  pub move_word-made : (p : ℕ) → place_in_word n m w ≡ some p → move_word_run n m w ≡ (gives (p ∷ []), set w p (given m.side m.index))
  unfolding move_word
  move_word-made p e = move_word_result ∙ rw (move_replaced n m (inverted m.index w) w, e)

  -- where there is none it is refused by 9, 10 or 11, and the word stays.
  pub move_word_refused : place_in_word n m w ≡ none → move_word_run n m w ≡ (refused (undefined_by n m (inverted m.index w)) 0, w)
  unfolding move_word
  move_word_refused e = move_word_result ∙ rw (move_replaced n m (inverted m.index w) w, e)

-- Where there is a place to change the index is the rank's, and the place that of the move without a rank.
within_index : (n : ℕ) (m : Move) (o : Option ℕ) (c : ℕ) → guarded n m o ≡ some c → (1 ≤ m.index) × (m.index < n) × (o ≡ some c)
within_index n m o c e = go (ltb 0 m.index) refl (ltb m.index n) refl e
  where
    go : (s : Bool) → ltb 0 m.index ≡ s → (t : Bool) → ltb m.index n ≡ t → cond (s && t) o none ≡ some c → (1 ≤ m.index) × (m.index < n) × (o ≡ some c)
    go true p true q e = (ltb-true 0 m.index p, ltb-true m.index n q, e)
    go true p false q e = absurd (none-ne-some c e)
    go false p t q e = absurd (none-ne-some c e)

module _ (n : ℕ) (m : Move) (xs ms : List ℕ) (h : TableauAt n xs ms) where
  upright : below m.index xs ms ≡ false → inverted m.index xs ≡ false
  upright e = tableau_upright m.index xs ms h.tableau

  -- The counts after a move that is made are those of the letters then.
  made-counts : (c : ℕ) → place_in_tableau n m xs ms ≡ some c
      → one_over (counts_of xs) (taken m.side m.index) (given m.side m.index) ≡ counts_of (set xs c (given m.side m.index))
  made-counts c e =
      let (low, high, place) = within_index n m (changed_place (below m.index xs ms) m xs) c e in
      let v : List ℕ = set xs c (given m.side m.index) in
      turned-counts m.side m.index xs v
      ((moved_turned m (below m.index xs ms) xs v upright).0 (ap (replaced (given m.side m.index) xs) place)).1
      low (omega (arith, h.word.rank_high))

  -- A move on a valid tableau with its counts: the reply, the letters then, and their counts.
  pub move_tableau_result : move_tableau_run n m xs ms (counts_of xs)
      ≡ (move_reply (undefined_by n m (below m.index xs ms)) (place_in_tableau n m xs ms), with_counts (or_same (move_tableau n m xs ms) xs))
  unfolding move_tableau_run move_tableau_says move_tableau
  move_tableau_result =
      move_ran_lem n m (below m.index xs ms) xs upright with_counts _ (counted_judgements n xs ms (counts_of xs))
      ((counted_passing n xs ms (counts_of xs)).1 (h, counts-true xs))
      (λ c e. ap₂ (λ (ys cs : List ℕ). (ys, cs)) (made-letters n m (below m.index xs ms) xs upright c e) (made-counts c e))

  -- Where there is a cell to change it is made there,
  pub move_tableau-made : (c : ℕ) → place_in_tableau n m xs ms ≡ some c
      → move_tableau_run n m xs ms (counts_of xs) ≡ (gives (c ∷ []), with_counts (set xs c (given m.side m.index)))
  unfolding move_tableau
  move_tableau-made c e = move_tableau_result ∙ rw (move_replaced n m (below m.index xs ms) xs, e)

  -- where there is none it is refused by 9, 10 or 11, and the letters and the counts stay.
  pub move_tableau_refused : place_in_tableau n m xs ms ≡ none
      → move_tableau_run n m xs ms (counts_of xs) ≡ (refused (undefined_by n m (below m.index xs ms)) 0, with_counts xs)
  unfolding move_tableau
  move_tableau_refused e = move_tableau_result ∙ rw (move_replaced n m (below m.index xs ms) xs, e)
