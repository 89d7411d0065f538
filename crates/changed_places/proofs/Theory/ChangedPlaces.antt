-- The place that a move replies (document 02, N3): inside, where the letter taken stood, the leftmost such place for raising and the rightmost for lowering.
--     Held s a w o         the letter a stands at the place o of w, and at none past it; where there is no o, it stands nowhere. (That o is inside: Targets)
--     leftmost-first       the leftmost a has no a left of it
--     rightmost_last       the rightmost a has no a right of it
--     changed_held         the place that a move changes, whatever tells of an inversion
--     word_moved_at        every move on a word that gives values is MovedAt, whatever the rank and the word
--     tableau_moved_at     every move on a tableau that gives values is, in its letters, whatever the tableau and its counts
--     word_made, word_unmade           a move on an accepted word that is defined replies a place and leaves its result; else it is refused
--     tableau_made, tableau_unmade     so does one on a tableau within the limits with its counts, and leaves those of its result
-- Assumes nothing.
use Prim.Native.Nat.{ℕ, zero, suc, ◌<◌}
use native.Mathlib.Omega.{arith}
use mathlib.Core.Path.{◌≡◌, refl, sym, ap, subst, ◌∙◌}
use mathlib.Core.Logic.{◌≢◌}
use mathlib.Core.Bool.{Bool, true, false, cond}
use mathlib.Core.Option.{Option, none, some, none-ne-some}
use mathlib.Core.List.{List, [], ◌∷◌, ◌++◌}
use lib.Dec.{eqb}
use lib.ListN.{length, get_or, set}
use borrow.Author.Tests.{eqb-true, eqb-false}
use Rattle.hypoplactic.specs.Words.{Accepted}
use Rattle.hypoplactic.specs.Ribbons.{TableauAt}
use Rattle.quasi_crystal.specs.Moves.{Side, raising, lowering, Move, taken, onward, leftmost, or_here, rightmost, target, changed_place, inverted, below, given, guarded, move_tableau, move_word, moved, moved_tableau, replaced}
use Rattle.outcomes.specs.Replies.{Said, gives, refused, Passes, first, ran_to}
use Rattle.outcomes.specs.Counts.{TrueCounts, counts_of, one_over, with_counts}
use Rattle.outcomes.specs.Judgements.{counted_judgements, word_judgements}
use Rattle.outcomes.specs.WordOperations.{move_judgements, move_word_run, move_word_says, or_same, place_told, undefined_by}
use Rattle.outcomes.specs.TableauOperations.{move_tableau_run, move_tableau_says}
use Rattle.changed_places.specs.ChangedPlaces.{MovedAt, Past, in_letters}
use Rattle.outcomes.proofs.Theory.Counts.{counts-true}
use Rattle.outcomes.proofs.Theory.Judged.{counted_passing, word_passing}
use Rattle.outcomes.proofs.Theory.MoveResults.{move_replaced, move_tableau-made, move_tableau_refused, move_word-made, move_word_refused}
use Rattle.outcomes.proofs.Theory.Passing.{first_past, passing_before}
use Rattle.quasi_crystal.proofs.Theory.Targets.{place-below, unguarded}

-- ---- the leftmost and the rightmost

-- Nowhere, or at this place and not past it.
abbrev pub Held : Side → ℕ → List ℕ → Option ℕ → Type 0
Held s a w none = (q : ℕ) → q < length w → get_or w q 0 ≢ a
Held s a w (some p) = (get_or w p 0 ≡ a) × ((q : ℕ) → q < length w → Past s p q → get_or w q 0 ≢ a)

module _ (a x : ℕ) (xs : List ℕ) where
  -- No a at the places that R tells, the first place apart.
  one_more_lem : (R : ℕ → Type 0) → (R 0 → x ≢ a) → ((q : ℕ) → q < length xs → R (suc q) → get_or xs q 0 ≢ a)
      → (q : ℕ) → q < length (x ∷ xs) → R q → get_or (x ∷ xs) q 0 ≢ a
  one_more_lem R here rest zero l r = here r
  one_more_lem R here rest (suc q) l r = rest q (omega arith) r

  -- No a in the rest, nor here.
  none_more : x ≢ a → Held raising a xs none → (s : Side) → Held s a (x ∷ xs) none
  none_more ne h s q l = one_more_lem (λ q. Unit {0}) (λ r. ne) (λ q l r. h q l) q l tt

pub leftmost-first : (a : ℕ) (w : List ℕ) → Held raising a w (leftmost a w)
leftmost-first a [] = λ q l. let z : ⊥ = omega arith in absurd z
leftmost-first a (x ∷ xs) = go (eqb x a) refl (leftmost a xs) (leftmost-first a xs)
  where
    go : (t : Bool) → eqb x a ≡ t → (o : Option ℕ) → Held raising a xs o → Held raising a (x ∷ xs) (cond t (some 0) (onward o))
    go true e o h = (eqb-true x a e, λ q l r. let z : ⊥ = omega arith in absurd z)
    go false e none h = none_more a x xs (eqb-false x a e) h raising
    go false e (some p) h = (h.0, one_more_lem a x xs (λ q. q < suc p) (λ r. eqb-false x a e) (λ q l r. h.1 q l (omega arith)))

pub rightmost_last : (a : ℕ) (w : List ℕ) → Held lowering a w (rightmost a w)
rightmost_last a [] = λ q l. let z : ⊥ = omega arith in absurd z
rightmost_last a (x ∷ xs) = go (eqb x a) refl (rightmost a xs) (rightmost_last a xs)
  where
    go : (t : Bool) → eqb x a ≡ t → (o : Option ℕ) → Held lowering a xs o → Held lowering a (x ∷ xs) (or_here t o)
    go t e (some p) h = (h.0, one_more_lem a x xs (λ q. suc p < q) (λ r. let z : ⊥ = omega arith in absurd z) (λ q l r. h.1 q l (omega arith)))
    go true e none h = (eqb-true x a e, one_more_lem a x xs (λ q. 0 < q) (λ r. let z : ⊥ = omega arith in absurd z) (λ q l r. h q l))
    go false e none h = none_more a x xs (eqb-false x a e) h lowering

-- ---- the place that a move changes

pub changed_held : (b : Bool) (m : Move) (w : List ℕ) (p : ℕ) → changed_place b m w ≡ some p → Held m.side (taken m.side m.index) w (some p)
changed_held true m w p e = absurd (none-ne-some p e)
changed_held false m w p e = subst (Held m.side (taken m.side m.index) w) e (named m.side m.index)
  where
    named : (s : Side) (i : ℕ) → Held s (taken s i) w (target s i w)
    named raising i = leftmost-first (suc i) w
    named lowering i = rightmost_last i w

-- ---- the replies

-- A result is the letters with another one at a place; without a result there is no place.
placed : (a : ℕ) (w v : List ℕ) (o : Option ℕ) → replaced a w o ≡ some v → (p : ℕ) × (o ≡ some p) × (set w p a ≡ v)
placed a w v none e = absurd (none-ne-some v e)
placed a w v (some p) e = (p, refl, cc)

unplaced : (a : ℕ) (w : List ℕ) (o : Option ℕ) → replaced a w o ≡ none → o ≡ none
unplaced a w none e = refl
unplaced a w (some p) e = absurd (none-ne-some (set w p a) (sym e))

-- A run r of a move in the letters w, under the test b for an inversion, which goes by the place that the move changes at the rank. Lent memory holds
-- letters so, or with more beside them.
module _ {A : Type 0} (holds : List ℕ → A) (n : ℕ) (m : Move) (b : Bool) (w : List ℕ) (k : ℕ) (r : Said × A)
    (goes : (p : ℕ) → guarded n m (changed_place b m w) ≡ some p → r ≡ (gives (p ∷ []), holds (set w p (given m.side m.index))))
    (stays : guarded n m (changed_place b m w) ≡ none → r ≡ (refused k 0, holds w)) where
  made : (v : List ℕ) → guarded n m (moved b m w) ≡ some v → (p : ℕ) × (r ≡ (gives (p ∷ []), holds v))
  made v e =
      let (p, is, same) = placed _ w v (guarded n m (changed_place b m w)) (sym (move_replaced n m b w) ∙ e) in
      (p, goes p is ∙ rw same)

  unmade : guarded n m (moved b m w) ≡ none → r ≡ (refused k 0, holds w)
  unmade e = stays (unplaced _ w (guarded n m (changed_place b m w)) (sym (move_replaced n m b w) ∙ e))

-- The letters alone.
abbrev alone : List ℕ → List ℕ
alone w = w

-- Where it gives values, it is MovedAt.
moved_at : (n : ℕ) (m : Move) (b : Bool) (w : List ℕ) (k : ℕ) (r : Said × List ℕ)
    → ((p : ℕ) → guarded n m (changed_place b m w) ≡ some p → r ≡ (gives (p ∷ []), set w p (given m.side m.index)))
    → (guarded n m (changed_place b m w) ≡ none → r ≡ (refused k 0, w)) → Passes r.0 → MovedAt m w r
moved_at n m b w k r goes stays h = go (guarded n m (changed_place b m w)) refl
  where
    go : (o : Option ℕ) → guarded n m (changed_place b m w) ≡ o → MovedAt m w r
    go none e = absurd (subst (λ (r : Said × List ℕ). Passes r.0) (stays e) h)
    go (some p) e =
        let (held, none_past) = changed_held b m w p (unguarded n m (changed_place b m w) e) in
        record { place = p; inside = place-below n m b w p e; held = held; none_past = none_past; told = goes p e }

-- On a word: whatever it is,
pub word_moved_at : (n : ℕ) (m : Move) (w : List ℕ) → Passes (move_word_run n m w).0 → MovedAt m w (move_word_run n m w)
unfolding move_word_run move_word_says
word_moved_at n m w h =
    let a : Accepted n w = (word_passing n w).0 (passing_before (word_judgements n w) (move_judgements n m (inverted m.index w) w) _ h) in
    moved_at n m (inverted m.index w) w _ (move_word_run n m w) (move_word-made n m w a) (move_word_refused n m w a) h

-- and where it is accepted, by the definition of the move.
module _ (n : ℕ) (m : Move) (w : List ℕ) (a : Accepted n w) where
  pub word_made : (v : List ℕ) → move_word n m w ≡ some v → (p : ℕ) × (move_word_run n m w ≡ (gives (p ∷ []), v))
  unfolding move_word
  word_made = made alone n m (inverted m.index w) w _ (move_word_run n m w) (move_word-made n m w a) (move_word_refused n m w a)

  pub word_unmade : move_word n m w ≡ none → move_word_run n m w ≡ (refused (undefined_by n m (inverted m.index w)) 0, w)
  unfolding move_word
  word_unmade = unmade alone n m (inverted m.index w) w _ (move_word_run n m w) (move_word-made n m w a) (move_word_refused n m w a)

-- ---- the replies on a tableau, and its counts

-- What a move leaves where it is made.
abbrev moved-over : Move → List ℕ → List ℕ → List ℕ → List ℕ × List ℕ
moved-over m xs ms cs = (or_same (moved_tableau m xs ms) xs, one_over cs (taken m.side m.index) (given m.side m.index))

-- What is said of letters and left of them does not rest on the counts, where these are true.
one_run : (n : ℕ) (m : Move) (xs ms cs : List ℕ) → TableauAt n xs ms → TrueCounts xs cs
    → in_letters (move_tableau_run n m xs ms cs) ≡ in_letters (move_tableau_run n m xs ms (counts_of xs))
unfolding move_tableau_run move_tableau_says
one_run n m xs ms cs a t =
    rw (past cs t, past (counts_of xs) (counts-true xs)) (letters_of_lem (first ks told) (moved-over m xs ms cs) (moved-over m xs ms (counts_of xs)) refl)
  where
    ks : List Said
    ks = move_judgements n m (below m.index xs ms) xs

    told : Said
    told = gives (place_told (changed_place (below m.index xs ms) m xs))

    past : (cs : List ℕ) → TrueCounts xs cs → first (counted_judgements n xs ms cs ++ ks) told ≡ first ks told
    past cs t = first_past (counted_judgements n xs ms cs) ks told ((counted_passing n xs ms cs).1 (a, t))

    letters_of_lem : (s : Said) (new new' : List ℕ × List ℕ) → new.0 ≡ new'.0 → in_letters (ran_to s new (xs, cs)) ≡ in_letters (ran_to s new' (xs, counts_of xs))
    letters_of_lem (gives vs) new new' e = ap (λ (ys : List ℕ). (gives vs, ys)) e
    letters_of_lem (refused k p) new new' e = refl

-- What is not refused is a tableau within the limits with true counts.
taken_in : (n : ℕ) (m : Move) (xs ms cs : List ℕ) → Passes (move_tableau_run n m xs ms cs).0 → TableauAt n xs ms × TrueCounts xs cs
unfolding move_tableau_run move_tableau_says
taken_in n m xs ms cs h =
    (counted_passing n xs ms cs).0 (passing_before (counted_judgements n xs ms cs) (move_judgements n m (below m.index xs ms) xs) _ h)

-- On a tableau likewise, whatever it and its counts are.
pub tableau_moved_at : (n : ℕ) (m : Move) (xs ms cs : List ℕ) → Passes (move_tableau_run n m xs ms cs).0
    → MovedAt m xs (in_letters (move_tableau_run n m xs ms cs))
tableau_moved_at n m xs ms cs h =
    let (a, t) = taken_in n m xs ms cs h in
    let same = one_run n m xs ms cs a t in
    moved_at n m (below m.index xs ms) xs _ (in_letters (move_tableau_run n m xs ms cs))
    (λ p e. same ∙ ap in_letters (move_tableau-made n m xs ms a p e)) (λ e. same ∙ ap in_letters (move_tableau_refused n m xs ms a e)) h

-- By the definition of the move, on a tableau within the limits with its counts.
module _ (n : ℕ) (m : Move) (xs ms : List ℕ) (a : TableauAt n xs ms) where
  pub tableau_made : (ys : List ℕ) → move_tableau n m xs ms ≡ some ys
      → (c : ℕ) × (move_tableau_run n m xs ms (counts_of xs) ≡ (gives (c ∷ []), with_counts ys))
  unfolding move_tableau
  tableau_made =
      made with_counts n m (below m.index xs ms) xs _ (move_tableau_run n m xs ms (counts_of xs)) (move_tableau-made n m xs ms a) (move_tableau_refused n m xs ms a)

  pub tableau_unmade : move_tableau n m xs ms ≡ none
      → move_tableau_run n m xs ms (counts_of xs) ≡ (refused (undefined_by n m (below m.index xs ms)) 0, with_counts xs)
  unfolding move_tableau
  tableau_unmade =
      unmade with_counts n m (below m.index xs ms) xs _ (move_tableau_run n m xs ms (counts_of xs)) (move_tableau-made n m xs ms a) (move_tableau_refused n m xs ms a)
