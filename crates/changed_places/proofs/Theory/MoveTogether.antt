-- A move on a word beside the same move on the word's tableau, said of the very definitions that their contracts cite.
--     move_together     refused alike, or made in both, the changed cell's recording entry being the word's changed place plus 1; the tableau of the moved
--                       word is the moved tableau, its counts those of the moved word; marks and recording stay
-- Assumes nothing.
use Prim.Native.Nat.{ℕ}
use mathlib.Core.Path.{◌≡◌, refl, sym, ap, ◌∙◌}
use mathlib.Core.Bool.{Bool, true, false, cond}
use mathlib.Core.List.{List}
use mathlib.Core.Option.{Option, none, some, map, none-ne-some}
use lib.ListN.{set}
use Rattle.hypoplactic.specs.Words.{Accepted}
use Rattle.hypoplactic.specs.Ribbons.{TableauAt}
use Rattle.hypoplactic.specs.Insertion.{letters_of, marks_of, recording_of}
use Rattle.quasi_crystal.specs.Moves.{Move, below, given, index_of, inverted, moved_tableau, moved_word, place_in_tableau, place_in_word, replaced}
use Rattle.outcomes.specs.Counts.{counts_of, with_counts}
use Rattle.outcomes.specs.WordOperations.{move_word_run}
use Rattle.outcomes.specs.TableauOperations.{move_tableau_run}
use Rattle.changed_places.specs.ChangedPlaces.{Beside, alike, beside}
use Rattle.changed_places.proofs.Theory.ChangedCells.{changed_cell}
use Rattle.quasi_crystal.proofs.Theory.Closure.{word_tableau_at}
use Rattle.outcomes.proofs.Theory.Counts.{letters-counts}
use Rattle.quasi_crystal.proofs.Theory.MoveRecording.{move_recording}
use Rattle.outcomes.proofs.Theory.MoveResults.{move_replaced, move_tableau-made, move_tableau_refused, move_word-made, move_word_refused}
use Rattle.quasi_crystal.proofs.Theory.MoveTableau.{inversion_below, tableau_answer}
use Rattle.quasi_crystal.proofs.Theory.Targets.{unguarded}

-- A move on an accepted word and the same move on its tableau: refused alike, or made at a place and in a cell that the recording ribbon leads to; the
-- tableau of the word afterwards has the letters and the counts afterwards; its marks, and the recording ribbon, stay.
pub move_together : (n : ℕ) (m : Move) (w : List ℕ) → Accepted n w
    → Beside (recording_of w) (move_word_run n m w).0 (move_tableau_run n m (letters_of w) (marks_of w) (counts_of w)).0
    × ((move_tableau_run n m (letters_of w) (marks_of w) (counts_of w)).1 ≡ (letters_of (move_word_run n m w).1, counts_of (move_word_run n m w).1))
    × (marks_of (move_word_run n m w).1 ≡ marks_of w) × (recording_of (move_word_run n m w).1 ≡ recording_of w)
move_together n m w a = go (place_in_word n m w) (place_in_tableau n m (letters_of w) (marks_of w)) refl refl answer
  where
    new : ℕ
    new = given m.side m.index

    h : TableauAt n (letters_of w) (marks_of w)
    h = word_tableau_at a

    -- The counts of a word are those of its tableau.
    own : move_tableau_run n m (letters_of w) (marks_of w) (counts_of w) ≡ move_tableau_run n m (letters_of w) (marks_of w) (counts_of (letters_of w))
    own = ap (move_tableau_run n m (letters_of w) (marks_of w)) (sym (letters-counts w))

    left : (v : List ℕ) → with_counts (letters_of v) ≡ (letters_of v, counts_of v)
    left v = ap (λ (cs : List ℕ). (letters_of v, cs)) (letters-counts v)

    -- The answer on the tableau is the tableau of the answer on the word.
    answer : replaced new (letters_of w) (place_in_tableau n m (letters_of w) (marks_of w)) ≡ map letters_of (replaced new w (place_in_word n m w))
    answer =
        sym (move_replaced n m (below m.index (letters_of w) (marks_of w)) (letters_of w)) ∙ at_rank (index_of n m.index)
        ∙ ap (map letters_of) (move_replaced n m (inverted m.index w) w)
      where
        at_rank : (t : Bool) → cond t (moved_tableau m (letters_of w) (marks_of w)) none ≡ map letters_of (cond t (moved_word m w) none)
        at_rank true = tableau_answer m w
        at_rank false = refl

    go : (o r : Option ℕ) → place_in_word n m w ≡ o → place_in_tableau n m (letters_of w) (marks_of w) ≡ r
        → replaced new (letters_of w) r ≡ map letters_of (replaced new w o)
        → Beside (recording_of w) (move_word_run n m w).0 (move_tableau_run n m (letters_of w) (marks_of w) (counts_of w)).0
        × ((move_tableau_run n m (letters_of w) (marks_of w) (counts_of w)).1 ≡ (letters_of (move_word_run n m w).1, counts_of (move_word_run n m w).1))
        × (marks_of (move_word_run n m w).1 ≡ marks_of w) × (recording_of (move_word_run n m w).1 ≡ recording_of w)
    go none none e f s =
        rw (move_word_refused n m w a e, own, move_tableau_refused n m (letters_of w) (marks_of w) h f, inversion_below m.index w)
        (alike, left w, refl, refl)
    go none (some c) e f s = absurd (none-ne-some (set (letters_of w) c new) (sym s))
    go (some p) none e f s = absurd (none-ne-some (letters_of (set w p new)) s)
    go (some p) (some c) e f s =
        let (recording, marks) = move_recording m w (set w p new) (ap (replaced new w) (unguarded n m _ e)) in
        let letters : set (letters_of w) c new ≡ letters_of (set w p new) = cc in
        rw (move_word-made n m w a p e, own, move_tableau-made n m (letters_of w) (marks_of w) h c f)
        (beside (changed_cell n m w p c e f), ap with_counts letters ∙ left (set w p new), marks, recording)
