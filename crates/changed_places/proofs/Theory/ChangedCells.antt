-- The place that a move changes in a word and the cell that it changes in the word's tableau: the recording ribbon leads from the one to the other.
--     letter_at        an entry that stands once leads to its own cell
--     changed_cell     the recording entry of the changed cell is the word's changed place plus 1
-- The moved word has the moved letters and the same entries (MoveTableau, MoveRecording), so that both words come back from their pairs: they differ where
-- the changed cell's entry says, and, being one move apart, at the changed place and nowhere else.
-- Assumes nothing.
use Prim.Native.Nat.{ℕ, zero, suc, ◌-◌, ◌≤◌, ◌<◌}
use native.Mathlib.Omega.{arith}
use mathlib.Core.Path.{◌≡◌, refl, ap, sym, ◌∙◌}
use mathlib.Core.Logic.{◌≢◌}
use mathlib.Core.Bool.{Bool, true, false, cond}
use mathlib.Core.Option.{some}
use mathlib.Core.List.{List, [], ◌∷◌}
use lib.Dec.{eqb}
use lib.ListN.{length, length-set, get_or, set}
use lib.Seq.{get_or-set_same, get_or-set_other}
use borrow.Author.Tests.{eqb-true, eqb-false, eq-eqb}
use Rattle.hypoplactic.specs.Words.{count, tick}
use Rattle.hypoplactic.specs.Insertion.{letter_with, letters_of, marks_of, recording_of}
use Rattle.quasi_crystal.specs.Moves.{Side, raising, lowering, Move, below, given, moved_word, place_in_tableau, place_in_word, replaced, taken}
use Rattle.changed_places.proofs.Theory.ChangedPlaces.{changed_held}
use Rattle.hypoplactic.proofs.Theory.Contents.{within_at}
use Rattle.hypoplactic.proofs.Theory.Correspondence.{pair_valid, word_of_pair}
use Rattle.hypoplactic.proofs.Theory.Letters.{count_at}
use Rattle.quasi_crystal.proofs.Theory.MoveRecording.{move_recording}
use Rattle.quasi_crystal.proofs.Theory.MoveTableau.{tableau-moved}
use Rattle.hypoplactic.proofs.Theory.Once.{once_entries}
use Rattle.hypoplactic.proofs.Theory.Pairs.{length-letters, length_recording}
use Rattle.hypoplactic.proofs.Theory.Placing.{word_at}
use Rattle.quasi_crystal.proofs.Theory.Targets.{place-below, unguarded}

-- ---- the letter of a cell

-- An entry that stands once leads to its own cell.
letter_at : (xs rs : List ℕ) (c : ℕ) → c < length xs → c < length rs → count (get_or rs c 0) rs ≡ 1 → letter_with (get_or rs c 0) xs rs ≡ get_or xs c 0
letter_at [] rs c l k o = let z : ⊥ = omega arith in absurd z
letter_at (x ∷ xs) [] c l k o = let z : ⊥ = omega arith in absurd z
letter_at (x ∷ xs) (r ∷ rs) zero l k o = rw (eq-eqb r r refl)
letter_at (x ∷ xs) (r ∷ rs) (suc c) l k o = go (eqb r (get_or rs c 0)) o (count_at rs c (omega arith)) (letter_at xs rs c (omega arith) (omega arith))
  where
    go : (t : Bool) → tick t (count (get_or rs c 0) rs) ≡ 1 → 1 ≤ count (get_or rs c 0) rs
        → (count (get_or rs c 0) rs ≡ 1 → letter_with (get_or rs c 0) xs rs ≡ get_or xs c 0) → cond t x (letter_with (get_or rs c 0) xs rs) ≡ get_or xs c 0
    go true o h rest = let z : ⊥ = omega arith in absurd z
    go false o h rest = rest o

-- ---- the changed cell

given-taken : (s : Side) (i : ℕ) → given s i ≢ taken s i
given-taken raising i e = omega arith
given-taken lowering i e = omega arith

-- A move that changes the place p of a word and the cell c of its tableau.
module _ (n : ℕ) (m : Move) (w : List ℕ) (p c : ℕ) (e : place_in_word n m w ≡ some p) (f : place_in_tableau n m (letters_of w) (marks_of w) ≡ some c) where
  abbrev new : ℕ
  new = given m.side m.index

  abbrev v : List ℕ
  v = set w p new

  abbrev entry : ℕ
  entry = get_or (recording_of w) c 0

  made : moved_word m w ≡ some v
  made = ap (replaced new w) (unguarded n m _ e)

  moved-letters : letters_of v ≡ set (letters_of w) c new
  moved-letters =
      let h : some (set (letters_of w) c new) ≡ some (letters_of v) = sym (ap (replaced new (letters_of w)) (unguarded n m _ f)) ∙ tableau-moved m w v made in cc

  -- The recording entry of the cell that a move changes is the place that it changes in the word, plus 1.
  pub changed_cell : get_or (recording_of w) c 0 ≡ suc p
  changed_cell =
      let inside : c < length (letters_of w) = place-below n m (below m.index (letters_of w) (marks_of w)) (letters_of w) c f in
      let (held, none_past) = changed_held (below m.index (letters_of w) (marks_of w)) m (letters_of w) c (unguarded n m _ f) in
      let one_length : length (recording_of w) ≡ length (letters_of w) = length_recording w ∙ sym (length-letters w) in
      let once = (pair_valid w).recording.once in
      let (low, high) = within_at (length (recording_of w)) (recording_of w) c ((once_entries (recording_of w)).0 once).0 (omega arith) in
      let one : count entry (recording_of w) ≡ 1 = once entry low high in
      go (entry - 1) (omega arith) inside held one_length one high
    where
      go : (k : ℕ) → entry ≡ suc k → c < length (letters_of w) → get_or (letters_of w) c 0 ≡ taken m.side m.index
          → length (recording_of w) ≡ length (letters_of w) → count entry (recording_of w) ≡ 1 → entry ≤ length (recording_of w) → entry ≡ suc p
      go k is inside held one_length one high = is ∙ ap suc (decided (eqb k p) refl)
        where
          -- The word's letter there is the one taken, the moved word's the one given.
          before : get_or w k 0 ≡ taken m.side m.index
          before =
              ap (λ (u : List ℕ). get_or u k 0) (sym (word_of_pair w)) ∙ word_at (letters_of w) (recording_of w) k (omega arith)
              ∙ rw (← is) (letter_at (letters_of w) (recording_of w) c inside (omega arith) one) ∙ held

          after : get_or v k 0 ≡ new
          after =
              ap (λ (u : List ℕ). get_or u k 0) (sym (word_of_pair v)) ∙ rw (moved-letters, (move_recording m w v made).0)
              (word_at (set (letters_of w) c new) (recording_of w) k (rw (length-set (letters_of w) c new) (omega arith))
              ∙ rw (← is) (letter_at (set (letters_of w) c new) (recording_of w) c (rw (length-set (letters_of w) c new) inside) (omega arith) one)
              ∙ get_or-set_same (letters_of w) c new 0 inside)

          decided : (t : Bool) → eqb k p ≡ t → k ≡ p
          decided true d = eqb-true k p d
          decided false d = absurd (given-taken m.side m.index (sym after ∙ get_or-set_other w p k new 0 (eqb-false k p d) ∙ before))
