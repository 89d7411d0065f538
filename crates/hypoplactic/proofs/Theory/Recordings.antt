-- The recording ribbon of a word is valid beside its tableau, and a recording ribbon decides its marks.
--     placed_snoc              one letter more at the end of a word is one cell more in its pair
--     under_of_word            the entries of a word of n letters are at most n
--     recording_of_word        the recording ribbon of a word is one, of the shape of its tableau
--     descents rs              1 at each entry below the one before it
--     marks_are_descents       the marks of a recording ribbon are its descents; marks_of_recording, for a word
-- Assumes nothing.
use Prim.Native.Nat.{ℕ, zero, suc, ◌≤◌, ◌<◌}
use native.Mathlib.Decide.{ℕ_discrete}
use native.Mathlib.Numerals.{add-one}
use native.Mathlib.Omega.{arith}
use mathlib.Core.Path.{◌≡◌, refl, ap, ap₂, sym, ◌∙◌}
use mathlib.Core.Logic.{dite}
use mathlib.Core.List.{List, [], ◌∷◌, ◌++◌}
use mathlib.Core.Bool.{Bool, true, false}
use lib.Dec.{leb, ltb}
use lib.ListN.{length, length-append}
use borrow.Author.Tests.{eq-eqb, lt-ltb, le-ltb, ne_eqb}
use Rattle.hypoplactic.specs.Words.{count, tick}
use Rattle.hypoplactic.specs.Ribbons.{Along, EntryStep, Recording, Ribbon}
use Rattle.hypoplactic.specs.Insertion.{letters_of, marks_of, pair_of, reached, recording_of, seat}
use Rattle.hypoplactic.proofs.Theory.Pairs.{length-letters, length_recording, letters_snoc, marks_snoc, recording_snoc, snoc_ind}
use Rattle.hypoplactic.proofs.Theory.Placing.{Once, Placed, count_placed, placed_at, under_larger, under_placed}
use Rattle.hypoplactic.proofs.Theory.Seating.{Under, ribbon_put, seated_entry}

-- One letter more at the end of a word is one cell more in its pair, with the largest entry.
pub placed_snoc : (w : List ℕ) (a : ℕ)
    → Placed a (suc (length w)) (letters_of w) (recording_of w) (letters_of (w ++ (a ∷ []))) (recording_of (w ++ (a ∷ [])))
placed_snoc w a =
    rw (letters_snoc w a, recording_snoc w a)
    (placed_at a (suc (length w)) (seat a (letters_of w)) (letters_of w) (recording_of w) (length-letters w ∙ sym (length_recording w)))

-- ---- entries

-- No entry is above the number of letters.
pub under_of_word : (w : List ℕ) → Under (suc (length w)) (recording_of w)
unfolding pair_of
under_of_word = snoc_ind (λ w. Under (suc (length w)) (recording_of w)) tt step
  where
    step : (w : List ℕ) (a : ℕ) → Under (suc (length w)) (recording_of w) → Under (suc (length (w ++ (a ∷ [])))) (recording_of (w ++ (a ∷ [])))
    step w a u =
        let n : ℕ = suc (length w) in
        rw (length-append w (a ∷ []), add-one (length w))
        (under_placed (suc n) (placed_snoc w a) (omega arith) (under_larger n (suc n) (recording_of w) (omega arith) u))

-- An entry above all others is not counted.
count-above : (e : ℕ) (rs : List ℕ) → Under e rs → count e rs ≡ 0
count-above e [] u = refl
count-above e (r ∷ rs) u = let h : r < e = u.0 in rw (ne_eqb r e (omega arith)) (count-above e rs u.1)

-- Each entry from 1 to the number of letters stands once.
once_of_word : (w : List ℕ) → Once (length w) (recording_of w)
once_of_word = snoc_ind (λ w. Once (length w) (recording_of w)) (λ e l h. omega arith) step
  where
    step : (w : List ℕ) (a : ℕ) → Once (length w) (recording_of w) → Once (length (w ++ (a ∷ []))) (recording_of (w ++ (a ∷ [])))
    step w a ih e l h =
        let n : ℕ = suc (length w) in
        let k : e ≤ n = rw (length-append w (a ∷ []), add-one (length w)) at h in
        count_placed e (placed_snoc w a) ∙ dite (ℕ_discrete n e)
        (λ (q : n ≡ e). rw (eq-eqb n e q, ← q) (ap suc (count-above n (recording_of w) (under_of_word w))))
        (λ (q : ¬ (n ≡ e)). rw (ne_eqb n e q) (ih e l (omega arith)))

-- ---- steps

-- A seat is a place of the list.
seat-le : (a : ℕ) (xs : List ℕ) → seat a xs ≤ length xs
seat-le a [] = omega arith
seat-le a (x ∷ xs) = go (leb x a) (seat a xs) (seat-le a xs)
  where
    go : (b : Bool) (k : ℕ) → k ≤ length xs → reached b k ≤ suc (length xs)
    go true zero h = omega arith
    go false zero h = omega arith
    go true (suc k) h = omega arith
    go false (suc k) h = omega arith

-- Insertion keeps the steps of a recording ribbon: the new entry is above all others.
steps_of_word : (w : List ℕ) → Ribbon EntryStep (recording_of w) (marks_of w)
unfolding pair_of
steps_of_word = snoc_ind (λ w. Ribbon EntryStep (recording_of w) (marks_of w)) tt step
  where
    step : (w : List ℕ) (a : ℕ) → Ribbon EntryStep (recording_of w) (marks_of w) → Ribbon EntryStep (recording_of (w ++ (a ∷ []))) (marks_of (w ++ (a ∷ [])))
    step w a ih =
        let k : ℕ = seat a (letters_of w) in
        let fits : k ≤ length (recording_of w) = omega (arith, seat-le a (letters_of w), length-letters w, length_recording w) in
        rw (recording_snoc w a, marks_snoc w a)
        (ribbon_put EntryStep (suc (length w)) k (recording_of w) (marks_of w) ih (seated_entry (suc (length w)) k (recording_of w) fits (under_of_word w)))

-- The recording ribbon of a word is valid beside its tableau.
pub recording_of_word : (w : List ℕ) → Recording (marks_of w) (recording_of w)
recording_of_word w = record { steps = steps_of_word w; once = rw (length_recording w) (once_of_word w) }

-- ---- descents

-- 1 where an entry is below the one before it, r being the one before the first.
abbrev pub descents_after : ℕ → List ℕ → List ℕ
descents_after r [] = []
descents_after r (s ∷ ss) = tick (ltb s r) 0 ∷ descents_after s ss

-- The first entry is not below one before it.
abbrev pub descents : List ℕ → List ℕ
descents [] = []
descents (r ∷ rs) = 0 ∷ descents_after r rs

marks-after : (r : ℕ) (rs ms : List ℕ) → Along EntryStep r rs ms → ms ≡ descents_after r rs
marks-after r [] [] h = refl
marks-after r [] (m ∷ ms) h = absurd h
marks-after r (s ∷ ss) [] h = absurd h
marks-after r (s ∷ ss) (zero ∷ ms) h = let l : r < s = h.0 in rw (le-ltb s r (omega arith)) (ap (λ (ns : List ℕ). 0 ∷ ns) (marks-after s ss ms h.1))
marks-after r (s ∷ ss) (suc zero ∷ ms) h = rw (lt-ltb s r h.0) (ap (λ (ns : List ℕ). 1 ∷ ns) (marks-after s ss ms h.1))
marks-after r (s ∷ ss) (suc (suc m) ∷ ms) h = absurd h.0

-- A recording ribbon decides the marks of its shape.
pub marks_are_descents : (rs ms : List ℕ) → Ribbon EntryStep rs ms → ms ≡ descents rs
marks_are_descents [] [] h = refl
marks_are_descents [] (m ∷ ms) h = absurd h
marks_are_descents (r ∷ rs) [] h = absurd h
marks_are_descents (r ∷ rs) (m ∷ ms) h = ap₂ ◌∷◌ h.0 (marks-after r rs ms h.1)

-- So the recording ribbon of a word decides the marks of its tableau.
pub marks_of_recording : (w : List ℕ) → marks_of w ≡ descents (recording_of w)
marks_of_recording w = marks_are_descents (recording_of w) (marks_of w) (steps_of_word w)
