-- The judgements on the steps of a ribbon pass exactly when the ribbon is valid.
--     ribbon-length        a ribbon has as many marks as entries
--     tableau-steps        5 and 6, beside as many marks as letters: the letters and marks are a quasi-ribbon tableau
--     recording_steps      8, beside a tableau's marks and entries of which none stands twice: the entries keep every step
-- Assumes nothing.
use Prim.Native.Nat.{ℕ, zero, suc, ◌≤◌}
use native.Mathlib.Omega.{arith}
use mathlib.Core.Path.{◌≡◌, refl, ap, sym}
use mathlib.Core.Bool.{false, ◌&&◌, ◌||◌}
use mathlib.Core.List.{List, [], ◌∷◌}
use mathlib.Core.Logic.Iff
use mathlib.Core.Logic.{◌↔◌}
use mathlib.Mathlib.Data.Bool.Basic.{or-eq-false-eq-eq-false-and-eq-false as or_false_iff}
use lib.Dec.{eqb, ltb}
use lib.ListN.{length}
use borrow.Author.Tests.{ltb-false, le-ltb, eqb-false, eq-eqb, ne_eqb}
use Rattle.hypoplactic.specs.Words.{All}
use Rattle.hypoplactic.specs.Ribbons.{Along, Ribbon, LetterStep, EntryStep, Simple, Tableau}
use Rattle.outcomes.specs.Replies.{Passes}
use Rattle.outcomes.specs.Judgements.{rising_from, rising_judged, marks_from, marks_judged, step_broken, steps_from, recording_judged}
use Rattle.outcomes.proofs.Theory.Passing.{passes_then}
use Rattle.hypoplactic.proofs.Theory.Occurrences.{count_tail}
use Rattle.outcomes.proofs.Theory.Judgements.{exchange}

along-length : (S : ℕ → ℕ → ℕ → Type 0) (x : ℕ) (xs ms : List ℕ) → Along S x xs ms → length ms ≡ length xs
along-length S x [] [] h = refl
along-length S x [] (m ∷ ms) h = absurd h
along-length S x (y ∷ ys) [] h = absurd h
along-length S x (y ∷ ys) (m ∷ ms) h = ap suc (along-length S y ys ms h.1)

-- A ribbon has as many marks as entries.
pub ribbon-length : (S : ℕ → ℕ → ℕ → Type 0) (xs ms : List ℕ) → Ribbon S xs ms → length ms ≡ length xs
ribbon-length S [] [] h = refl
ribbon-length S [] (m ∷ ms) h = absurd h
ribbon-length S (x ∷ xs) [] h = absurd h
ribbon-length S (x ∷ xs) (m ∷ ms) h = ap suc (along-length S x xs ms h.1)

-- One step: the tests of 5 and 6.
letter_step : (m x y : ℕ) → ((ltb y x ≡ false) × ((ltb 1 m || eqb m 1 && eqb x y) ≡ false)) ↔ LetterStep m x y
letter_step zero x y = (λ h. ltb-false y x h.0, λ h. (le-ltb y x h, refl))
letter_step (suc zero) x y = (λ h. omega (arith, ltb-false y x h.0, eqb-false x y h.1), λ h. (le-ltb y x (omega arith), ne_eqb x y (λ e. omega arith)))
letter_step (suc (suc m)) x y = (λ h. omega (arith, ltb-false 1 (suc (suc m)) ((or_false_iff _ _).0 h.1).0), λ h. absurd h)

letter_steps : (i j x : ℕ) (ys ms : List ℕ) → length ms ≡ length ys → (Passes (rising_from i x ys) × Passes (marks_from j x ys ms)) ↔ Along LetterStep x ys ms
letter_steps i j x [] [] e = (λ h. tt, λ h. (tt, tt))
letter_steps i j x [] (m ∷ ms) e = let z : ⊥ = omega arith in absurd z
letter_steps i j x (y ∷ ys) [] e = let z : ⊥ = omega arith in absurd z
letter_steps i j x (y ∷ ys) (m ∷ ms) e = Iff.trans (Iff.and (passes_then (ltb y x) 5 i _ Iff.rfl Iff.rfl) (passes_then (ltb 1 m || eqb m 1 && eqb x y) 6 j _ Iff.rfl Iff.rfl))
    (Iff.trans exchange (Iff.and (letter_step m x y) (letter_steps (suc i) (suc j) y ys ms (omega arith))))

-- 5 and 6: letters that never fall, marks 0 or 1, the first 0, none down between equals.
pub tableau-steps : (xs ms : List ℕ) → length ms ≡ length xs → (Passes (rising_judged xs) × Passes (marks_judged xs ms)) ↔ Tableau xs ms
unfolding rising_judged marks_judged
tableau-steps [] [] e = (λ h. tt, λ h. (tt, tt))
tableau-steps [] (m ∷ ms) e = let z : ⊥ = omega arith in absurd z
tableau-steps (x ∷ xs) [] e = let z : ⊥ = omega arith in absurd z
tableau-steps (x ∷ xs) (m ∷ ms) e =
    let steps : (Passes (rising_from 1 x xs) × Passes (marks_from 1 x xs ms)) ↔ Along LetterStep x xs ms = letter_steps 1 1 x xs ms (omega arith) in
    let marks : Passes (marks_judged (x ∷ xs) (m ∷ ms)) ↔ ((m ≡ 0) × Passes (marks_from 1 x xs ms)) =
    passes_then (ltb 0 m) 6 0 _ (λ e. omega (arith, ltb-false 0 m e), λ e. le-ltb 0 m (omega arith)) Iff.rfl in
    (λ h. ((marks.0 h.1).0, steps.0 (h.0, (marks.0 h.1).1)), λ h. ((steps.1 h.1).0, marks.1 (h.0, (steps.1 h.1).1)))

marks-small : (x : ℕ) (xs ms : List ℕ) → Along LetterStep x xs ms → All (λ m. m ≤ 1) ms
marks-small x [] [] h = tt
marks-small x [] (m ∷ ms) h = absurd h
marks-small x (y ∷ ys) [] h = absurd h
marks-small x (y ∷ ys) (m ∷ ms) h = (ltb-false 1 m ((or_false_iff _ _).0 ((letter_step m x y).1 h.0).1).0, marks-small y ys ms h.1)

-- One step: the test of 8.
entry_step : (m r s : ℕ) → m ≤ 1 → (r ≡ s → ⊥) → (step_broken m r s ≡ false) ↔ EntryStep m r s
entry_step zero r s small apart = (λ h. omega (arith, ltb-false s r h, apart), λ h. le-ltb s r (omega arith))
entry_step (suc zero) r s small apart = (λ h. omega (arith, ltb-false r s h, apart), λ h. le-ltb r s (omega arith))
entry_step (suc (suc m)) r s small apart = let z : ⊥ = omega arith in absurd z

entry_steps : (i r : ℕ) (ss ms : List ℕ) → length ms ≡ length ss → All (λ m. m ≤ 1) ms → Simple (r ∷ ss)
    → Passes (steps_from i r ss ms) ↔ Along EntryStep r ss ms
entry_steps i r [] [] e small simple = Iff.rfl
entry_steps i r [] (m ∷ ms) e small simple = let z : ⊥ = omega arith in absurd z
entry_steps i r (s ∷ ss) [] e small simple = let z : ⊥ = omega arith in absurd z
entry_steps i r (s ∷ ss) (m ∷ ms) e small simple = passes_then (step_broken m r s) 8 i _ (entry_step m r s small.0 (λ e. omega (arith, rw (eq-eqb r r refl, eq-eqb s r (sym e)) at (simple r))))
    (entry_steps (suc i) s ss ms (omega arith) small.1 (λ e. omega (arith, simple e, count_tail e r (s ∷ ss))))

-- 8: the entries rise at right steps and fall at down steps.
pub recording_steps : (xs ms rs : List ℕ) → Tableau xs ms → length ms ≡ length rs → Simple rs → Passes (recording_judged rs ms) ↔ Ribbon EntryStep rs ms
unfolding recording_judged
recording_steps [] [] [] h e simple = Iff.rfl
recording_steps [] [] (r ∷ rs) h e simple = let z : ⊥ = omega arith in absurd z
recording_steps [] (m ∷ ms) rs h e simple = absurd h
recording_steps (x ∷ xs) [] rs h e simple = absurd h
recording_steps (x ∷ xs) (m ∷ ms) [] h e simple = let z : ⊥ = omega arith in absurd z
recording_steps (x ∷ xs) (m ∷ ms) (r ∷ rs) h e simple =
    let steps : Passes (steps_from 1 r rs ms) ↔ Along EntryStep r rs ms = entry_steps 1 r rs ms (omega arith) (marks-small x xs ms h.1) simple in
    (λ p. (h.0, steps.0 p), λ q. steps.1 q.1)
