-- Moves on valid tableaux (paper, section 5; document 01, "Moves").
--     FreeStep i         the steps of a tableau that has no i+1 directly below i
--     tableau_free       a valid tableau with no i+1 directly below i is a ribbon of such steps
--     tableau-turned     a move takes the letters xs of a valid tableau to ys exactly when i+1 is not directly below i and the move turns xs to ys
--     moved_valid        a moved valid tableau is valid, and again without i+1 directly below i
--     undo_moved         the move of the other side takes a moved valid tableau back
--     undo_tableau       raising and lowering undo each other on valid tableaux
-- Assumes nothing.
use Prim.Native.Nat.{ℕ, zero, suc, ◌≤◌, ◌<◌}
use mathlib.Core.Path.{◌≡◌, refl}
use mathlib.Core.Logic.{◌↔◌, ◌≢◌}
use mathlib.Core.List.{List, [], ◌∷◌}
use mathlib.Core.Bool.{Bool, true, false, ◌&&◌, and-false, true≢false}
use mathlib.Core.Option.{some}
use native.Mathlib.Omega.{arith}
use lib.Dec.{eqb}
use borrow.Author.Tests.{eqb-true, eq-eqb, ne_eqb}
use Rattle.hypoplactic.specs.Ribbons.{Along, Ribbon, LetterStep, Tableau, down_after}
use Rattle.quasi_crystal.specs.Moves.{Side, raising, lowering, Move, inverted, from_to, below, moved_tableau}
use Rattle.hypoplactic.proofs.Theory.Seating.{rising_of_along}
use Rattle.hypoplactic.proofs.Theory.Boundary.{along_of_tableau}
use Rattle.quasi_crystal.proofs.Theory.Undo.{Lacks, Changed, here, after, Turned, or_false_both, moved_turned}
use Rattle.quasi_crystal.proofs.Theory.MoveTableau.{rising_upright}

-- ---- tableaux with no i+1 directly below i

-- A step of such a tableau.
abbrev FreeStep : ℕ → ℕ → ℕ → ℕ → Type 0
FreeStep i zero x y = x ≤ y
FreeStep i (suc zero) x y = (x < y) × (x ≡ i → y ≢ suc i)
FreeStep i (suc (suc m)) x y = ⊥

-- It is a step of a tableau at which the test for i+1 directly below i fails.
free_step : (i m x y : ℕ) → LetterStep m x y × ((eqb x i && eqb y (suc i) && eqb m 1) ≡ false) ↔ FreeStep i m x y
free_step i zero x y = (λ h. h.0, λ h. (h, and-false (eqb x i && eqb y (suc i))))
free_step i (suc zero) x y = (λ h. (h.0, λ e f. true≢false (rw (eq-eqb x i e, eq-eqb y (suc i) f) at h.1)), λ h. (h.0, go h.1 (eqb x i) refl))
  where
    go : (x ≡ i → y ≢ suc i) → (t : Bool) → eqb x i ≡ t → (eqb x i && eqb y (suc i) && eqb 1 1) ≡ false
    go n true e = rw (e, ne_eqb y (suc i) (n (eqb-true x i e)))
    go n false e = rw e
free_step i (suc (suc m)) x y = (λ h. h.0, λ h. absurd h)

-- The cells after one that holds x.
along_free : (i x : ℕ) (xs ms : List ℕ) → Along LetterStep x xs ms × (down_after (from_to i) x xs ms ≡ false) ↔ Along (FreeStep i) x xs ms
along_free i x [] [] = (λ h. tt, λ h. (tt, refl))
along_free i x [] (m ∷ ms) = (λ h. h.0, λ h. (h, refl))
along_free i x (y ∷ ys) [] = (λ h. h.0, λ h. (h, refl))
along_free i x (y ∷ ys) (m ∷ ms) =
    let s = free_step i m x y in
    let r = along_free i y ys ms in (
      λ h. let p = or_false_both (eqb x i && eqb y (suc i) && eqb m 1) (down_after (from_to i) y ys ms) h.1 in (s.0 (h.0.0, p.0), r.0 (h.0.1, p.1)),
      λ h. let a = s.1 h.0 in let b = r.1 h.1 in ((a.0, b.0), rw a.1 b.1),
    )

-- A valid tableau with no i+1 directly below i.
tableau_free : (i : ℕ) (xs ms : List ℕ) → Tableau xs ms × (below i xs ms ≡ false) ↔ Ribbon (FreeStep i) xs ms
tableau_free i [] [] = (λ h. tt, λ h. (tt, refl))
tableau_free i [] (m ∷ ms) = (λ h. h.0, λ h. (h, refl))
tableau_free i (x ∷ xs) [] = (λ h. h.0, λ h. (h, refl))
tableau_free i (x ∷ xs) (m ∷ ms) =
    let r = along_free i x xs ms in
    (λ h. (h.0.0, r.0 (h.0.1, h.1)), λ h. let b = r.1 h.1 in ((h.0, b.0), b.1))

-- ---- changed letters

-- The step into the changed letter, and the step out of it.
step_into : (i m p : ℕ) → p ≢ suc i → FreeStep i m p (suc i) ↔ FreeStep i m p i
step_into i zero p ne = (λ h. omega arith, λ h. omega arith)
step_into i (suc zero) p ne = (λ h. let n : p ≢ i = λ e. h.1 e refl in (omega arith, λ e. omega arith), λ h. (omega arith, λ e f. omega arith))
step_into i (suc (suc m)) p ne = (λ h. h, λ h. h)

step_out : (i m y : ℕ) → y ≢ i → FreeStep i m (suc i) y ↔ FreeStep i m i y
step_out i zero y ne = (λ h. omega arith, λ h. omega arith)
step_out i (suc zero) y ne = (λ h. (omega arith, λ e. omega arith), λ h. let n : y ≢ suc i = h.1 refl in (omega arith, λ e. omega arith))
step_out i (suc (suc m)) y ne = (λ h. h, λ h. h)

-- The letters after the changed one.
along_back : (i : ℕ) (xs ms : List ℕ) → Lacks i xs → Along (FreeStep i) (suc i) xs ms ↔ Along (FreeStep i) i xs ms
along_back i [] [] l = (λ h. h, λ h. h)
along_back i [] (m ∷ ms) l = (λ h. h, λ h. h)
along_back i (y ∷ ys) [] l = (λ h. h, λ h. h)
along_back i (y ∷ ys) (m ∷ ms) l = let s = step_out i m y l.0 in (λ h. (s.0 h.0, h.1), λ h. (s.1 h.0, h.1))

-- Changed letters after a letter other than i+1.
along_changed : {i : ℕ} {xs ys : List ℕ} (p : ℕ) (ms : List ℕ) → p ≢ suc i → Changed i xs ys → Along (FreeStep i) p xs ms ↔ Along (FreeStep i) p ys ms
along_changed p [] ne (here l) = (λ h. h, λ h. h)
along_changed {i} p (m ∷ ms) ne (here {back} l) =
    let s = step_into i m p ne in
    let r = along_back i back ms l in
    (λ h. (s.0 h.0, r.0 h.1), λ h. (s.1 h.0, r.1 h.1))
along_changed p [] ne (after n c) = (λ h. h, λ h. h)
along_changed p (m ∷ ms) ne (after {x} n c) = let r = along_changed x ms n c in (λ h. (h.0, r.0 h.1), λ h. (h.0, r.1 h.1))

-- The change keeps a ribbon of free steps, both ways.
ribbon_changed : {i : ℕ} {xs ys : List ℕ} (ms : List ℕ) → Changed i xs ys → Ribbon (FreeStep i) xs ms ↔ Ribbon (FreeStep i) ys ms
ribbon_changed [] (here l) = (λ h. h, λ h. h)
ribbon_changed {i} (m ∷ ms) (here {back} l) = let r = along_back i back ms l in (λ h. (h.0, r.0 h.1), λ h. (h.0, r.1 h.1))
ribbon_changed [] (after n c) = (λ h. h, λ h. h)
ribbon_changed (m ∷ ms) (after {x} n c) = let r = along_changed x ms n c in (λ h. (h.0, r.0 h.1), λ h. (h.0, r.1 h.1))

-- A move from either side keeps such a ribbon.
ribbon-turned : (s : Side) (i : ℕ) (xs ys ms : List ℕ) → Turned s i xs ys → Ribbon (FreeStep i) xs ms → Ribbon (FreeStep i) ys ms
ribbon-turned raising i xs ys ms c h = (ribbon_changed ms c).0 h
ribbon-turned lowering i xs ys ms c h = (ribbon_changed ms c).1 h

-- ---- moves

-- The letters of a valid tableau have no inversion as a word.
pub tableau_upright : (i : ℕ) (xs ms : List ℕ) → Tableau xs ms → inverted i xs ≡ false
tableau_upright i xs ms t = rising_upright i 0 xs (rising_of_along 0 xs ms (along_of_tableau xs ms t))

-- A move on a valid tableau, in the split form.
pub tableau-turned : (m : Move) (xs ys ms : List ℕ) → Tableau xs ms → moved_tableau m xs ms ≡ some ys ↔ (below m.index xs ms ≡ false) × Turned m.side m.index xs ys
tableau-turned m xs ys ms t = moved_turned m (below m.index xs ms) xs ys (λ e. tableau_upright m.index xs ms t)

-- A moved valid tableau is valid, and has no i+1 directly below i.
pub moved_valid : (m : Move) (xs ys ms : List ℕ) → Tableau xs ms → moved_tableau m xs ms ≡ some ys → Tableau ys ms × (below m.index ys ms ≡ false)
moved_valid m xs ys ms t e =
    let p = (tableau-turned m xs ys ms t).0 e in
    (tableau_free m.index ys ms).1 (ribbon-turned m.side m.index xs ys ms p.1 ((tableau_free m.index xs ms).0 (t, p.0)))

-- The side that undoes a side.
abbrev pub opposite : Side → Side
opposite raising = lowering
opposite lowering = raising

turned_back : (s : Side) (i : ℕ) (xs ys : List ℕ) → Turned s i xs ys → Turned (opposite s) i ys xs
turned_back raising i xs ys c = c
turned_back lowering i xs ys c = c

-- The move of the other side takes a moved valid tableau back.
pub undo_moved : (m : Move) (xs ys ms : List ℕ) → Tableau xs ms → moved_tableau m xs ms ≡ some ys → moved_tableau (record { side = opposite m.side; index = m.index }) ys ms ≡ some xs
undo_moved m xs ys ms t e =
    let p = (tableau-turned m xs ys ms t).0 e in
    let q = moved_valid m xs ys ms t e in
    (tableau-turned (record { side = opposite m.side; index = m.index }) ys xs ms q.0).1 (q.1, turned_back m.side m.index xs ys p.1)

-- Raising and lowering undo each other on valid tableaux.
pub undo_tableau : (i : ℕ) (xs ys ms : List ℕ) → Tableau xs ms → Tableau ys ms
    → moved_tableau (record { side = raising; index = i }) xs ms ≡ some ys ↔ moved_tableau (record { side = lowering; index = i }) ys ms ≡ some xs
undo_tableau i xs ys ms t u = (undo_moved (record { side = raising; index = i }) xs ys ms t, undo_moved (record { side = lowering; index = i }) ys xs ms u)
