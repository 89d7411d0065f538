-- Taking the cell with the largest entry out of a valid pair of letters and recording entries.
--     once_without, under_once     without the largest entry each of the others stands once, and no entry is above their number
--     Ordered x r xs rs            the cells after one with the letter x and the entry r: letters never fall, and rise where entries fall
--     ordered_ribbon               the cells of a valid pair are ordered so
--     ordered_without              and so are those left when the one with the largest entry is taken out
--     put_back                     insertion of its letter then puts it where it stood
-- Assumes nothing.
use Prim.Native.Nat.{ℕ, zero, suc, ◌≤◌, ◌<◌}
use native.Mathlib.Omega.{arith}
use mathlib.Core.Path.{◌≡◌, refl, ap, sym, ◌∙◌}
use mathlib.Core.List.{List, [], ◌∷◌}
use lib.ListN.{length}
use borrow.Author.Tests.{ne_eqb}
use Rattle.hypoplactic.specs.Ribbons.{Along, EntryStep, LetterStep, Ribbon, Tableau}
use Rattle.hypoplactic.specs.Insertion.{put_at, seat}
use Rattle.hypoplactic.proofs.Theory.Pairs.{Rising, seat_high, seat_low}
use Rattle.hypoplactic.proofs.Theory.Placing.{Placed, here, later, Once, Without, count_placed, length_placed, placed_out, under_larger, under_placed}
use Rattle.hypoplactic.proofs.Theory.Seating.{Under}

-- ---- entries

-- Without the largest entry each of the others still stands once.
pub once_without : (n : ℕ) {a : ℕ} {xs rs ys ss : List ℕ} → Placed a (suc n) xs rs ys ss → Once (suc n) ss → Once n rs
once_without n p h e l k = sym (count_placed e p ∙ rw (ne_eqb (suc n) e (omega arith))) ∙ h e l (omega arith)

-- If each of 1 to n stands once among n entries, none is above n.
pub under_once : (n : ℕ) (rs : List ℕ) → length rs ≡ n → Once n rs → Under (suc n) rs
under_once zero [] l h = tt
under_once zero (r ∷ rs) l h = let z : ⊥ = omega arith in absurd z
under_once (suc n) rs l h =
    let out : Without (suc n) rs rs = placed_out (suc n) rs rs refl (omega (arith, h (suc n) (omega arith) (omega arith))) in
    let few : length out.entries ≡ n = omega (arith, (length_placed out.placed).1) in
    under_placed (suc (suc n)) out.placed (omega arith)
    (under_larger (suc n) (suc (suc n)) out.entries (omega arith) (under_once n out.entries few (once_without n out.placed h)))

-- ---- cells in order

-- The cells after one with the letter x and the entry r: letters never fall, and rise where entries fall.
abbrev pub Ordered : ℕ → ℕ → List ℕ → List ℕ → Type 0
Ordered x r [] [] = Unit {0}
Ordered x r [] (s ∷ ss) = ⊥
Ordered x r (y ∷ ys) [] = ⊥
Ordered x r (y ∷ ys) (s ∷ ss) = (x ≤ y) × (s < r → x < y) × Ordered y s ys ss

ordered_along : (x r : ℕ) (xs ms rs : List ℕ) → Along LetterStep x xs ms → Along EntryStep r rs ms → Ordered x r xs rs
ordered_along x r [] [] [] h k = tt
ordered_along x r [] [] (s ∷ ss) h k = k
ordered_along x r [] (m ∷ ms) rs h k = absurd h
ordered_along x r (y ∷ ys) [] rs h k = absurd h
ordered_along x r (y ∷ ys) (m ∷ ms) [] h k = k
ordered_along x r (y ∷ ys) (zero ∷ ms) (s ∷ ss) h k =
    let up : r < s = k.0 in (h.0, (λ (q : s < r). omega arith), ordered_along y s ys ms ss h.1 k.1)
ordered_along x r (y ∷ ys) (suc zero ∷ ms) (s ∷ ss) h k =
    let up : x < y = h.0 in (omega arith, (λ (q : s < r). up), ordered_along y s ys ms ss h.1 k.1)
ordered_along x r (y ∷ ys) (suc (suc m) ∷ ms) (s ∷ ss) h k = absurd h.0

-- The cells of a valid pair are in order.
pub ordered_ribbon : (xs ms rs : List ℕ) → Tableau xs ms → Ribbon EntryStep rs ms → Ordered 0 0 xs rs
ordered_ribbon [] [] [] h k = tt
ordered_ribbon [] [] (r ∷ rs) h k = k
ordered_ribbon [] (m ∷ ms) rs h k = absurd h
ordered_ribbon (x ∷ xs) [] rs h k = absurd h
ordered_ribbon (x ∷ xs) (m ∷ ms) [] h k = k
ordered_ribbon (x ∷ xs) (m ∷ ms) (r ∷ rs) h k = (omega arith, (λ (q : r < 0). omega arith), ordered_along x r xs ms rs h.1 k.1)

pub ordered_lengths : (x r : ℕ) (xs rs : List ℕ) → Ordered x r xs rs → length xs ≡ length rs
ordered_lengths x r [] [] h = refl
ordered_lengths x r [] (s ∷ ss) h = absurd h
ordered_lengths x r (y ∷ ys) [] h = absurd h
ordered_lengths x r (y ∷ ys) (s ∷ ss) h = ap suc (ordered_lengths y s ys ss h.2)

ordered_rising : (x r : ℕ) (xs rs : List ℕ) → Ordered x r xs rs → Rising x xs
ordered_rising x r [] rs h = tt
ordered_rising x r (y ∷ ys) [] h = absurd h
ordered_rising x r (y ∷ ys) (s ∷ ss) h = (h.0, ordered_rising y s ys ss h.2)

-- ---- the cell with the largest entry

-- The letter after it is larger, so that it can be left out,
ordered_over : (x r a e : ℕ) (xs rs : List ℕ) → x ≤ a → Under e rs → Ordered a e xs rs → Ordered x r xs rs
ordered_over x r a e [] [] l u h = tt
ordered_over x r a e [] (s ∷ ss) l u h = h
ordered_over x r a e (y ∷ ys) [] l u h = h
ordered_over x r a e (y ∷ ys) (s ∷ ss) l u h =
    let up : a < y = h.1 u.0 in (omega arith, (λ (q : s < r). omega arith), h.2)

-- and insertion seats its letter first.
seat-before : (a e : ℕ) (xs rs : List ℕ) → Under e rs → Ordered a e xs rs → seat a xs ≡ 0
seat-before a e [] rs u h = refl
seat-before a e (y ∷ ys) [] u h = absurd h
seat-before a e (y ∷ ys) (s ∷ ss) u h = seat_high a y (y ∷ ys) (h.1 u.0) (omega arith, ordered_rising y s ys ss h.2)

-- Without it the cells are in order.
pub ordered_without : {a e : ℕ} (x r : ℕ) {xs rs ys ss : List ℕ} → Placed a e xs rs ys ss → Under e rs → Ordered x r ys ss → Ordered x r xs rs
ordered_without {a} {e} x r (here {xs = xs} {rs = rs}) u h = ordered_over x r a e xs rs h.0 u h.2
ordered_without x r (later {x = y} {r = s} p) u h = (h.0, h.1, ordered_without y s p u.1 h.2)

-- Its letter is at least those before it.
letter_after : {a e : ℕ} (x r : ℕ) {xs rs ys ss : List ℕ} → Placed a e xs rs ys ss → Ordered x r ys ss → x ≤ a
letter_after x r here h = h.0
letter_after x r (later {x = y} {r = s} p) h = let l : x ≤ y = h.0 in omega (arith, letter_after y s p h.2)

-- Insertion of its letter puts the cell back where it stood.
pub put_back : {a e : ℕ} (x r : ℕ) {xs rs ys ss : List ℕ} → Placed a e xs rs ys ss → Under e rs → Ordered x r ys ss
    → (put_at (seat a xs) a xs ≡ ys) × (put_at (seat a xs) e rs ≡ ss)
put_back {a} {e} x r (here {xs = xs} {rs = rs}) u h =
    let first : seat a xs ≡ 0 = seat-before a e xs rs u h.2 in
    (rw first, rw first)
put_back {a} {e} x r (later {x = y} {r = s} {xs = xs} {rs = rs} {ys = ys} {ss = ss} p) u h =
    let over : seat a (y ∷ xs) ≡ suc (seat a xs) = seat_low a y xs (letter_after y s p h.2) in
    let rest : (put_at (seat a xs) a xs ≡ ys) × (put_at (seat a xs) e rs ≡ ss) = put_back y s p u.1 h.2 in
    (rw over (ap (λ (zs : List ℕ). y ∷ zs) rest.0), rw over (ap (λ (zs : List ℕ). s ∷ zs) rest.1))
