-- A new entry in a ribbon: where it may be put so that the ribbon stays a ribbon, and that insertion puts it so.
--     rising_of_along            the letters of a tableau never fall
--     Seated S a k xs            the steps into and out of a, put before which k entries of xs stand, keep S: right into it, down out of it
--     ribbon_put                 a ribbon with a put in so is a ribbon
--     seated_letter, seated_entry   insertion seats a letter so, and a recording entry above all others can stand anywhere
-- Assumes nothing.
use Prim.Native.Nat.{ℕ, zero, suc, ◌≤◌, ◌<◌}
use native.Mathlib.Decide.{dec_le}
use native.Mathlib.Omega.{arith}
use mathlib.Core.Path.{refl}
use mathlib.Core.Logic.{dite}
use mathlib.Core.List.{List, [], ◌∷◌}
use lib.ListN.{length}
use Rattle.hypoplactic.specs.Ribbons.{Along, EntryStep, LetterStep, Ribbon}
use Rattle.hypoplactic.specs.Insertion.{put_at, put_mark, seat}
use Rattle.hypoplactic.proofs.Theory.Pairs.{Rising, seat_high, seat_low}

-- The letters of a tableau never fall.
pub rising_of_along : (x : ℕ) (xs ms : List ℕ) → Along LetterStep x xs ms → Rising x xs
rising_of_along x [] ms h = tt
rising_of_along x (y ∷ ys) [] h = absurd h
rising_of_along x (y ∷ ys) (zero ∷ ms) h = (h.0, rising_of_along y ys ms h.1)
rising_of_along x (y ∷ ys) (suc zero ∷ ms) h = let l : x < y = h.0 in (omega arith, rising_of_along y ys ms h.1)
rising_of_along x (y ∷ ys) (suc (suc m) ∷ ms) h = absurd h.0

-- Right into a, down out of it.
abbrev pub Seated : (ℕ → ℕ → ℕ → Type 0) → ℕ → ℕ → List ℕ → Type 0
Seated S a zero [] = Unit {0}
Seated S a zero (y ∷ ys) = S 1 a y
Seated S a (suc k) [] = ⊥
Seated S a (suc zero) (x ∷ xs) = S 0 x a × Seated S a zero xs
Seated S a (suc (suc k)) (x ∷ xs) = Seated S a (suc k) xs

-- The same with one entry more in front.
seated_over : (S : ℕ → ℕ → ℕ → Type 0) (a x k : ℕ) (xs : List ℕ) → S 0 x a → Seated S a k xs → Seated S a (suc k) (x ∷ xs)
seated_over S a x zero xs h s = (h, s)
seated_over S a x (suc k) xs h s = s

-- Insertion seats a letter between those at most a and those above it.
pub seated_letter : (a k : ℕ) (xs : List ℕ) → Rising k xs → Seated LetterStep a (seat a xs) xs
seated_letter a k [] h = tt
seated_letter a k (x ∷ xs) h = dite (dec_le x a)
    (λ (low : x ≤ a). rw (seat_low a x xs low) (seated_over LetterStep a x (seat a xs) xs low (seated_letter a x xs h.1)))
    (λ (high : ¬ (x ≤ a)). let l : a < x = omega arith in rw (seat_high a x (x ∷ xs) l (omega arith, h.1)) l)

-- Every entry is below e.
abbrev pub Under : ℕ → List ℕ → Type 0
Under e [] = Unit {0}
Under e (r ∷ rs) = (r < e) × Under e rs

-- A recording entry above all others may stand at any place.
pub seated_entry : (e k : ℕ) (rs : List ℕ) → k ≤ length rs → Under e rs → Seated EntryStep e k rs
seated_entry e zero [] h u = tt
seated_entry e zero (r ∷ rs) h u = u.0
seated_entry e (suc k) [] h u = let z : ⊥ = omega arith in z
seated_entry e (suc k) (r ∷ rs) h u = seated_over EntryStep e r k rs u.0 (seated_entry e k rs (omega arith) u.1)

-- A ribbon with a new entry so seated is a ribbon.
along_put : (S : ℕ → ℕ → ℕ → Type 0) (a x k : ℕ) (xs ms : List ℕ)
    → Along S x xs ms → Seated S a (suc k) (x ∷ xs) → Along S x (put_at k a xs) (put_mark k ms)
along_put S a x zero [] [] h s = (s.0, tt)
along_put S a x zero [] (m ∷ ms) h s = absurd h
along_put S a x zero (y ∷ ys) [] h s = absurd h
along_put S a x zero (y ∷ ys) (m ∷ ms) h s = (s.0, (s.1, h.1))
along_put S a x (suc k) [] ms h s = absurd s
along_put S a x (suc k) (y ∷ ys) [] h s = absurd h
along_put S a x (suc k) (y ∷ ys) (m ∷ ms) h s = (h.0, along_put S a y k ys ms h.1 s)

pub ribbon_put : (S : ℕ → ℕ → ℕ → Type 0) (a k : ℕ) (xs ms : List ℕ)
    → Ribbon S xs ms → Seated S a k xs → Ribbon S (put_at k a xs) (put_mark k ms)
ribbon_put S a zero [] [] h s = (refl, tt)
ribbon_put S a zero [] (m ∷ ms) h s = absurd h
ribbon_put S a zero (y ∷ ys) [] h s = absurd h
ribbon_put S a zero (y ∷ ys) (m ∷ ms) h s = (refl, (s, h.1))
ribbon_put S a (suc k) [] ms h s = absurd s
ribbon_put S a (suc k) (y ∷ ys) [] h s = absurd h
ribbon_put S a (suc k) (y ∷ ys) (m ∷ ms) h s = (h.0, along_put S a y k ys ms h.1 s)
