-- The junction set and the rows of a word, and the class that it belongs to (document 01, "Junction set", "Same class"; document 02, N5).
--     junction w a     bit a - 1: a occurs, a larger letter occurs, and the next larger letter that occurs stands left of some a
--     junction_set w    the 64 bits as a number
--     rows_of w         0 for the empty word, else one more than the bits set
--     same_class        equal count of each letter, equal junction set
--     down_out a xs ms  the tableau has a down step out of a cell with the letter a
-- Assumes nothing.
use Rattle.std.specs.Prelude.{ℕ, zero, suc, ◌*◌, List, [], ◌∷◌, Bool, true, false, ◌&&◌, cond, eqb, ltb}
use Rattle.std.proofs.Math.Option.{Option, none, some}
use Rattle.std.specs.Int.Count.{ones}
use Rattle.hypoplactic.specs.Words.{before, count, tick}
use Rattle.hypoplactic.specs.Ribbons.{down_step}

-- The smaller of x and another number, if there is another.
abbrev pub least : ℕ → Option ℕ → ℕ
least x none = x
least x (some y) = cond (ltb x y) x y

-- The least letter of the word above a: the next larger letter that occurs.
abbrev pub next_larger : ℕ → List ℕ → Option ℕ
next_larger a [] = none
next_larger a (x ∷ xs) = cond (ltb a x) (some (least x (next_larger a xs))) (next_larger a xs)

-- Some q, if there is one, stands left of some a.
abbrev pub left_of : List ℕ → ℕ → Option ℕ → Bool
left_of w a none = false
left_of w a (some q) = before w a q

-- Whether the next larger letter that occurs stands left of some a (a then occurs).
abbrev pub junction : List ℕ → ℕ → Bool
junction w a = left_of w a (next_larger a w)

-- The number with n binary digits, lowest first: f k, f (k + 1), ..
unfoldable pub number : (ℕ → Bool) → ℕ → ℕ → ℕ
number f zero k = 0
number f (suc n) k = tick (f k) (2 * number f n (suc k))

-- Bit a - 1 is the junction of the letter a.
unfoldable pub junction_set : List ℕ → ℕ
junction_set w = number (junction w) 64 1

unfoldable pub rows_of : List ℕ → ℕ
rows_of [] = 0
rows_of (x ∷ xs) = suc (ones (junction_set (x ∷ xs)))

-- Whether the letters k, k + 1, .., n of them, stand equally often in both words.
abbrev pub same_counts : ℕ → ℕ → List ℕ → List ℕ → Bool
same_counts zero k u v = true
same_counts (suc n) k u v = eqb (count k u) (count k v) && same_counts n (suc k) u v

-- Of one class. A rank bounds the letters of its word and has no part in the class.
unfoldable pub same_class : List ℕ → List ℕ → Bool
same_class u v = same_counts 64 1 u v && eqb (junction_set u) (junction_set v)

-- Out of a, whatever follows.
abbrev pub out_of : ℕ → ℕ → ℕ → Bool
out_of a x y = eqb x a

-- A down step leads out of a cell with the letter a.
abbrev pub down_out : ℕ → List ℕ → List ℕ → Bool
down_out a xs ms = down_step (out_of a) xs ms
