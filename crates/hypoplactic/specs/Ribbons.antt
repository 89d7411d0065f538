-- Quasi-ribbon tableaux and recording ribbons in ribbon order, from the top left cell to the bottom right (paper, section 4; document 01,
-- "Words, ribbons, lines"). A ribbon is a list of entries beside a list of marks, one for the step into each cell: 0 right, 1 down.
--     Ribbon S xs ms      as many entries as marks, the first mark 0, and S holds of every step: of its mark and the entries before and after it
--     Tableau xs ms       the letters xs with the marks ms are a quasi-ribbon tableau
--     Recording ms rs     the entries rs are a recording ribbon of the shape that the marks ms tell
--     Simple rs           no entry stands twice
--     ValidPair xs ms rs  both
--     TableauAt n xs ms, PairAt n xs ms rs   the same within the limits of rank n
--     down_step f xs ms    some down step joins two entries that pass the test f
--     steps_to m ms k      the steps with mark m up to a cell; row_at, column_at: the row and the column of a cell, from 0
-- Assumes nothing.
use Rattle.std.specs.Prelude.{ℕ, zero, suc, ◌≤◌, ◌<◌, ◌≡◌, List, [], ◌∷◌, Bool, false, ◌&&◌, ◌||◌, eqb, length, take, drop}
use Rattle.hypoplactic.specs.Words.{Accepted, count}

-- The cells after one that holds x.
abbrev pub Along : (ℕ → ℕ → ℕ → Type 0) → ℕ → List ℕ → List ℕ → Type 0
Along S x [] [] = Unit {0}
Along S x [] (m ∷ ms) = ⊥
Along S x (y ∷ ys) [] = ⊥
Along S x (y ∷ ys) (m ∷ ms) = S m x y × Along S y ys ms

-- A ribbon whose steps all keep S.
abbrev pub Ribbon : (ℕ → ℕ → ℕ → Type 0) → List ℕ → List ℕ → Type 0
Ribbon S [] [] = Unit {0}
Ribbon S [] (m ∷ ms) = ⊥
Ribbon S (x ∷ xs) [] = ⊥
Ribbon S (x ∷ xs) (m ∷ ms) = (m ≡ 0) × Along S x xs ms

-- Letters: a right step does not fall, a down step joins a smaller letter to a larger one.
abbrev pub LetterStep : ℕ → ℕ → ℕ → Type 0
LetterStep zero x y = x ≤ y
LetterStep (suc zero) x y = x < y
LetterStep (suc (suc m)) x y = ⊥

-- Recording entries: a right step rises, a down step falls.
abbrev pub EntryStep : ℕ → ℕ → ℕ → Type 0
EntryStep zero x y = x < y
EntryStep (suc zero) x y = y < x
EntryStep (suc (suc m)) x y = ⊥

-- A quasi-ribbon tableau.
abbrev pub Tableau : List ℕ → List ℕ → Type 0
Tableau xs ms = Ribbon LetterStep xs ms

-- A recording ribbon beside a tableau of the same shape: each of 1 to L once.
pub record Recording (ms rs : List ℕ) : Type 0 where
  pub steps : Ribbon EntryStep rs ms
  pub once : (e : ℕ) → 1 ≤ e → e ≤ length rs → count e rs ≡ 1

-- No entry stands twice.
abbrev pub Simple : List ℕ → Type 0
Simple rs = (e : ℕ) → count e rs ≤ 1

-- A tableau and a recording ribbon of one shape.
pub record ValidPair (xs ms rs : List ℕ) : Type 0 where
  pub tableau : Tableau xs ms
  pub recording : Recording ms rs

-- A tableau within the limits of rank n.
pub record TableauAt (n : ℕ) (xs ms : List ℕ) : Type 0 where
  pub word : Accepted n xs
  pub tableau : Tableau xs ms

-- A pair within the limits of rank n.
pub record PairAt (n : ℕ) (xs ms rs : List ℕ) : Type 0 where
  pub word : Accepted n xs
  pub pair : ValidPair xs ms rs

-- Whether a down step joins entries that pass a test, in the cells after one that holds x.
abbrev pub down_after : (ℕ → ℕ → Bool) → ℕ → List ℕ → List ℕ → Bool
down_after f x [] ms = false
down_after f x (y ∷ ys) [] = false
down_after f x (y ∷ ys) (m ∷ ms) = f x y && eqb m 1 || down_after f y ys ms

-- The same from the first cell on.
abbrev pub down_step : (ℕ → ℕ → Bool) → List ℕ → List ℕ → Bool
down_step f [] ms = false
down_step f (x ∷ xs) [] = false
down_step f (x ∷ xs) (m ∷ ms) = down_after f x xs ms

-- The steps with mark m on the way to the cell at place k. The first cell's mark is no step.
abbrev pub steps_to : ℕ → List ℕ → ℕ → ℕ
steps_to m ms k = count m (take k (drop 1 ms))

-- The row of the cell at place k: the down steps up to it.
abbrev pub row_at : List ℕ → ℕ → ℕ
row_at ms k = steps_to 1 ms k

-- The column of the cell at place k: the right steps up to it.
abbrev pub column_at : List ℕ → ℕ → ℕ
column_at ms k = steps_to 0 ms k
