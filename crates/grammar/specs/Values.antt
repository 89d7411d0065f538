-- The values that a line can hold and be read back: what the theorems on lines ask of them.
--     Small xs      fewer than 10,000 numbers, each below 10,000
--     Marked xs ms  a mark for each letter, the first 0, each other 0 or 1
--     WGood, TGood  the values of a W line, of a T line; those of an N line are Small
--     CGood         the values of a C line: any two numbers, runs with the first mark 0 and each other 0 or 1
--     MarkedRuns    the marks of runs alone
--     PGood         the values of a P line: those of a T line, and as many entries, which share its count
-- Assumes nothing.
use Rattle.std.specs.Prelude.{ℕ, ◌≤◌, ◌<◌, ◌≡◌, List, [], ◌∷◌, length}
use Rattle.grammar.specs.Lines.{Run}

-- The first item as one predicate says, the others as another.
abbrev pub Items : {A : Type 0} → (A → Type 0) → (A → Type 0) → List A → Type 0
Items First Later [] = Unit
Items First Later (a ∷ l) = First a × Items Later Later l

-- A number that a line can hold: at most four digits.
abbrev pub Short : ℕ → Type 0
Short n = n < 10000

-- Numbers that a line can hold, and no more of them than it can count.
abbrev pub Small : List ℕ → Type 0
Small xs = Short (length xs) × Items Short Short xs

-- As many marks as letters, each 0 or 1.
abbrev pub Stepped : List ℕ → List ℕ → Type 0
Stepped [] [] = Unit
Stepped [] (m ∷ ms) = ⊥
Stepped (x ∷ xs) [] = ⊥
Stepped (x ∷ xs) (m ∷ ms) = (m ≤ 1) × Stepped xs ms

-- And the first mark is 0.
abbrev pub Marked : List ℕ → List ℕ → Type 0
Marked [] [] = Unit
Marked [] (m ∷ ms) = ⊥
Marked (x ∷ xs) [] = ⊥
Marked (x ∷ xs) (m ∷ ms) = (m ≡ 0) × Stepped xs ms

-- What a W line holds: rank and letters.
abbrev pub WGood : ℕ × List ℕ → Type 0
WGood v = Short v.0 × Small v.1

-- What a T line holds: rank, letters and marks.
abbrev pub TGood : ℕ × List ℕ × List ℕ → Type 0
TGood v = Short v.0 × Small v.1 × Marked v.1 v.2

-- A run whose numbers a line can hold, its mark as a predicate says.
abbrev pub RunWith : (ℕ → Type 0) → Run → Type 0
RunWith M r = Short r.letter × Short r.times × M r.mark

-- What a C line holds: rank, a number of cells, and runs.
abbrev pub CGood : ℕ × ℕ × List Run → Type 0
CGood v = Short v.0 × Short v.1 × Items (RunWith (λ m. m ≡ 0)) (RunWith (λ m. m ≤ 1)) v.2

-- Runs of which only the marks are asked.
abbrev pub MarkedRuns : List Run → Type 0
MarkedRuns = Items (λ r. r.mark ≡ 0) (λ r. r.mark ≤ 1)

-- What a P line holds: rank, letters, marks and entries.
abbrev pub PGood : ℕ × List ℕ × List ℕ × List ℕ → Type 0
PGood v = Short v.0 × Small v.1 × Marked v.1 v.2 × (length v.3 ≡ length v.1) × Items Short Short v.3
