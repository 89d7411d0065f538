-- Compositions and multinomial coefficients (paper, Theorem 8.2). A composition is a list of numbers; the shape of a ribbon is that of its row lengths.
--     choose n k          the ways to choose k of n things, by Pascal's rule
--     factorial n         1 times 2 times .. n; factorials β: the product of the factorials of the parts
--     multinomial β       the ways to part the sum of β into blocks of these sizes. Times factorials β it is the sum's factorial (Theory/Multinomials)
--     shape_of ms          the row lengths of the ribbon that the marks ms tell
--     coarser b α         the compositions coarser than α (neighbouring parts merged): made by an even number of merges for true, by an odd number for false
--     multinomials βs     the sum of the multinomial coefficients of these compositions
-- Assumes nothing.
use Rattle.std.specs.Prelude.{ℕ, zero, suc, ◌+◌, ◌*◌, Bool, not, cond, List, [], ◌∷◌, ◌++◌, map}

abbrev pub choose : ℕ → ℕ → ℕ
choose n zero = 1
choose zero (suc k) = 0
choose (suc n) (suc k) = choose n k + choose n (suc k)

abbrev pub factorial : ℕ → ℕ
factorial zero = 1
factorial (suc n) = suc n * factorial n

abbrev pub factorials : List ℕ → ℕ
factorials [] = 1
factorials (b ∷ bs) = factorial b * factorials bs

abbrev pub total : List ℕ → ℕ
total [] = 0
total (x ∷ xs) = x + total xs

abbrev pub multinomial : List ℕ → ℕ
multinomial [] = 1
multinomial (b ∷ bs) = choose (total bs + b) b * multinomial bs

-- The row lengths from a row on of which c cells are passed: a right step lengthens it, a down step begins the next one.
abbrev pub row_lengths : ℕ → List ℕ → List ℕ
row_lengths c [] = c ∷ []
row_lengths c (zero ∷ ms) = row_lengths (suc c) ms
row_lengths c (suc m ∷ ms) = c ∷ row_lengths 1 ms

-- The first cell's mark is no step.
abbrev pub shape_of : List ℕ → List ℕ
shape_of [] = []
shape_of (m ∷ ms) = row_lengths 1 ms

-- Those coarser than the composition with a part c and then these: c stays apart from the next part, or is merged with it.
abbrev pub coarser_from : Bool → ℕ → List ℕ → List (List ℕ)
coarser_from even c [] = cond even ((c ∷ []) ∷ []) []
coarser_from even c (d ∷ ds) = map (λ (bs : List ℕ). c ∷ bs) (coarser_from even d ds) ++ coarser_from (not even) (c + d) ds

abbrev pub coarser : Bool → List ℕ → List (List ℕ)
coarser even [] = cond even ([] ∷ []) []
coarser even (c ∷ cs) = coarser_from even c cs

abbrev pub multinomials : List (List ℕ) → ℕ
multinomials [] = 0
multinomials (b ∷ bs) = multinomial b + multinomials bs
