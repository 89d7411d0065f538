-- Worked values of compositions and multinomial coefficients, computed by the checker from the definitions.
--     choose-values, multinomial-values     coefficients
--     coarser-values, coarser-none          the compositions coarser than 1 2 1, and than that of no part
--     shape_143214, sums_143214             the paper's first example of Theorem 8.2: from the tableau of the word to 230 - 211, 19 orders
--     shape_421323, sums_421323             and its other one: 212 - 151, 61 orders
--     shape_12446553275, sums_12446553275   document 01's tableau with the rows 1 2 2, 3, 4 4 5 5 5 and 6 7: its shape backwards is another one
-- Assumes nothing.
use mathlib.Core.Path.{◌≡◌, refl}
use mathlib.Core.Bool.{true, false}
use mathlib.Core.List.{[], ◌∷◌}
use Rattle.hypoplactic.specs.Insertion.{insert, marks_of, pair_of}
use Rattle.numbering.specs.Compositions.{choose, coarser, factorial, factorials, multinomial, multinomials, shape_of}
use Rattle.numbering.specs.Orders.{freed, orders}

-- ---- coefficients

pub choose-values : (choose 4 0 ≡ 1) × (choose 4 1 ≡ 4) × (choose 4 2 ≡ 6) × (choose 4 4 ≡ 1) × (choose 4 5 ≡ 0) × (choose 0 0 ≡ 1)
choose-values = (refl, refl, refl, refl, refl, refl)

-- Six things parted into 1, 2, 1 and 2: 720 over 4.
pub multinomial-values : (multinomial (1 ∷ 2 ∷ 1 ∷ 2 ∷ []) ≡ 180) × (factorial 6 ≡ 720) × (factorials (1 ∷ 2 ∷ 1 ∷ 2 ∷ []) ≡ 4)
    × (multinomial (6 ∷ []) ≡ 1) × (multinomial [] ≡ 1)
multinomial-values = (refl, refl, refl, refl, refl)

-- ---- coarser compositions

-- Of 1 2 1: with no merge or two, and with one.
pub coarser-values : (coarser true (1 ∷ 2 ∷ 1 ∷ []) ≡ (1 ∷ 2 ∷ 1 ∷ []) ∷ (4 ∷ []) ∷ [])
    × (coarser false (1 ∷ 2 ∷ 1 ∷ []) ≡ (1 ∷ 3 ∷ []) ∷ (3 ∷ 1 ∷ []) ∷ [])
coarser-values = (refl, refl)

-- Of no part, the shape of no cell: itself, with no merge.
pub coarser-none : (shape_of [] ≡ []) × (coarser true [] ≡ [] ∷ []) × (coarser false [] ≡ [])
coarser-none = (refl, refl, refl)

-- ---- Theorem 8.2

pub shape_143214 : shape_of (marks_of (1 ∷ 4 ∷ 3 ∷ 2 ∷ 1 ∷ 4 ∷ [])) ≡ 2 ∷ 1 ∷ 1 ∷ 2 ∷ []
unfolding pair_of insert
shape_143214 = refl

pub sums_143214 : (multinomials (coarser true (2 ∷ 1 ∷ 1 ∷ 2 ∷ [])) ≡ 230) × (multinomials (coarser false (2 ∷ 1 ∷ 1 ∷ 2 ∷ [])) ≡ 211)
    × (orders (freed (marks_of (1 ∷ 4 ∷ 3 ∷ 2 ∷ 1 ∷ 4 ∷ []))) ≡ 19)
unfolding pair_of insert orders
sums_143214 = (refl, refl, refl)

pub shape_421323 : shape_of (marks_of (4 ∷ 2 ∷ 1 ∷ 3 ∷ 2 ∷ 3 ∷ [])) ≡ 1 ∷ 2 ∷ 2 ∷ 1 ∷ []
unfolding pair_of insert
shape_421323 = refl

pub sums_421323 : (multinomials (coarser true (1 ∷ 2 ∷ 2 ∷ 1 ∷ [])) ≡ 212) × (multinomials (coarser false (1 ∷ 2 ∷ 2 ∷ 1 ∷ [])) ≡ 151)
    × (orders (freed (marks_of (4 ∷ 2 ∷ 1 ∷ 3 ∷ 2 ∷ 3 ∷ []))) ≡ 61)
unfolding pair_of insert orders
sums_421323 = (refl, refl, refl)

pub shape_12446553275 : shape_of (marks_of (1 ∷ 2 ∷ 4 ∷ 4 ∷ 6 ∷ 5 ∷ 5 ∷ 3 ∷ 2 ∷ 7 ∷ 5 ∷ [])) ≡ 3 ∷ 1 ∷ 5 ∷ 2 ∷ []
unfolding pair_of insert
shape_12446553275 = refl

pub sums_12446553275 : (multinomials (coarser true (3 ∷ 1 ∷ 5 ∷ 2 ∷ [])) ≡ 28270) × (multinomials (coarser false (3 ∷ 1 ∷ 5 ∷ 2 ∷ [])) ≡ 12871)
    × (orders (freed (marks_of (1 ∷ 2 ∷ 4 ∷ 4 ∷ 6 ∷ 5 ∷ 5 ∷ 3 ∷ 2 ∷ 7 ∷ 5 ∷ []))) ≡ 15399)
unfolding pair_of insert orders
sums_12446553275 = (refl, refl, refl)
