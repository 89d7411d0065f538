-- The paper's example after Algorithm 3.2, for 2213 (the paper prints it under the name 4323), and 4323 itself. Assumes nothing.
use mathlib.Core.Path.{◌≡◌, refl}
use mathlib.Core.List.{[], ◌∷◌}
use Rattle.plactic.specs.Young.{cell}
use Rattle.plactic.specs.FlatForm.{flat_of, rows_in}
use Rattle.plactic.specs.Schensted.{young_of}
use Rattle.plactic.specs.WayBack.{word_of_young}

-- 2213: rows 1 2 3 and 2, standard rows 1 2 4 and 3,
pub young_2213 : young_of (2 ∷ 2 ∷ 1 ∷ 3 ∷ []) ≡ (cell 1 1 ∷ cell 2 2 ∷ cell 3 4 ∷ []) ∷ (cell 2 3 ∷ []) ∷ []
unfolding young_of
young_2213 = refl

pub back_2213 : word_of_young ((cell 1 1 ∷ cell 2 2 ∷ cell 3 4 ∷ []) ∷ (cell 2 3 ∷ []) ∷ []) ≡ 2 ∷ 2 ∷ 1 ∷ 3 ∷ []
unfolding word_of_young
back_2213 = refl

-- and 4323: rows 2 3, 3 and 4, standard rows 1 4, 2 and 3.
pub young_4323 : young_of (4 ∷ 3 ∷ 2 ∷ 3 ∷ []) ≡ (cell 2 1 ∷ cell 3 4 ∷ []) ∷ (cell 3 2 ∷ []) ∷ (cell 4 3 ∷ []) ∷ []
unfolding young_of
young_4323 = refl

pub flat_4323 : rows_in (flat_of (young_of (4 ∷ 3 ∷ 2 ∷ 3 ∷ []))) ≡ young_of (4 ∷ 3 ∷ 2 ∷ 3 ∷ [])
unfolding young_of rows_in
flat_4323 = refl
