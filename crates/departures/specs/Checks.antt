-- The checks of a departure.
--     window_cells                    4 5 6 17 7 8 of a window
--     cell_checks, depart_checks       what 4 to 8 and 17, and then 18, and what all checks say
--     used_counted                   what a stored pair of the used cells is judged by says the same where 1, 2 and 3 pass
-- Assumes nothing.
use Rattle.std.specs.Prelude.{ℕ, ◌≡◌, refl, List, [], ◌∷◌, ◌++◌, drop, length, take}
use Rattle.std.proofs.Common.{length-take-le}
use Rattle.hypoplactic.specs.Insertion.{Pair, pair_with}
use Rattle.outcomes.specs.Replies.{Said, passed, first}
use Rattle.outcomes.specs.Judgements.{alike_judged, counted_pair_judgements, length_judged, rank_judged}
use Rattle.outcomes.proofs.Theory.Judgements.{alike-judged, length-judged, rank_judged_lem}
use Rattle.outcomes.proofs.Theory.Passing.{Passing, first_past}
use Rattle.refusals.specs.Running.{checks_then}
use Rattle.windows.specs.Departures.{empty_judged, window_judgements}
use Rattle.admissions.specs.Checks.{Sized, size_judgements}

-- What a window is judged by after 1, 2 and 3: 4 to 8 of the used cells, and 17 of the counts of the used letters.
abbrev pub window_cells : ℕ → ℕ → Pair → List ℕ → List Said
window_cells n used p cs = drop 3 (window_judgements n used p cs)

-- What 4 to 8 and 17, and then 18, say.
abbrev pub cell_checks : ℕ → ℕ → Pair → List ℕ → Said
cell_checks n used p cs = checks_then (window_cells n used p cs) (empty_judged used ∷ [])

-- What all checks of a departure say.
unfoldable pub depart_checks : ℕ → ℕ → Pair → List ℕ → Said
depart_checks n used p cs =
    checks_then (size_judgements n used (length p.letters) (length p.marks) (length p.recording)) (window_cells n used p cs ++ (empty_judged used ∷ []))

-- ---- the used cells

-- Of the used cells as a stored pair 1, 2 and 3 refuse nothing, and the rest is judged of them.
pub used_counted : (n used : ℕ) (xs ms rs cs : List ℕ) → Sized n used (length xs) (length ms) (length rs)
    → first (counted_pair_judgements n (take used xs) (take used ms) (take used rs) cs) passed ≡ first (window_cells n used (pair_with xs ms rs) cs) passed
used_counted n used xs ms rs cs h =
    let as_letters : length (take used xs) ≡ used = length-take-le used xs h.in_letters in
    let as_marks : length (take used ms) ≡ used = length-take-le used ms h.in_marks in
    let as_entries : length (take used rs) ≡ used = length-take-le used rs h.in_entries in
    let js : List Said = rank_judged n ∷ length_judged used ∷ alike_judged used (used ∷ used ∷ []) ∷ [] in
    let pass : Passing js
    = ((rank_judged_lem n).1 (h.low, h.high), ((length-judged used).1 h.few, ((alike-judged used (used ∷ used ∷ [])).1 (refl, (refl, tt)), tt))) in
    rw (as_letters, as_marks, as_entries) (first_past js (window_cells n used (pair_with xs ms rs) cs) passed pass)
