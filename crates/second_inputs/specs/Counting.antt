-- Places in a second word or tableau.
--     further k f                             the fault f at a place k further on
--     FurtherFits k f                         that place fits 64 bits
--     judged-further                          what a check says that takes it
--     letter_fits, rising-fits, mark_fits     the place that 4, 5 or 6 names fits, counted on from the length of a slice
--     count_fits                              so does the place that 17 names, counted on from 64
--     counting                                the ruleset of the checks that count on
-- Assumes nothing.
use Rattle.std.specs.Prelude.{Option, Some, None, Result}
use Rattle.refusals.specs.declared.refusal.Refusal.{Refusal}
use Rattle.std.specs.Prelude.{ℕ, ◌+◌, ◌*◌, ◌^◌, ◌<◌, ◌≤◌, ◌≡◌, refl, Bool, false, List, [], ◌∷◌, length}
use Rattle.std.proofs.Common.{sym, ap, ◌∙◌, arith, rules}
use Rattle.outcomes.specs.Counts.{count_fault, counts_judged}
use Rattle.outcomes.specs.Replies.{Said, count_on}
use Rattle.outcomes.specs.Judgements.{letters_judged, marks_judged, rising_judged}
use Rattle.outcomes.specs.FirstPlaces.{scan, shorter}
use Rattle.outcomes.proofs.Theory.FirstPlaces.{scan-first, letters-scan, marks-scan, rising-scan}
use Rattle.refusals.specs.Said.{said_fault, said_verdict}
use Rattle.shapes.specs.Faults.{shorter_size}

-- The same fault, k places further on.
abbrev pub further : ℕ → Option ℕ → Option ℕ
further k (Some p) = Some (k + p)
further k None = None

-- That place fits 64 bits, if there is one.
abbrev pub FurtherFits : ℕ → Option ℕ → Type 0
FurtherFits k (Some p) = k + p < 2 ^ 64
FurtherFits k None = Unit {0}

-- ---- what a check says that counts on

-- Of the fault,
further_said : (j k : ℕ) (f : Option ℕ) → said_fault j (further k f) ≡ count_on k (said_fault j f)
further_said j k (Some p) = refl
further_said j k None = refl

-- and of the judgement whose fault it is.
pub judged-further : (v : Result (Unit {0}) Refusal) (f g : Option ℕ) (j k : ℕ) (s : Said) → said_verdict v ≡ said_fault j g → g ≡ further k f → said_fault j f ≡ s
    → said_verdict v ≡ count_on k s
judged-further v f g j k s h q e = h ∙ ap (said_fault j) q ∙ further_said j k f ∙ ap (count_on k) e

-- ---- that the place fits

-- A scan names one of the places that it looks at.
named_fits : (j i size : ℕ) (fault : ℕ → Bool) (f : Option ℕ) (k : ℕ) → said_fault j f ≡ scan j i size fault → k + (i + size) ≤ 2 ^ 64 → FurtherFits k f
named_fits j i size fault (Some p) k e h = let (d, is, at, first) = scan-first j i size fault j p (sym e) in omega (arith, first.within)
named_fits j i size fault None k e h = tt

-- So the place that 4, 5 or 6 names is below the length of the letters, and the lengths of two slices have a sum that fits.
module _ (f : Option ℕ) (k : ℕ) (xs : List ℕ) where
  pub letter_fits : (n : ℕ) → said_fault 4 f ≡ letters_judged n xs → length xs * 1 < 2 ^ 63 → k * 1 < 2 ^ 63 → FurtherFits k f
  letter_fits n e few less = named_fits 4 0 (length xs) _ f k (e ∙ letters-scan n xs) (omega arith)

  pub mark_fits : (ms : List ℕ) → said_fault 6 f ≡ marks_judged xs ms → length xs * 1 < 2 ^ 63 → k * 1 < 2 ^ 63 → FurtherFits k f
  mark_fits ms e few less = named_fits 6 0 (shorter xs ms) _ f k (e ∙ marks-scan xs ms) (omega (arith, shorter_size xs ms))

pub rising-fits : (f : Option ℕ) (k : ℕ) (xs : List ℕ) → said_fault 5 f ≡ rising_judged xs → length xs * 1 < 2 ^ 63 → k * 1 < 2 ^ 63 → FurtherFits k f
unfolding rising_judged
rising-fits f k [] e few less = named_fits 5 0 0 (λ q. false) f k e (omega arith)
rising-fits f k (x ∷ xs) e few less = named_fits 5 1 (length xs) _ f k (e ∙ rising-scan x xs) (omega arith)

-- 17 names one of 64 places.
pub count_fits : (f : Option ℕ) (xs cs : List ℕ) → said_fault 17 f ≡ counts_judged cs xs → FurtherFits 64 f
unfolding counts_judged
count_fits f xs cs e = named_fits 17 0 64 (count_fault cs xs) f 64 e (omega arith)

pub ruleset counting = (judged-further, letter_fits, rising-fits, mark_fits, count_fits, rules)
