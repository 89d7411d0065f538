-- 4 and 19 refuse a C line at the first such item, at its index (document 02, N9): each is a scan, as outcomes' specs/FirstPlaces.antt has it for 4 to 8,
-- over the items. With scan-first and scan-passes of its proofs/Theory/FirstPlaces.antt this fixes the place of every refusal with 4 or 19.
--     item_letters-scan     4: the first item whose letter is outside 1 to rank
--     item_fault rs i        the fault that 19 looks for: a letter that is not above the one before it, or a count 0
--     runs-scan             19, where 4 refused nothing: the first item whose letter is not above the one before it, or whose count is 0
-- Assumes nothing.
use Prim.Native.Nat.{ℕ, zero, suc}
use mathlib.Core.Path.{◌≡◌, refl, ap, ap₂, ◌∙◌}
use mathlib.Core.Bool.{Bool, ◌||◌}
use mathlib.Core.List.{List, [], ◌∷◌, map}
use lib.Dec.{eqb, leb}
use lib.ListN.{get_or, length, length-map}
use borrow.Author.Tests.{lt-leb}
use Rattle.grammar.specs.Lines.{Run}
use Rattle.outcomes.specs.FirstPlaces.{scan}
use Rattle.outcomes.specs.Judgements.{letters_judged, outside}
use Rattle.outcomes.specs.Replies.{Passes, Said, refuse_if}
use Rattle.outcomes.proofs.Theory.FirstPlaces.{letters-scan}
use Rattle.outcomes.proofs.Theory.Judgements.{letters-judged}
use Rattle.run_lines.specs.Judgements.{item_letters, runs_from, runs_judged}

-- ---- 4: a letter outside 1 to rank

pub item_letters-scan : (n : ℕ) (rs : List Run) → letters_judged n (item_letters rs) ≡ scan 4 0 (length rs) (λ i. outside n (get_or (item_letters rs) i 0))
item_letters-scan n rs =
    letters-scan n (item_letters rs) ∙ ap (λ (k : ℕ). scan 4 0 k (λ i. outside n (get_or (item_letters rs) i 0))) (length-map rs (λ (r : Run). r.letter))

-- ---- 19: a letter that is not above the one before it, or a count 0

-- The count of each item.
abbrev pub item_times : List Run → List ℕ
item_times = map (λ r. r.times)

-- Of the first item, a count 0; of another, a letter that is not above the one before it, or a count 0.
abbrev pub item_fault : List Run → ℕ → Bool
item_fault rs zero = eqb (get_or (item_times rs) 0 0) 0
item_fault rs (suc i) = leb (get_or (item_letters rs) (suc i) 0) (get_or (item_letters rs) i 0) || eqb (get_or (item_times rs) (suc i) 0) 0

runs_from_lem : (i x : ℕ) (rs : List Run)
    → runs_from i x rs ≡ scan 19 i (length rs) (λ q. leb (get_or (item_letters rs) q 0) (get_or (x ∷ item_letters rs) q 0) || eqb (get_or (item_times rs) q 0) 0)
runs_from_lem i x [] = refl
runs_from_lem i x (r ∷ rs) = ap (refuse_if (leb r.letter x || eqb r.times 0) 19 i) (runs_from_lem (suc i) r.letter rs)

pub runs-scan : (n : ℕ) (rs : List Run) → Passes (letters_judged n (item_letters rs)) → runs_judged rs ≡ scan 19 0 (length rs) (item_fault rs)
unfolding runs_judged
runs-scan n [] h = refl
runs-scan n (r ∷ rs) h = ap₂ (λ (b : Bool) (s : Said). refuse_if (b || eqb r.times 0) 19 0 s)
    (lt-leb r.letter 0 ((letters-judged n (item_letters (r ∷ rs))).0 h).0) (runs_from_lem 1 r.letter rs)
