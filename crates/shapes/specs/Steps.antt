-- The fault that the check 8 looks for at a place of a recording ribbon, and that the check is the scan for it.
--     step_fault                                           8: the entry at a place breaks the step into its cell
--     step_right, step_down                                the fault of a step, from the comparison that was made
--     start_steps                                          where the scan begins
--     stepping                                             the ruleset of the fault of a step
-- Assumes nothing.
use Rattle.std.specs.Prelude.{ℕ, zero, suc, ◌+◌, ◌-◌, min, ◌≡◌, refl, Bool, List, [], ◌∷◌, ltb, length, get_or}
use Rattle.std.proofs.Common.{◌∙◌, arith, rules}
use Rattle.outcomes.specs.Judgements.{step_broken, recording_judged}
use Rattle.outcomes.specs.FirstPlaces.{shorter}
use Rattle.outcomes.proofs.Theory.FirstPlaces.{recording_scan}
use Rattle.refusals.specs.Scanning.{Scanning, scan_from, scan_from_lem, start}
use Rattle.shapes.specs.Faults.{shorter_size}

-- 8: the entry breaks the step into its cell.
unfoldable pub step_fault : List ℕ → List ℕ → ℕ → Bool
step_fault rs ms p = step_broken (get_or ms p 0) (get_or rs (p - 1) 0) (get_or rs p 0)

pub step_right : (rs ms : List ℕ) (p : ℕ) → get_or ms p 0 ≡ 0 → ltb (get_or rs p 0) (get_or rs (p - 1) 0) ≡ step_fault rs ms p
unfolding step_fault
step_right rs ms p e = rw e

broken_down : (m r s : ℕ) → (m ≡ 0 → ⊥) → ltb r s ≡ step_broken m r s
broken_down zero r s h = absurd (h refl)
broken_down (suc m) r s h = refl

pub step_down : (rs ms : List ℕ) (p : ℕ) → (get_or ms p 0 ≡ 0 → ⊥) → ltb (get_or rs (p - 1) 0) (get_or rs p 0) ≡ step_fault rs ms p
unfolding step_fault
step_down rs ms p h = broken_down (get_or ms p 0) (get_or rs (p - 1) 0) (get_or rs p 0) h

pub start_steps : {size : ℕ} (rs ms : List ℕ) → size ≡ min (length rs) (length ms) → Scanning 8 (step_fault rs ms) size (recording_judged rs ms) 1
unfolding step_fault recording_judged scan_from
start_steps [] ms e = start 0 refl (omega arith)
start_steps (r ∷ rs) [] e = start 0 refl (omega arith)
start_steps (r ∷ rs) (m ∷ ms) e =
    start (shorter rs ms)
    (recording_scan r rs m ms
    ∙ scan_from_lem 8 1 (shorter rs ms) _ (step_fault (r ∷ rs) (m ∷ ms))
    (λ q l. let e : 1 + q - 1 ≡ q = omega arith in let f : 1 + q ≡ suc q = omega arith in rw (e, f)))
    (omega (arith, shorter_size rs ms))

pub ruleset stepping = (step_right, step_down, rules)
