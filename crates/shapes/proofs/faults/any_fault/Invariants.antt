-- `shapes::faults::any_fault` meets its contract. The loop's invariant: where nothing was seen wrong, no fault stood before the place. Assumes nothing.
use Rattle.std.proofs.Common.{ℕ, ◌≡◌, ◌<◌, ◌≤◌, false}
use Rattle.shapes.proofs.faults.any_fault.Given as goal

abbrev pub invariant-loop-place : goal.invariant-loop-place
invariant-loop-place g l = l.wrong ≡ false → (k : ℕ) → l.from ≤ k → k < l.place → goal.F-post g l.fault k false
