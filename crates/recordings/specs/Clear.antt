-- The first pass of the check 7: it leaves at no place and tells whether a fault stands anywhere. Where none does the check passes; where one does, the
-- scan for the first place decides.
--     Cleared whole wrong                    where nothing was seen wrong, the check passes
--     Clearing                               the loop's invariant: where nothing was seen wrong before a place, the scan comes to that place
--     start_clear, turn_clear, end_clear     where it begins, after one more place, past the last one
--     clear_passed                           where nothing is wrong, the check passes
--     clearing                               the ruleset of the pass
-- Assumes nothing.
use Rattle.std.specs.Prelude.{ℕ, ◌+◌, ◌<◌, ◌≤◌, ◌≡◌, refl, Bool, true, false, not, ◌||◌, []}
use Rattle.std.proofs.Common.{sym, ◌∙◌, true≢false, rules}
use Rattle.outcomes.specs.Replies.{Said, gives}
use Rattle.refusals.specs.Scanning.{Scanning, turn, none}

-- What a pass shows where it saw nothing wrong. Of one that saw something wrong nothing is said.
pub record Cleared (whole : Said) (wrong : Bool) : Type 0 where
  pub passes : wrong ≡ false → gives [] ≡ whole

-- Where nothing was seen wrong before place i, what is left of the scan from there on gives the whole.
pub record Clearing (k : ℕ) (fault : ℕ → Bool) (size : ℕ) (whole : Said) (i : ℕ) (wrong : Bool) : Type 0 where
  pub scan : wrong ≡ false → Scanning k fault size whole i

-- Neither of two tests passes where it is false that one of them does.
neither : (a b : Bool) → (a || b) ≡ false → (a ≡ false) × (b ≡ false)
neither true b e = absurd (true≢false e)
neither false b e = (refl, e)

module _ {k : ℕ} {fault : ℕ → Bool} {size : ℕ} {whole : Said} {i : ℕ} where
  -- Where the scan begins.
  pub start_clear : Scanning k fault size whole i → Clearing k fault size whole i false
  start_clear s = record { scan = λ e. s }

  -- One more place.
  pub turn_clear : {wrong here next : Bool} → next ≡ (wrong || here) → Clearing k fault size whole i wrong → here ≡ fault i → i < size
      → Clearing k fault size whole (i + 1) next
  turn_clear {wrong} {here} e c is l = record { scan = λ n. let (w, h) = neither wrong here (sym e ∙ n) in turn (c.scan w) l is h }

  -- Past the last place.
  pub end_clear : {wrong : Bool} → Clearing k fault size whole i wrong → size ≤ i → Cleared whole wrong
  end_clear c h = record { passes = λ e. none (c.scan e) h }

-- Where nothing is wrong, the check passes.
pub clear_passed : {whole : Said} {wrong : Bool} → Cleared whole wrong → not wrong ≡ true → gives [] ≡ whole
clear_passed {wrong = true} c e = absurd (true≢false (sym e))
clear_passed {wrong = false} c e = c.passes refl

pub ruleset clearing = (start_clear, turn_clear, end_clear, clear_passed, rules)
