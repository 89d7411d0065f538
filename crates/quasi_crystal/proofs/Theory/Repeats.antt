-- A repeat count is the most times that a move can be made, one after the other (document 01, "Moves").
--     times_counted      for words and tableaux at once: a move can be made k times exactly when k is at most the letters that it could change
--     repeat_word_lem        for words
--     repeat_tableau_lem     for valid tableaux
-- Assumes nothing.
use Prim.Native.Nat.{ℕ, zero, suc, ◌≤◌}
use mathlib.Core.Path.{◌≡◌, refl}
use mathlib.Core.Logic.{◌↔◌}
use mathlib.Core.List.{List}
use mathlib.Core.Bool.{Bool, false}
use mathlib.Core.Option.{Option, none, some}
use native.Mathlib.Omega.{arith}
use Rattle.hypoplactic.specs.Ribbons.{Tableau}
use Rattle.quasi_crystal.specs.Moves.{Move, inverted, below, moved, remaining, repeat_word, repeat_tableau, Defined, and_then, times_word, times_tableau}
use Rattle.quasi_crystal.proofs.Theory.Undo.{turned_upright, word_turned}
use Rattle.quasi_crystal.proofs.Theory.MoveCounts.{Counted, moved_counted}
use Rattle.quasi_crystal.proofs.Theory.MoveValid.{tableau_upright, moved_valid}

-- A move on letters that are good, under a test for an inversion: where the test fails the letters have none, and a moved word is good and passes no test.
module _ (m : Move) (Good : List ℕ → Type 0) (test : List ℕ → Bool) (times : ℕ → List ℕ → Option (List ℕ))
    (upright : (w : List ℕ) → Good w → test w ≡ false → inverted m.index w ≡ false)
    (kept : (w v : List ℕ) → Good w → moved (test w) m w ≡ some v → Good v × (test v ≡ false))
    (start : (w : List ℕ) → times zero w ≡ some w) (next : (k : ℕ) (w : List ℕ) → times (suc k) w ≡ and_then (moved (test w) m w) (times k)) where
  -- It can be made as often as there are letters that it could change, and no more often.
  times_counted : (k : ℕ) (w : List ℕ) → Good w → Defined (times k w) ↔ (k ≤ remaining m (test w) w)
  times_counted zero w g = rw (start w) (λ d. omega arith, λ h. tt)
  times_counted (suc k) w g = rw (next k w) (go (moved (test w) m w) refl (times_counted k) (moved_counted m (test w) w (upright w g)))
    where
      go : (o : Option (List ℕ)) → moved (test w) m w ≡ o → ((v : List ℕ) → Good v → Defined (times k v) ↔ (k ≤ remaining m (test v) v))
          → Counted m (test w) w o → Defined (and_then o (times k)) ↔ (suc k ≤ remaining m (test w) w)
      go none e rest c = (λ d. absurd d, λ h. let z : ⊥ = omega arith in z)
      go (some v) e rest c =
          let q = kept w v g e in
          let r : Defined (times k v) ↔ (k ≤ remaining m false v) = rw q.1 at (rest v q.0) in
          (λ d. omega (arith, r.0 d), λ h. r.1 (omega arith))

-- A move can be made on a word as often as its repeat count says, and no more often.
pub repeat_word_lem : (m : Move) (w : List ℕ) (k : ℕ) → Defined (times_word k m w) ↔ (k ≤ repeat_word m w)
unfolding repeat_word
repeat_word_lem m w k = times_counted m (λ w. Unit {0}) (inverted m.index) (λ k w. times_word k m w) (λ w g e. e)
    (λ w v g e. (tt, (turned_upright m.side m.index w v ((word_turned m w v).0 e)).1)) (λ w. refl) (λ k w. refl) k w tt

-- So can it on a valid tableau.
pub repeat_tableau_lem : (m : Move) (xs ms : List ℕ) (k : ℕ) → Tableau xs ms → Defined (times_tableau k m xs ms) ↔ (k ≤ repeat_tableau m xs ms)
unfolding repeat_tableau
repeat_tableau_lem m xs ms k t = times_counted m (λ xs. Tableau xs ms) (λ xs. below m.index xs ms) (λ k xs. times_tableau k m xs ms)
    (λ xs t e. tableau_upright m.index xs ms t) (λ xs ys t e. moved_valid m xs ys ms t e) (λ xs. refl) (λ k xs. refl) k xs t
