-- Same class, same tableau and joined are one and the same (theorem d), so joining is decidable. Assumes nothing.
use Prim.Native.Nat.{ℕ}
use native.Mathlib.Decide.{ℕ_discrete}
use mathlib.Core.Path.{◌≡◌}
use mathlib.Core.Bool.{true}
use mathlib.Core.List.{List, List-discrete}
use mathlib.Core.Logic.Iff
use mathlib.Core.Logic.{◌↔◌}
use Rattle.hypoplactic.specs.Words.{Accepted}
use Rattle.hypoplactic.specs.Rewriting.{Joined}
use Rattle.hypoplactic.specs.Insertion.{letters_of, marks_of}
use Rattle.hypoplactic.specs.Junctions.{same_class}
use Rattle.hypoplactic.proofs.Theory.Invariants.{joined_tableau}
use Rattle.hypoplactic.proofs.Theory.NormalForm.{same_tableau_joined}
use Rattle.hypoplactic.proofs.Theory.Limits.{accepted_within}
use Rattle.hypoplactic.proofs.Theory.SameClass.{same_class_lem}

-- Two words have one tableau exactly when a chain joins them.
pub tableau-joined : (u v : List ℕ) → ((letters_of u ≡ letters_of v) × (marks_of u ≡ marks_of v)) ↔ Joined u v
tableau-joined u v = (λ t. same_tableau_joined u v t.0 t.1, λ j. joined_tableau j)

-- Two words, each accepted at a rank of its own, are of one class exactly when a chain joins them.
pub class_joined : (n m : ℕ) (u v : List ℕ) → Accepted n u → Accepted m v → (same_class u v ≡ true) ↔ Joined u v
class_joined n m u v a b = Iff.trans (same_class_lem u v (accepted_within a) (accepted_within b)) (tableau-joined u v)

-- Whether a chain joins two words is decidable, whatever their letters.
pub joined_decidable : (u v : List ℕ) → Dec (Joined u v)
joined_decidable u v = go (List-discrete ℕ_discrete (letters_of u) (letters_of v)) (List-discrete ℕ_discrete (marks_of u) (marks_of v))
  where
    go : Dec (letters_of u ≡ letters_of v) → Dec (marks_of u ≡ marks_of v) → Dec (Joined u v)
    go (yes p) (yes q) = yes (same_tableau_joined u v p q)
    go (yes p) (no q) = no (λ j. q (joined_tableau j).1)
    go (no p) d = no (λ j. p (joined_tableau j).0)
