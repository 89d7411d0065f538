-- Demand 3 is not vacuous: a word that is accepted, words that a chain of several steps joins, and words that no chain joins. Assumes nothing.
use Prim.Native.Nat.{ℕ}
use native.Mathlib.Omega.{arith}
use mathlib.Core.Path.{◌≡◌, refl, sym, ◌∙◌, ap}
use mathlib.Core.List.{List, [], ◌∷◌}
use lib.ListN.{get_or}
use Rattle.hypoplactic.specs.Words.{Accepted}
use Rattle.hypoplactic.specs.Rewriting.{Joined, same, via, forth, back, bac_bca, bdac_dbca}
use Rattle.hypoplactic.specs.Insertion.{insert, pair_of, marks_of}
use Rattle.hypoplactic.proofs.Theory.Invariants.{joined_tableau}

-- 4323 is accepted at rank 4.
pub accepted_4323 : Accepted 4 (4 ∷ 3 ∷ 2 ∷ 3 ∷ [])
accepted_4323 = omega arith

-- 4323, 4332, 3423, 3243: a chain of three steps, with an empty front and one of one letter, an empty back and one of one letter.
pub chain_4323 : Joined (4 ∷ 3 ∷ 2 ∷ 3 ∷ []) (3 ∷ 2 ∷ 4 ∷ 3 ∷ [])
chain_4323 =
    via (forth (4 ∷ []) [] (bac_bca {a = 2} {b = 3} {c = 3} (omega arith) (omega arith)))
    (via (back [] [] (bdac_dbca {a = 2} {b = 3} {c = 3} {d = 4} (omega arith) (omega arith) (omega arith)))
    (via (back [] (3 ∷ []) (bac_bca {a = 2} {b = 3} {c = 4} (omega arith) (omega arith))) same))

marks_12 : marks_of (1 ∷ 2 ∷ []) ≡ 0 ∷ 0 ∷ []
unfolding pair_of insert
marks_12 = refl

marks_21 : marks_of (2 ∷ 1 ∷ []) ≡ 0 ∷ 1 ∷ []
unfolding pair_of insert
marks_21 = refl

-- 12 and 21 are not joined.
pub apart_12_21 : Joined (1 ∷ 2 ∷ []) (2 ∷ 1 ∷ []) → ⊥
apart_12_21 j =
    let e : ◌≡◌ {A = List ℕ} (0 ∷ 0 ∷ []) (0 ∷ 1 ∷ []) = sym marks_12 ∙ (joined_tableau j).1 ∙ marks_21 in
    let z : ◌≡◌ {A = ℕ} 0 1 = ap (λ (ms : List ℕ). get_or ms 1 0) e in
    omega arith
