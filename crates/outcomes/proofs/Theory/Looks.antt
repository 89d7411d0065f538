-- Looks through a viewer (document 01, "Ribbon viewer").
--     look_through     a look through a viewer that was made of a rank, letters and marks is the look at these
--     look_cell        within a tableau of the rank it gives letter, row and column, and row plus column is the place
--     look_none        "no such cell" is said exactly of a tableau of the rank, past its last cell
-- Assumes nothing.
use Prim.Native.Nat.{ℕ, ◌+◌, ◌≤◌, ◌<◌}
use mathlib.Core.Path.{◌≡◌, sym, subst, ap, ◌∙◌}
use mathlib.Core.List.{List, [], ◌∷◌}
use mathlib.Core.Logic.{◌↔◌, ◌⊎◌, inl, inr}
use native.Mathlib.Omega.{arith}
use borrow.Author.Tests.{lt-ltb, le-ltb}
use lib.ListN.{length, get_or}
use Rattle.outcomes.specs.Replies.{Said, gives, refused, Passes}
use Rattle.outcomes.specs.Judgements.{tableau_judgements}
use Rattle.hypoplactic.specs.Ribbons.{TableauAt, row_at, column_at}
use Rattle.outcomes.specs.TableauOperations.{cell_at, look_says, through_says, viewer_says}
use Rattle.outcomes.proofs.Theory.Judged.{tableau_passing}
use Rattle.hypoplactic.proofs.Theory.Pairs.{le-or-lt}
use Rattle.outcomes.proofs.Theory.Passing.{first_else, passing_first}
use Rattle.outcomes.proofs.Theory.Results.{look_result}
use Rattle.hypoplactic.proofs.Theory.Rows.{row_column}

module _ (n : ℕ) (xs ms : List ℕ) (k : ℕ) where
  -- What was said at the making is passed on.
  pub look_through : through_says (viewer_says n xs ms) xs ms k ≡ look_says n xs ms k
  unfolding through_says viewer_says look_says
  look_through = first_else (tableau_judgements n xs ms) (gives (cell_at xs ms k))

  -- A cell of a tableau.
  pub look_cell : TableauAt n xs ms → k < length xs
      → (look_says n xs ms k ≡ gives (get_or xs k 0 ∷ row_at ms k ∷ column_at ms k ∷ [])) × (row_at ms k + column_at ms k ≡ k)
  look_cell h l = (look_result n xs ms h k ∙ rw (lt-ltb k (length xs) l), row_column xs ms k h.tableau l)

  -- The values that a reply gives.
  abbrev values : Said → List ℕ
  values (gives vs) = vs
  values (refused j p) = []

  -- A look that is no refusal is one through a tableau of the rank.
  looked : look_says n xs ms k ≡ gives [] → TableauAt n xs ms
  unfolding look_says
  looked e = (tableau_passing n xs ms).0 (passing_first (tableau_judgements n xs ms) (cell_at xs ms k) (subst Passes (sym e) tt))

  -- No cell is missing from a tableau.
  past : cell_at xs ms k ≡ [] → (length xs ≤ k) ⊎ (k < length xs) → length xs ≤ k
  past e (inl l) = l
  past e (inr l) = let full : cell_at xs ms k ≡ get_or xs k 0 ∷ row_at ms k ∷ column_at ms k ∷ [] = rw (lt-ltb k (length xs) l) in
      let z : ◌≡◌ {A = ℕ} 3 0 = ap length (sym full ∙ e) in omega arith

  -- "No such cell", never for a refusal and never for a cell that is there.
  pub look_none : (look_says n xs ms k ≡ gives []) ↔ (TableauAt n xs ms × (length xs ≤ k))
  look_none = (
    λ e. let h : TableauAt n xs ms = looked e in (h, past (ap values (sym (look_result n xs ms h k) ∙ e)) (le-or-lt (length xs) k)),
    λ p. look_result n xs ms p.0 k ∙ rw (le-ltb k (length xs) p.1),
  )
