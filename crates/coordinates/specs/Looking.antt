-- Looks at a cell, as they are judged.
--     made_says, look_made     what the making of a viewer says, and a look through what was made
-- Assumes nothing.
use Rattle.std.specs.Prelude.{ℕ, ◌≡◌, List}
use Rattle.std.proofs.Common.{ap, ◌∙◌}
use Rattle.outcomes.specs.Replies.{Said, passed, first}
use Rattle.outcomes.specs.TableauOperations.{look_says, through_says, viewer_says}
use Rattle.outcomes.specs.Judgements.{tableau_judgements}
use Rattle.outcomes.proofs.Theory.Looks.{look_through}

-- The checks of a tableau are those of the making.
pub made_says : {s : Said} (n : ℕ) (xs ms : List ℕ) → s ≡ first (tableau_judgements n xs ms) passed → s ≡ viewer_says n xs ms
unfolding viewer_says
made_says n xs ms e = e

-- A look through a viewer that was made so.
pub look_made : {s v : Said} (n : ℕ) (xs ms : List ℕ) (k : ℕ) → s ≡ through_says v xs ms k → v ≡ viewer_says n xs ms → s ≡ look_says n xs ms k
look_made n xs ms k e f = e ∙ ap (λ (v : Said). through_says v xs ms k) f ∙ look_through n xs ms k
