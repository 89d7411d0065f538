-- `shapes::faults::first_fault` meets its contract: what `find` ensures is the first fault, and without one the pass has told so. Assumes nothing.
use Rattle.std.proofs.Common.{rules}
use Rattle.std.proofs.lemmas.Iterator.{first_from_Range}
use Rattle.shapes.proofs.faults.first_fault.Goals as goal

pub returns : goal.returns
returns g c = record { first = first_from_Range _ _ _ _ _ _ c.find.ensures.ran (λ x q k. search rules) (λ x q k. search rules) }
