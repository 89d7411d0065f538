-- `acceptance::letters::all_inside` meets its contract, by the laws of specs/Letters. Assumes nothing.
use Rattle.acceptance.specs.Letters.{Bounding}
use Rattle.acceptance.proofs.letters.all_inside.Given as goal

abbrev pub invariant-loop-letter : goal.invariant-loop-letter
invariant-loop-letter l = Bounding l.letters l.least l.largest l.letter-index
