-- The first i letters are narrowed.
use Rattle.line_items.specs.Letters.{Narrowing}
use Rattle.line_items.proofs.letters.narrow_letters.Given as goal

abbrev pub invariant-loop-i : goal.invariant-loop-i
invariant-loop-i l = Narrowing 1024 l.count l.letters l.bytes l.i
