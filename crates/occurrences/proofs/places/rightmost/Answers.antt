-- What `rposition` ensures is the last place.
use Rattle.std.proofs.Common.{rules}
use Rattle.occurrences.proofs.Told.{IsLast, rightmost_told}
use Rattle.occurrences.proofs.places.rightmost.Goals as goal

pub returns : goal.returns
returns c = let e : IsLast c.args.letter c.args.word.now c.rposition.result = search rules in rightmost_told c.args.letter c.args.word.now c.rposition.result e
