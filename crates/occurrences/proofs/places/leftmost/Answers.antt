-- What `position` ensures is the first place.
use Rattle.std.proofs.Common.{rules}
use Rattle.occurrences.proofs.Told.{IsFirst, leftmost_told}
use Rattle.occurrences.proofs.places.leftmost.Goals as goal

pub returns : goal.returns
returns c = let e : IsFirst c.args.letter c.args.word.now c.position.result = search rules in leftmost_told c.args.letter c.args.word.now c.position.result e
