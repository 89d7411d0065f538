-- `inverses::way_back::write_word` meets its contract, by the laws of specs/WayBack. Assumes nothing.
use Rattle.std.proofs.Common.{drop}
use Rattle.inverses.specs.WayBack.{Writing}
use Rattle.inverses.proofs.way_back.write_word.Given as goal

abbrev pub invariant-loop-cell : goal.invariant-loop-cell
invariant-loop-cell l = Writing l.letters l.entries l.initial.word (drop l.cell l.letters) (drop l.cell l.entries) l.word
