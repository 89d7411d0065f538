-- `inverses::way_back::write_word` meets its contract, by the laws of specs/WayBack. Assumes nothing.
use Rattle.std.specs.Prelude.{◌≡◌, [], drop}
use Rattle.std.proofs.Common.{arith, drop_of_length-le, inl}
use Rattle.inverses.specs.WayBack.{end_writing, turn_at}
use Rattle.inverses.proofs.way_back.write_word.Goals as goal

pub loop-cell-preserved : goal.loop-cell-preserved
loop-cell-preserved c = turn_at c.loop-cell.invariant (omega arith) c.from.ensures

pub returns : goal.returns
returns c =
    let none : drop c.loop-cell.cell c.args.letters.now ≡ [] = drop_of_length-le c.args.letters.now {i = c.loop-cell.cell} (omega arith) in
    end_writing c.requires c.loop-cell.invariant (inl none)
