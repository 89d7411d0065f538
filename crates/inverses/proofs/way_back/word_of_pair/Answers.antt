-- `inverses::way_back::word_of_pair` meets its contract, by the laws of specs/WayBack. Assumes nothing.
use Rattle.inverses.specs.WayBack.{way_back_passed}
use Rattle.inverses.proofs.way_back.word_of_pair.Goals as goal

pub returns : goal.returns
returns c = way_back_passed _ _ _ _ _ _ c.check_way_back.ensures _ c.in_ok-check_way_back.was c.write_word.ensures
