-- Two steps go back to the check and to the pair.
use Rattle.std.specs.Prelude.{refl}
use Rattle.class_numbers.specs.Classes.{number_placed, number_told}
use Rattle.class_numbers.proofs.classes.class_number.Goals as goal

pub number_in-requires : goal.number_in-requires
number_in-requires c = number_placed _ _ c.in_ok-check_short.ensures _ _ _ _ _ _ _ _ _ refl refl refl c.pair_of_word.ensures

pub returns : goal.returns
returns c = number_told _ _ c.in_ok-check_short.ensures _ _ _ _ _ _ _ _ _ refl refl refl c.pair_of_word.ensures _ c.number_in.ensures
