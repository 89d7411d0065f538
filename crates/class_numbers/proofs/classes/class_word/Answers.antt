-- The last step goes back to every call, and to both checks.
use Rattle.class_numbers.specs.Classes.{word_told}
use Rattle.class_numbers.proofs.classes.class_word.Goals as goal

pub returns : goal.returns
returns c =
    word_told _ _ _ _ c.in_ok-check_class.ensures _ _ _ c.orders_of-size.ensures c.in_ok-check_asked.ensures _ _ _
    c.held.ensures c.held-open.ensures c.write_word.ensures
