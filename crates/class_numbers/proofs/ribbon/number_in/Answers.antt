-- What was found of the next letter is passed to the laws of the loop.
use Rattle.class_numbers.specs.NumberFound.{finding_none, finding_turn, sum_fits}
use Rattle.class_numbers.proofs.ribbon.number_in.Goals as goal

pub overflow_add-result : goal.overflow_add-result
overflow_add-result c = sum_fits c.loop-letter.invariant c.loop-letter-test.true c.cell_of_letter-next.ensures

pub returns-then-n-next : goal.returns-then-n-next
returns-then-n-next c = finding_none c.loop-letter.invariant c.loop-letter-test.true c.cell_of_letter-next.ensures c.if-n-next.true

pub overflow_add-number : goal.overflow_add-number
overflow_add-number c = sum_fits c.loop-letter.invariant c.loop-letter-test.true c.cell_of_letter-next.ensures

pub loop-letter-preserved : goal.loop-letter-preserved
loop-letter-preserved c =
    finding_turn c.loop-letter.invariant c.loop-letter-test.true c.cell_of_letter-next.ensures c.if-n-next.false c.pulled-letters_left.ensures
    c.pulled_free-marks_left.ensures
