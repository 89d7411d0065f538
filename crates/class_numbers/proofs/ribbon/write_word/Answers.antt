-- What was found of the next cell is passed to the laws of the loop.
use Rattle.std.proofs.Common.{arith}
use Rattle.class_numbers.specs.WordWritten.{writing_none, writing_turn}
use Rattle.class_numbers.proofs.ribbon.write_word.Goals as goal

pub returns-then-n-next : goal.returns-then-n-next
returns-then-n-next c = writing_none c.loop-i.invariant (omega arith) c.cell_of_number-next.ensures c.if-n-next.true

pub loop-i-preserved : goal.loop-i-preserved
loop-i-preserved c =
    writing_turn c.loop-i.invariant (omega arith) c.cell_of_number-next.ensures c.if-n-next.false c.pulled-letters_left.ensures c.pulled_free-marks_left.ensures
