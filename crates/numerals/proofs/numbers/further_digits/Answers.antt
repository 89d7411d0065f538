-- One digit more, none, or as many as there may be: by the laws of specs/Numbers.
use Rattle.std.proofs.Common.{arith}
use Rattle.numerals.specs.Numbers.{digit_fits, digits_end, digits_stop, digits_turn, tenfold_fits}
use Rattle.numerals.proofs.numbers.further_digits.Goals as goal

pub overflow_mul-value : goal.overflow_mul-value
overflow_mul-value c = tenfold_fits c.loop.invariant (omega arith)

pub overflow_add-value : goal.overflow_add-value
overflow_add-value c = digit_fits c.loop.invariant c.in-Some.ensures (omega arith)

pub loop-preserved : goal.loop-preserved
loop-preserved c = digits_turn c.loop.invariant c.in-Some.ensures (omega arith)

pub returns-in_default : goal.returns-in_default
returns-in_default c = digits_stop c.loop.invariant c.in_default.ensures

pub returns : goal.returns
returns c = digits_end c.loop.invariant (omega arith)
