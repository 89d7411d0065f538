-- What is left of the digits gives the whole.
use Rattle.std.proofs.Common.{◌-◌, drop}
use Rattle.grammar.specs.Reading.{further_digits, more_digits}
use Rattle.numerals.specs.Numbers.{Digiting}
use Rattle.numerals.proofs.numbers.further_digits.Given as goal

abbrev pub invariant-loop : goal.invariant-loop
invariant-loop l = Digiting l.text (more_digits further_digits l.first (drop l.from l.text)) (further_digits - l.counter) l.value l.next
