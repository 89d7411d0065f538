-- A comma stands there, and a number follows: by the laws of specs/Numbers.
use Rattle.numerals.specs.Numbers.{field_number}
use Rattle.numerals.proofs.numbers.field_at.Goals as goal

pub returns-then-stands : goal.returns-then-stands
returns-then-stands c = field_number _ _ c.if-stands.ensures c.number_at.ensures
