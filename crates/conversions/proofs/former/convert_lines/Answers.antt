-- The T text breaks the grammar, the N text does, or what is said of the values is said of both.
use Rattle.conversions.specs.Conversions.{both_read, first_broken, second_broken}
use Rattle.conversions.proofs.former.convert_lines.Goals as goal

pub returns-in_default : goal.returns-in_default
returns-in_default c = first_broken (rw c.unwrap_err.ensures at c.scan_line-first.ensures) _ _

pub returns-in_default-second : goal.returns-in_default-second
returns-in_default-second c = second_broken c.in-Ok.ensures (rw c.unwrap_err-in_default-second.ensures at c.scan_line-second.ensures) _

pub returns : goal.returns
returns c =
    both_read c.in-Ok.ensures c.in-Ok-second.ensures _ c.no_letters-letters.ensures c.no_marks-marks.ensures c.no_letters-entries.ensures
    c.write_values.ensures
