-- A step, or none, stands after the comma.
use Rattle.std.proofs.Common.{◌≡◌, ◌+◌, sym, ◌∙◌}
use Rattle.numerals.specs.Numbers.{passed}
use Rattle.numerals.specs.declared.numbers.Broken.{Broken}
use Rattle.cell_scans.specs.Cells.{step_broken_lem, step_read}
use Rattle.cell_scans.proofs.cells.step_at.Goals as goal

pub returns-in_err-mark : goal.returns-in_err-mark
returns-in_err-mark c =
    let k = rw c.in_err-mark.ensures.ok_part at c.in_err-mark.ensures.value in
    let e : ◌≡◌ {A = Broken} c.in_err-mark.field-0.0 (record { place = c.args.at + 1 }) = cc in
    rw (passed c.from_residual.result c.from_residual.ensures.1, e)
    (step_broken_lem _ _ c.if-not-stands.ensures (sym c.in_err-mark.ensures.ok_part ∙ c.mark_at.ensures))

pub returns : goal.returns
returns c = step_read _ _ c.if-not-stands.ensures (sym c.in_ok-mark.ensures.ok_part ∙ c.mark_at.ensures)
