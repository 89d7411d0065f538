-- The line breaks the grammar, its limits are refused, or its values are stored.
use Rattle.std.proofs.Common.{length-take-le, sym}
use Rattle.numerals.specs.Numbers.{passed}
use Rattle.line_items.specs.Items.{bytes_long, letters_room, marks_room}
use Rattle.line_items.specs.Limits.{limit_part}
use Rattle.readers.specs.Readers.{tableau-stopped, tableau-stored, tableau_broken}
use Rattle.readers.proofs.tableau.read_tableau_line.Goals as goal

pub returns-in-Err : goal.returns-in-Err
returns-in-Err c = tableau_broken _ _ _ c.in-Err.ensures

pub returns-in_err-check_limits-in-Ok : goal.returns-in_err-check_limits-in-Ok
returns-in_err-check_limits-in-Ok c =
    rw (passed c.from_residual.result c.from_residual.ensures.1) (tableau-stopped _ _ _ c.in-Ok.ensures _ c.in_err-check_limits-in-Ok.ensures)

pub slice_bounds-values-end : goal.slice_bounds-values-end
slice_bounds-values-end c = limit_part _ _ c.in_ok-check_limits-in-Ok.ensures _ (letters_room c.in-Ok.ensures c.no_letters-values.ensures)

pub slice_bounds-narrow_letters-end : goal.slice_bounds-narrow_letters-end
slice_bounds-narrow_letters-end c =
    sym (length-take-le _ _ (limit_part _ _ c.in_ok-check_limits-in-Ok.ensures _ (letters_room c.in-Ok.ensures c.no_letters-values.ensures)))

pub slice_bounds-bytes-end : goal.slice_bounds-bytes-end
slice_bounds-bytes-end c = limit_part _ _ c.in_ok-check_limits-in-Ok.ensures _ (bytes_long _ c.narrow_letters-bytes.ensures)

pub slice_bounds-tableau-end : goal.slice_bounds-tableau-end
slice_bounds-tableau-end c =
    sym (length-take-le _ _ (limit_part _ _ c.in_ok-check_limits-in-Ok.ensures _ (bytes_long _ c.narrow_letters-bytes.ensures)))

pub slice_bounds-steps-end : goal.slice_bounds-steps-end
slice_bounds-steps-end c = limit_part _ _ c.in_ok-check_limits-in-Ok.ensures _ (marks_room c.in-Ok.ensures c.no_marks-steps.ensures)

pub slice_bounds-tableau-end-in-Ok : goal.slice_bounds-tableau-end-in-Ok
slice_bounds-tableau-end-in-Ok c =
    sym (length-take-le _ _ (limit_part _ _ c.in_ok-check_limits-in-Ok.ensures _ (marks_room c.in-Ok.ensures c.no_marks-steps.ensures)))

pub returns-in_ok-check_limits-in-Ok : goal.returns-in_ok-check_limits-in-Ok
returns-in_ok-check_limits-in-Ok c =
    tableau-stored _ _ _ c.in-Ok.ensures _ c.in_ok-check_limits-in-Ok.ensures c.no_letters-values.ensures c.no_marks-steps.ensures c.narrow_letters-bytes.ensures
    c.store_tableau.ensures
