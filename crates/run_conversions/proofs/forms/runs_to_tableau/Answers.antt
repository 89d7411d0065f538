-- `run_conversions::forms::runs_to_tableau` meets its contract, by the laws of specs/Turned. Assumes nothing.
use Rattle.std.proofs.Common.{◌≤◌, length, sym, length-take-le}
use Rattle.run_conversions.specs.Turned.{turning}
use Rattle.run_conversions.proofs.forms.runs_to_tableau.Goals as goal

pub returns-in_default : goal.returns-in_default
returns-in_default c = search (rw c.unwrap_err.ensures at c.read_run_line-read.ensures, turning)

pub slice_bounds-letters-end : goal.slice_bounds-letters-end
slice_bounds-letters-end c = search (c.in-Ok.ensures, turning)

pub slice_bounds-write_tableau_line-end : goal.slice_bounds-write_tableau_line-end
slice_bounds-write_tableau_line-end c =
    let reach : c.in-Ok.field-0.count ≤ length c.read_run_line-read.new.letters = search (c.in-Ok.ensures, turning) in
    sym (length-take-le _ _ reach)

pub slice_bounds-marks-end : goal.slice_bounds-marks-end
slice_bounds-marks-end c = search (c.in-Ok.ensures, turning)

pub slice_bounds-write_tableau_line-end-2 : goal.slice_bounds-write_tableau_line-end-2
slice_bounds-write_tableau_line-end-2 c =
    let reach : c.in-Ok.field-0.count ≤ length c.read_run_line-read.new.marks = search (c.in-Ok.ensures, turning) in
    sym (length-take-le _ _ reach)

pub returns : goal.returns
returns c = search (c.in-Ok.ensures, turning)
