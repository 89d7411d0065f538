-- `lines::tableau::tableau_line_of_word` meets its contract, by the laws of specs/TableauLine. Assumes nothing.
use Rattle.std.proofs.lemmas.Result.{err_from_is_err_and}
use Rattle.lines.specs.TableauLine.{lining}
use Rattle.lines.proofs.tableau.tableau_line_of_word.Goals as goal

pub returns-in_err-cells : goal.returns-in_err-cells
returns-in_err-cells c =
    let p = err_from_is_err_and c.from_residual.result c.from_residual.ensures.1 in
    rw (p.1, p.2) (search (c.pair_of_word.ensures, c.in_err-cells.was, lining))

pub write_cells-requires : goal.write_cells-requires
write_cells-requires c = search (c.pair_of_word.ensures, c.in_ok-cells.was, lining)

pub returns : goal.returns
returns c = search (c.pair_of_word.ensures, c.in_ok-cells.was, lining)
