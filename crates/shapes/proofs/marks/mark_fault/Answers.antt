-- `shapes::marks::mark_fault` meets its contract: the first place of a wrong mark is what 6 says. Assumes nothing.
use borrow.Author.Tests.{tests}
use Rattle.std.proofs.Common.{rules}
use Rattle.shapes.specs.Faults.{start-marks}
use Rattle.shapes.specs.Found.{first_told}
use Rattle.shapes.proofs.marks.mark_fault.Goals as goal

pub returns : goal.returns
returns c =
    first_told (start-marks c.args.letters.now c.args.marks.now c.min-size.ensures) c.first_fault.ensures (λ q b l m t. search (rules, tests))
