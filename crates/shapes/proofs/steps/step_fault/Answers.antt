-- `shapes::steps::step_fault` meets its contract: the first place of a broken step is what 8 says. Assumes nothing.
use borrow.Author.Tests.{tests}
use Rattle.std.proofs.Common.{rules}
use Rattle.shapes.specs.Found.{first_told}
use Rattle.shapes.specs.Steps.{start_steps}
use Rattle.shapes.proofs.steps.step_fault.Goals as goal

pub returns : goal.returns
returns c =
    first_told (start_steps c.args.entries.now c.args.marks.now c.min-size.ensures) c.first_fault.ensures (λ q b l m t. search (rules, tests))
