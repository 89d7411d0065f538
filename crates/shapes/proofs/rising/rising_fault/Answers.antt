-- `shapes::rising::rising_fault` meets its contract: the first place of a fall is what 5 says. Assumes nothing.
use borrow.Author.Tests.{tests}
use Rattle.std.proofs.Common.{rules}
use Rattle.shapes.specs.Faults.{start-rising}
use Rattle.shapes.specs.Found.{first_told}
use Rattle.shapes.proofs.rising.rising_fault.Goals as goal

pub returns : goal.returns
returns c = first_told (start-rising c.args.letters.now) c.first_fault.ensures (λ q b l m t. search (rules, tests))
