-- `counts::check::first_wrong` meets its contract: what `find` ensures is the first wrong number. Assumes nothing.
use borrow.Author.Tests.{tests}
use Rattle.std.proofs.Common.{rules}
use Rattle.std.specs.Prelude.{◌≡◌}
use Rattle.std.proofs.lemmas.Iterator.{first_from_Range}
use Rattle.shapes.specs.Found.{FirstAt}
use Rattle.counts.specs.Comparing.{number_fault, counts_first}
use Rattle.counts.proofs.check.first_wrong.Goals as goal

pub returns : goal.returns
returns c =
    let e : FirstAt (λ k b. number_fault c.args.counts.now c.tally-table.result k ≡ b) 0 64 c.find.result =
    record { first = first_from_Range _ _ _ _ _ _ c.find.ensures.ran (λ x q k. search (rules, tests)) (λ x q k. search (rules, tests)) } in
    counts_first c.args.counts.now c.args.letters.now c.tally-table.result c.find.result c.tally-table.ensures e
