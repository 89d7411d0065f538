-- `weight_sums::tables::compare_counts` meets its contract: the loop ends past the last of both tables. Assumes nothing.
use Rattle.std.proofs.Common.{◌≤◌, length, arith}
use Rattle.std.proofs.lemmas.Slice.Zip.{zip_end}
use Rattle.weight_sums.specs.Tables.{summing}
use Rattle.weight_sums.proofs.tables.compare_counts.Goals as goal

pub returns : goal.returns
returns c =
    let sizes =
    zip_end c.args.first.now c.args.second.now c.loop-first_count.yielded c.into_iter-first_count-iterator.result c.loop-first_count.first_count-iterator
    c.next.new.self c.next.result (cc) (cc) c.loop-first_count.yielded_by c.in-None.is c.next.ensures.steps in
    let past : 64 ≤ length c.loop-first_count.yielded = omega arith in
    search summing
