-- `multiplication::sums::sum_counts` meets its contract. Assumes nothing.
use Rattle.std.proofs.Common.{◌+◌, get_or, rules}
use Rattle.multiplication.specs.Sums.{given_each}
use Rattle.multiplication.proofs.sums.sum_counts.Goals as goal

pub returns : goal.returns
returns c = record {
  size = c.from_fn.ensures.items.long;
  entry = given_each (λ k. get_or c.args.one.now k 0 + get_or c.args.other.now k 0) (λ x y q k. search rules) c.from_fn.ensures.items;
}
