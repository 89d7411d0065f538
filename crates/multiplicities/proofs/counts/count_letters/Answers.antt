-- What passes the test `x == letter` is the letter, so the count of those that pass is its count.
use Rattle.std.proofs.Common.{rules, sym, ◌∙◌, eqb}
use Rattle.multiplicities.proofs.Remaining.{count_told}
use Rattle.multiplicities.proofs.counts.count_letters.Goals as goal

pub returns : goal.returns
returns c = c.count_passing.ensures.all (λ x. eqb x c.args.letter) (λ x b p. search rules) ∙ sym (count_told c.args.letter c.args.letters.now)
