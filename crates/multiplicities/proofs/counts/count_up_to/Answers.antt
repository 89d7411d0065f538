-- What passes the test `x <= letter` is at most the letter.
use Rattle.std.proofs.Common.{rules, sym, ◌∙◌, leb}
use Rattle.multiplicities.proofs.Remaining.{up_to_told}
use Rattle.multiplicities.proofs.counts.count_up_to.Goals as goal

pub returns : goal.returns
returns c = c.count_passing.ensures.all (λ x. leb x c.args.letter) (λ x b p. search rules) ∙ sym (up_to_told c.args.letter c.args.letters.now)
