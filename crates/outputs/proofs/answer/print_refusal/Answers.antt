-- `outputs::answer::print_refusal` meets its contract, by the laws of specs. Assumes nothing.
use Rattle.outputs.specs.Answer.{answering}
use Rattle.outputs.proofs.answer.print_refusal.Goals as goal

pub returns-in_default : goal.returns-in_default
returns-in_default c = search answering

pub returns : goal.returns
returns c = search answering
