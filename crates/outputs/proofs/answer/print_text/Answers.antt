-- `outputs::answer::print_text` meets its contract, by the laws of specs. Assumes nothing.
use Rattle.outputs.specs.Answer.{answering}
use Rattle.outputs.proofs.answer.print_text.Goals as goal

pub returns-then-text-gt4096 : goal.returns-then-text-gt4096
returns-then-text-gt4096 c = search answering
