-- `outputs::answer::answer` meets its contract, by the laws of specs. Assumes nothing.
use Rattle.outputs.specs.Answer.{answering}
use Rattle.outputs.proofs.answer.answer.Goals as goal

pub returns : goal.returns
returns c = search answering
