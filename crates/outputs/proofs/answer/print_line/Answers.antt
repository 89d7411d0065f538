-- `outputs::answer::print_line` meets its contract, by the laws of specs. Assumes nothing.
use Rattle.outputs.specs.Answer.{answering}
use Rattle.outputs.proofs.answer.print_line.Goals as goal

pub print_refusal-requires : goal.print_refusal-requires
print_refusal-requires c = search answering

pub returns-in_default : goal.returns-in_default
returns-in_default c = search answering

pub slice_bounds-word-end : goal.slice_bounds-word-end
slice_bounds-word-end c = search answering

pub slice_bounds-print_word-end : goal.slice_bounds-print_word-end
slice_bounds-print_word-end c = search answering

pub print_word-requires : goal.print_word-requires
print_word-requires c = search answering

pub returns : goal.returns
returns c = search answering
