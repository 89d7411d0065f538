-- `streams::answer_stream`: what is written is the output for all that the reader had left. Assumes nothing.
use Rattle.std.proofs.Common.{rules}
use Rattle.outputs.specs.Answer.{taking}
use Rattle.streams.proofs.Answering.{few_taken, never, streamed}
use Rattle.streams.proofs.answer_stream.Goals as goal

pub slice_bounds-write_all-end : goal.slice_bounds-write_all-end
slice_bounds-write_all-end g c = search taking

pub returns-in_default : goal.returns-in_default
returns-in_default g c = absurd (never c.read_full-got.new.out _ c.answer.new.out c.read_full-got.result.0 c.answer.result c.answer.ensures (search rules) _ c.in_default.is)

pub returns-clause-written : goal.returns-clause-written
returns-clause-written g c =
    streamed c.read_full-got.new.out _ c.answer.new.out c.read_full-got.result.0 c.answer.result c.answer.ensures (search rules) _ _ _ _ c.in-Ok.bytes
    c.read_full-got.result.1 (search rules) c.read_full-got.ensures.within c.read_full-got.ensures.bytes c.read_full-got.ensures.end c.in-Ok.is
    (c.in_ok-write_all.ensures.bytes)

pub returns-clause-taken : goal.returns-clause-taken
returns-clause-taken g c =
    few_taken _ _ c.read_full-got.result.0 c.read_full-got.new.out (search rules) c.read_full-got.ensures.within c.read_full-got.ensures.bytes
