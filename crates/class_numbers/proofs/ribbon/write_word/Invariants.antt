-- The invariant: i letters are written.
use Rattle.class_numbers.specs.WordWritten.{Writing}
use Rattle.class_numbers.proofs.ribbon.write_word.Given as goal

abbrev pub invariant-loop-i : goal.invariant-loop-i
invariant-loop-i l = Writing l.cells l.initial.ys l.initial.ms l.number l.initial.word l.word l.ys l.ms l.left l.i l.n
