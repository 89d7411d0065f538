-- The invariant: the letters before the place are passed.
use Rattle.class_numbers.specs.NumberFound.{Finding}
use Rattle.class_numbers.proofs.ribbon.number_in.Given as goal

abbrev pub invariant-loop-letter : goal.invariant-loop-letter
invariant-loop-letter l = Finding l.word l.initial.ys l.initial.ms l.ys l.ms l.number l.letter-index l.n
