-- `plain_words::drawn::drawn_word` meets its contract. The invariant: as many letters are drawn as counted. Assumes nothing.
use Rattle.std.proofs.Common.{◌≡◌}
use Rattle.plain_words.proofs.drawn.drawn_word.Given as goal

abbrev pub invariant-loop : goal.invariant-loop
invariant-loop l = l.word.length ≡ l.counter
