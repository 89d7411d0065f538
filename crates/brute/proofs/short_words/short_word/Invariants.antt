-- `brute::short_words::short_word` is safe. The invariant: no more digits than counted. Assumes nothing.
use Rattle.std.proofs.Common.{◌≤◌}
use Rattle.brute.proofs.short_words.short_word.Given as goal

abbrev pub invariant-loop : goal.invariant-loop
invariant-loop l = l.word.length ≤ l.counter
