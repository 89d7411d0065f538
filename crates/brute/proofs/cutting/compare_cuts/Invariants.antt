-- `brute::cutting::compare_cuts` is safe. The invariant: the last place is behind the letters. Assumes nothing.
use Rattle.std.proofs.Common.{◌+◌, ◌≤◌, min}
use Rattle.brute.proofs.cutting.compare_cuts.Given as goal

abbrev pub invariant-loop-cut : goal.invariant-loop-cut
invariant-loop-cut l = l.cut-end ≤ min l.word.length 1024 + 1
