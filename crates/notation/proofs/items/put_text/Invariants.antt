-- `notation::items::put_text` meets its contract. The invariant: no more bytes than places. Assumes nothing.
use Rattle.std.proofs.Common.{◌≤◌}
use Rattle.notation.proofs.items.put_text.Given as goal

abbrev pub invariant-loop-place : goal.invariant-loop-place
invariant-loop-place g l = g.S.Sink.count l.all ≤ l.place
