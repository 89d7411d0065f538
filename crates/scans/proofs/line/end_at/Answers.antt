-- A byte stands after the line feed, or none.
use Rattle.std.proofs.Common.{arith}
use Rattle.scans.specs.Heads.{end_last, end_more}
use Rattle.scans.proofs.line.end_at.Goals as goal

pub returns-then-next-text : goal.returns-then-next-text
returns-then-next-text c = end_more _ _ c.if-not-stands.ensures (omega arith)

pub returns : goal.returns
returns c = end_last _ _ c.if-not-stands.ensures (omega arith)
