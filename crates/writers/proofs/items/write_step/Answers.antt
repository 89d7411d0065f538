-- `writers::items::write_step` meets its contract, by the laws of specs. Assumes nothing.
use Rattle.writers.specs.Cells.{stepping}
use Rattle.writers.proofs.items.write_step.Goals as goal

pub returns-then-i-eq0 : goal.returns-then-i-eq0
returns-then-i-eq0 c = search stepping

pub bounds-out-at : goal.bounds-out-at
bounds-out-at c = search stepping

pub returns : goal.returns
returns c = search stepping
