-- `writers::runs::runs_size` meets its contract, by the laws of specs. Assumes nothing.
use Rattle.writers.specs.RunLoops.{totalling_runs}
use Rattle.writers.proofs.runs.runs_size.Goals as goal

pub loop-i-preserved : goal.loop-i-preserved
loop-i-preserved c = search totalling_runs

pub returns : goal.returns
returns c = search totalling_runs
