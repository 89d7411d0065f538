-- `writers::runs::write_run` meets its contract, by the laws of specs. Assumes nothing.
use Rattle.writers.specs.RunLoops.{writing_runs}
use Rattle.writers.proofs.runs.write_run.Goals as goal

pub write_step-from-requires : goal.write_step-from-requires
write_step-from-requires c = search writing_runs

pub returns : goal.returns
returns c = search writing_runs
