-- `writers::runs::write_runs` meets its contract, by the laws of specs. Assumes nothing.
use Rattle.writers.specs.RunLoops.{writing_runs}
use Rattle.writers.proofs.runs.write_runs.Goals as goal

pub write_field-at-requires : goal.write_field-at-requires
write_field-at-requires c = search writing_runs

pub loop-i-init : goal.loop-i-init
loop-i-init c = search writing_runs

pub write_run-at-requires : goal.write_run-at-requires
write_run-at-requires c = search writing_runs

pub returns : goal.returns
returns c = search writing_runs
