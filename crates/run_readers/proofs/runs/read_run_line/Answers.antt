-- The line breaks the grammar, or its items are stored.
use Rattle.run_readers.specs.Readers.{runs-stored, runs_broken}
use Rattle.run_readers.proofs.runs.read_run_line.Goals as goal

pub returns-in-Err : goal.returns-in-Err
returns-in-Err c = runs_broken _ _ _ c.in-Err.ensures

pub returns-in-Ok : goal.returns-in-Ok
returns-in-Ok c = runs-stored _ _ _ _ c.in-Ok.ensures c.store_runs.ensures
