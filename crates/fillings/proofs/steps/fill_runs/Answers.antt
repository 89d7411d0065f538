-- `fillings::steps::fill_runs` meets its contract, by the laws of specs. Assumes nothing.
use Rattle.fillings.specs.Filled.{filling_runs}
use Rattle.fillings.proofs.steps.fill_runs.Goals as goal

pub returns-then-min-cells : goal.returns-then-min-cells
returns-then-min-cells c = search filling_runs

pub returns : goal.returns
returns c = search filling_runs
