-- The checks refuse, or the tableau is laid out.
use Rattle.std.proofs.Common.{refl}
use Rattle.numerals.specs.Numbers.{passed}
use Rattle.run_readers.specs.Stores.{runs_passed, runs_refused}
use Rattle.run_readers.proofs.runs.store_runs.Goals as goal

pub returns-in_err-check_runs : goal.returns-in_err-check_runs
returns-in_err-check_runs c = rw (passed c.from_residual.result c.from_residual.ensures.1) (runs_refused _ _ _ _ _ _ _ _ c.in_err-check_runs.ensures _ refl)

pub returns : goal.returns
returns c = runs_passed _ _ _ _ _ _ _ _ c.in_ok-check_runs.ensures _ _ refl c.fill_runs.ensures
