-- `writers::fields::write_field` meets its contract, by the laws of specs. Assumes nothing.
use Rattle.writers.specs.Fields.{fielding}
use Rattle.writers.proofs.fields.write_field.Goals as goal

pub returns-then-value-lt10 : goal.returns-then-value-lt10
returns-then-value-lt10 c = search fielding

pub returns-then-value-lt100 : goal.returns-then-value-lt100
returns-then-value-lt100 c = search fielding

pub bounds-out-at-2 : goal.bounds-out-at-2
bounds-out-at-2 c = search fielding

pub returns : goal.returns
returns c = search fielding
