-- `multiplication::merging::merged_set` meets its contract, by the laws of specs/Merging. Assumes nothing.
use Rattle.multiplication.specs.Merging.{merging}
use Rattle.multiplication.proofs.merging.merged_set.Goals as goal

pub loop-a-init : goal.loop-a-init
loop-a-init c = search merging

pub loop-a-preserved-then-first_count-second_count : goal.loop-a-preserved-then-first_count-second_count
loop-a-preserved-then-first_count-second_count c = search merging

pub loop-a-preserved : goal.loop-a-preserved
loop-a-preserved c = search merging

pub returns : goal.returns
returns c = search merging
