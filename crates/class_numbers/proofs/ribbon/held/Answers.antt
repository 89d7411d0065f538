-- 20 bytes that a copy began.
use Rattle.std.specs.Prelude.{refl, replicate}
use Rattle.class_numbers.specs.Held.{held_copy}
use Rattle.class_numbers.proofs.ribbon.held.Goals as goal

pub returns : goal.returns
returns c = held_copy c.args.bytes.now (replicate 20 0) _ refl c.copy.ensures
