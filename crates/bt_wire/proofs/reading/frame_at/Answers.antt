use Rattle.std.proofs.Common.{arith, rules}
use Rattle.std.proofs.lemmas.Grind.{common_steps}
use Rattle.bt_wire.proofs.reading.frame_at.Goals as goal

pub returns-then-limit-len-clause-none : goal.returns-then-limit-len-clause-none
returns-then-limit-len-clause-none c = search rules fits 100

pub returns-then-rest-len-clause-none : goal.returns-then-rest-len-clause-none
returns-then-rest-len-clause-none c = grind (arith, common_steps)
