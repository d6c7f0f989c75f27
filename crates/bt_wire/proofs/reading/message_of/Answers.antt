use Rattle.std.proofs.Common.{arith}
use Rattle.std.proofs.lemmas.Grind.{common_steps}
use Rattle.bt_wire.proofs.reading.message_of.Goals as goal

pub returns-clause-ok : goal.returns-clause-ok
returns-clause-ok c = grind (arith, common_steps)

pub returns-in-0-to-8-clause-err : goal.returns-in-0-to-8-clause-err
returns-in-0-to-8-clause-err c = grind (arith, common_steps)
