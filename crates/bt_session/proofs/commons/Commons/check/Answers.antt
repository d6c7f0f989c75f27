use Rattle.std.proofs.Common.{arith}
use Rattle.std.proofs.lemmas.Grind.{common_steps}
use Rattle.bt_session.proofs.commons.Commons.check.Goals as goal

pub returns-in_ok-hash-in-Some-clause-may : goal.returns-in_ok-hash-in-Some-clause-may
returns-in_ok-hash-in-Some-clause-may g c = grind (arith, common_steps)

pub returns-in_ok-hash-in-Some-clause-ok : goal.returns-in_ok-hash-in-Some-clause-ok
returns-in_ok-hash-in-Some-clause-ok g c = grind (arith, common_steps)

pub returns-in-None-clause-ok : goal.returns-in-None-clause-ok
returns-in-None-clause-ok g c = grind (arith, common_steps)
