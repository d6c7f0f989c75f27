use Rattle.std.proofs.Common.{arith}
use Rattle.std.proofs.lemmas.Grind.{common_steps}
use Rattle.bt_session.proofs.worked.part_checkers.Goals as goal

pub loop-checker-preserved : goal.loop-checker-preserved
loop-checker-preserved g c = grind (arith, common_steps)

pub returns-clause-workers : goal.returns-clause-workers
returns-clause-workers g c = grind (arith, common_steps)

pub returns-clause-given_up : goal.returns-clause-given_up
returns-clause-given_up g c = grind (arith, common_steps)
