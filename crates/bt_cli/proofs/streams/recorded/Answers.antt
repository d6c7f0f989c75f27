use Rattle.std.proofs.Common.{arith}
use Rattle.std.proofs.lemmas.Grind.{common_steps}
use Rattle.bt_cli.proofs.streams.recorded.Goals as goal

pub returns-in_err-opened-clause-count : goal.returns-in_err-opened-clause-count
returns-in_err-opened-clause-count g c = grind (arith, common_steps)

pub returns-in_err-opened-clause-names : goal.returns-in_err-opened-clause-names
returns-in_err-opened-clause-names g c = grind (arith, common_steps)

pub returns-in_err-push-clause-count : goal.returns-in_err-push-clause-count
returns-in_err-push-clause-count g c = grind (arith, common_steps)

pub returns-in_err-push-clause-names : goal.returns-in_err-push-clause-names
returns-in_err-push-clause-names g c = grind (arith, common_steps)

pub loop-name-preserved : goal.loop-name-preserved
loop-name-preserved g c = grind (arith, common_steps)

pub returns-clause-names : goal.returns-clause-names
returns-clause-names g c = grind (arith, common_steps)
