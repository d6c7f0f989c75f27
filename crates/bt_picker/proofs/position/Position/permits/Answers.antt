use Rattle.std.proofs.Common.{arith}
use Rattle.std.proofs.lemmas.Grind.{common_steps}
use Rattle.bt_picker.proofs.position.Position.permits.Goals as goal

pub returns-in-Just-clause-yes : goal.returns-in-Just-clause-yes
returns-in-Just-clause-yes c = grind (arith, common_steps)

pub returns-in-Just-clause-no : goal.returns-in-Just-clause-no
returns-in-Just-clause-no c = grind (arith, common_steps)
