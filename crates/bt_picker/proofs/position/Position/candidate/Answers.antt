use Rattle.std.proofs.Common.{arith}
use Rattle.std.proofs.lemmas.Grind.{common_steps}
use Rattle.bt_picker.proofs.position.Position.candidate.Goals as goal

pub returns-then-count-eq0-clause-least : goal.returns-then-count-eq0-clause-least
returns-then-count-eq0-clause-least c = grind (arith, common_steps)

pub returns-clause-least : goal.returns-clause-least
returns-clause-least c = grind (arith, common_steps)
