use Rattle.std.proofs.Common.{arith}
use Rattle.std.proofs.lemmas.Grind.{common_steps}
use Rattle.bt_picker.proofs.position.Position.least_candidate.Goals as goal

pub returns-then-shows_no_candidate-clause-least : goal.returns-then-shows_no_candidate-clause-least
returns-then-shows_no_candidate-clause-least c = grind (arith, common_steps)

pub returns-in-Some-clause-least : goal.returns-in-Some-clause-least
returns-in-Some-clause-least c = grind (arith, common_steps)

pub returns-in-Some-rarest-clause-least : goal.returns-in-Some-rarest-clause-least
returns-in-Some-rarest-clause-least c = grind (arith, common_steps)
