use Rattle.std.proofs.Common.{arith}
use Rattle.std.proofs.lemmas.Grind.{common_steps}
use Rattle.bt_picker.proofs.position.Position.first_candidate.Goals as goal

pub returns : goal.returns
returns c = grind (arith, common_steps)
