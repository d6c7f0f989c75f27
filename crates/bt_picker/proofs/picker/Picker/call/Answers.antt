use Rattle.std.proofs.Common.{arith}
use Rattle.std.proofs.lemmas.Grind.{common_steps}
use Rattle.bt_picker.proofs.picker.Picker.call.Goals as goal

pub returns-in-Told-clause-completes : goal.returns-in-Told-clause-completes
returns-in-Told-clause-completes c = grind (arith, common_steps)
