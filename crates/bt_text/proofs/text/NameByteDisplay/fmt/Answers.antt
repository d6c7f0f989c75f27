use Rattle.std.proofs.Common.{arith}
use Rattle.std.proofs.lemmas.Grind.{common_steps}
use Rattle.bt_text.proofs.text.NameByteDisplay.fmt.Goals as goal

pub returns-then-is_plain-clause-writes : goal.returns-then-is_plain-clause-writes
returns-then-is_plain-clause-writes g c = grind (arith, common_steps)
