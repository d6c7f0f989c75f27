use Rattle.std.proofs.Common.{arith}
use Rattle.std.proofs.lemmas.Grind.{common_steps}
use Rattle.bt_text.proofs.info.InfoDisplay.fmt.Goals as goal

pub returns-in_err-write-3-clause-writes : goal.returns-in_err-write-3-clause-writes
returns-in_err-write-3-clause-writes g c = grind (arith, common_steps)

pub returns-clause-writes : goal.returns-clause-writes
returns-clause-writes g c = grind (arith, common_steps)
