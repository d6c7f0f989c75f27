use Rattle.std.proofs.Common.{arith}
use Rattle.std.proofs.lemmas.Grind.{common_steps}
use Rattle.bt_text.proofs.script.setup.digests.Goals as goal

pub returns-in_err-hex_digest : goal.returns-in_err-hex_digest
returns-in_err-hex_digest c = grind (arith, common_steps)

pub loop-text-preserved : goal.loop-text-preserved
loop-text-preserved c = grind (arith, common_steps)

pub returns : goal.returns
returns c = grind (arith, common_steps)
