use Rattle.std.proofs.Common.{arith}
use Rattle.std.proofs.lemmas.Grind.{common_steps}
use Rattle.bt_cli.proofs.report.print_missing.Goals as goal

pub loop-piece-preserved : goal.loop-piece-preserved
loop-piece-preserved g c = grind (arith, common_steps)
