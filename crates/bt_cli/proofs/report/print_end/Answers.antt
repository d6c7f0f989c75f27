use Rattle.std.proofs.Common.{arith}
use Rattle.std.proofs.lemmas.Grind.{common_steps}
use Rattle.bt_cli.proofs.report.print_end.Goals as goal

pub returns-in-Ok-clause-ok : goal.returns-in-Ok-clause-ok
returns-in-Ok-clause-ok g c = grind (arith, common_steps)

pub returns-in_ok-print_numbered-in-Err-clause-ok : goal.returns-in_ok-print_numbered-in-Err-clause-ok
returns-in_ok-print_numbered-in-Err-clause-ok g c = grind (arith, common_steps)
