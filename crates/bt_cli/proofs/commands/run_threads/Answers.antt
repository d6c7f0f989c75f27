use Rattle.std.proofs.Common.{arith}
use Rattle.std.proofs.lemmas.Grind.{common_steps}
use Rattle.bt_cli.proofs.Runs.{end_status}
use Rattle.bt_cli.proofs.commands.run_threads.Goals as goal

pub returns-in-Ok-clause-status : goal.returns-in-Ok-clause-status
returns-in-Ok-clause-status g c =
    end_status _ c.in-Ok.run'.ended _ c.in-Ok.run'.book.desk c.in-Ok.ensures.meta c.conclude_run.ensures.status
    (λ t. λ is. ((c.in-Ok.ensures.ran t is).told.complete, (c.in-Ok.ensures.ran t is).told.fault))

pub returns-in-Ok-clause-ran : goal.returns-in-Ok-clause-ran
returns-in-Ok-clause-ran g c = λ t. λ is. (c.in-Ok.run'.ended, (c.conclude_run.ensures.status, c.in-Ok.ensures.ran t is))

pub returns-in-Ok-clause-quiet : goal.returns-in-Ok-clause-quiet
returns-in-Ok-clause-quiet g c = grind (arith, common_steps)
