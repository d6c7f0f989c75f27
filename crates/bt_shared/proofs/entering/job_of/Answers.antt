use Rattle.bt_shared.proofs.Jobs.{job_of}
use Rattle.bt_shared.proofs.entering.job_of.Goals as goal

pub returns-clause-lengths : goal.returns-clause-lengths
returns-clause-lengths c =
    let desk = c.args.desk.now in
    job_of desk.setting desk.history c.args.piece c.attest.ensures c.job.result c.job.ensures.ok
