use Rattle.std.proofs.Common.{◌+◌}
use Rattle.bt_picker.proofs.FinishingFour.{job_due}
use Rattle.bt_picker.proofs.desk.Desk.verdicts_of_four.Goals as goal

pub returns : goal.returns
returns c =
    let d = c.args.self.now in
    let p = c.args.piece in
    let jobs = c.in_ok-first in
    let hashed = c.hash_four-first in
    record {
      first = job_due d p jobs.first hashed.result.0 _ jobs.ensures.first hashed.ensures.first c.in_ok-share.ensures;
      second = job_due d (p + 1) jobs.second hashed.result.1 _ jobs.ensures.second hashed.ensures.second c.in_ok-share-2.ensures;
      third = job_due d (p + 2) jobs.third hashed.result.2 _ jobs.ensures.third hashed.ensures.third c.in_ok-share-3.ensures;
      fourth = job_due d (p + 3) jobs.fourth hashed.result.3 _ jobs.ensures.fourth hashed.ensures.fourth c.in_ok-share-4.ensures;
    }
