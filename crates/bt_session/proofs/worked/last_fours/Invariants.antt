use Rattle.std.proofs.Common.{◌*◌}
use Rattle.bt_session.specs.Runs.{ChecksLast}
use Rattle.bt_session.proofs.worked.last_fours.Given as goal

abbrev pub invariant-loop-four : goal.invariant-loop-four
invariant-loop-four g l = ChecksLast l.fn.worker.pass l.worker.pass (l.four * 4)
