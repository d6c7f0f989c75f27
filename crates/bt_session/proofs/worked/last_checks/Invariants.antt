use Rattle.bt_session.specs.Runs.{ChecksLast}
use Rattle.bt_session.proofs.worked.last_checks.Given as goal

abbrev pub invariant-loop-piece : goal.invariant-loop-piece
invariant-loop-piece g l = ChecksLast l.fn.worker.pass l.worker.pass l.piece
