use Rattle.std.proofs.Common.{◌≡◌}
use Rattle.bt_session.proofs.check_threads.stop.Given as goal

abbrev pub invariant-loop : goal.invariant-loop
invariant-loop g l = record {
  pass : l.worker.pass ≡ l.fn.worker.pass;
  seat : l.worker.seat ≡ l.fn.worker.seat;
}
