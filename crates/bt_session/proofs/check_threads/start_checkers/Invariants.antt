use Rattle.std.proofs.Common.{◌≡◌, ◌++◌, ◌+◌, ◌≤◌, map, vec_len, vec_capacity}
use Rattle.std.specs.Vec.Iter.{into_iter_items, into_iter_len}
use Rattle.bt_session.proofs.check_threads.start_checkers.Given as goal

abbrev pub invariant-loop-worker : goal.invariant-loop-worker
invariant-loop-worker g l = record {
  workers : map (λ h. h.promise.worker.value) l.handles.items ++ into_iter_items l.worker-iterator ≡ l.fn.workers.items;
  room : vec_len l.handles + into_iter_len l.worker-iterator ≤ vec_capacity l.handles;
  few : vec_len l.handles + into_iter_len l.worker-iterator ≤ vec_len l.fn.workers;
}
