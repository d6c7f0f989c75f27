use Rattle.std.proofs.Common.{◌≡◌, ◌++◌, ◌+◌, ◌≤◌, map, vec_len, vec_capacity}
use Rattle.std.specs.List.{All}
use Rattle.std.specs.Vec.Iter.{into_iter_items, into_iter_len}
use Rattle.bt_peer.specs.SessionTerms.{terms_of}
use Rattle.bt_session.proofs.threads.start_sessions.Given as goal

abbrev pub invariant-loop-stream : goal.invariant-loop-stream
invariant-loop-stream g l = record {
  terms : All (λ h. terms_of h.promise.torrent.value.value h.promise.depth ≡ terms_of l.fn.commons l.fn.plan.rules.depth) l.handles.items;
  seeds : All (λ h. h.promise.seed ≡ l.fn.plan.seed) l.handles.items;
  workers : map (λ h. h.promise.worker.value) l.handles.items ++ into_iter_items l.workers ≡ l.fn.workers.items;
  streams : map (λ h. h.promise.stream.value) l.handles.items ++ into_iter_items l.stream-iterator ≡ l.fn.streams.items;
  room : vec_len l.handles + into_iter_len l.stream-iterator ≤ vec_capacity l.handles;
  few : vec_len l.handles + into_iter_len l.stream-iterator ≤ vec_len l.fn.streams;
  same : into_iter_len l.workers ≡ into_iter_len l.stream-iterator;
}
