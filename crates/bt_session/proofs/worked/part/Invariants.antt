use Rattle.std.proofs.Common.{◌≡◌, ◌++◌, ◌+◌, ◌≤◌, map, vec_len, vec_capacity}
use Rattle.std.specs.Prelude.{◌||◌}
use Rattle.std.specs.List.{list_any}
use Rattle.std.specs.Vec.Iter.{into_iter_items, into_iter_len}
use Rattle.bt_session.proofs.worked.part.Given as goal

abbrev pub invariant-loop-session : goal.invariant-loop-session
invariant-loop-session g l = record {
  ends : l.ends.items ++ map (λ p. p.end) (into_iter_items l.session-iterator) ≡ map (λ p. p.end) l.fn.all.items;
  workers : l.workers.items ++ map (λ p. p.worker) (into_iter_items l.session-iterator) ≡ map (λ p. p.worker) l.fn.all.items;
  streams : l.streams.items ++ map (λ p. p.stream) (into_iter_items l.session-iterator) ≡ map (λ p. p.stream) l.fn.all.items;
  room_ends : vec_len l.ends + into_iter_len l.session-iterator ≤ vec_capacity l.ends;
  room_workers : vec_len l.workers + into_iter_len l.session-iterator ≤ vec_capacity l.workers;
  same : vec_capacity l.workers ≡ vec_capacity l.fn.workers;
  room_streams : vec_len l.streams + into_iter_len l.session-iterator ≤ vec_capacity l.streams;
  given_up : (l.any || list_any (λ p. p.given_up) (into_iter_items l.session-iterator)) ≡ list_any (λ p. p.given_up) l.fn.all.items;
}
