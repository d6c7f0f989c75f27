use Rattle.std.proofs.Common.{◌+◌, ◌≤◌, vec_len, vec_capacity}
use Rattle.std.specs.Vec.Iter.{into_iter_items, into_iter_len}
use Rattle.bt_session.proofs.Seats.{Joins}
use Rattle.bt_session.proofs.commons.join_seats.Given as goal

abbrev pub invariant-loop-worker : goal.invariant-loop-worker
invariant-loop-worker g l = record {
  joins : Joins g.L.RunName.setting g.L.RunName.desk l.board.table l.fn.workers.items (into_iter_items l.worker-iterator) l.passes.items l.all;
  room : vec_len l.passes + into_iter_len l.worker-iterator ≤ vec_capacity l.passes;
}
