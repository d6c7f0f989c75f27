use Rattle.std.proofs.Common.{◌≡◌}
use Rattle.bt_shared.proofs.lock.try_lock.Given as goal

abbrev pub invariant-loop : goal.invariant-loop
invariant-loop g l = record {
  table : l.seat.table_id ≡ l.initial.seat.table_id;
  id : l.seat.id ≡ l.initial.seat.id;
  me : l.seat.me ≡ l.initial.seat.me;
}
