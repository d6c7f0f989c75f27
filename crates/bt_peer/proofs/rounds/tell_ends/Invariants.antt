use Rattle.std.proofs.Common.{◌≡◌, ◌≤◌, Some, length, map, take, vec_capacity}
use Rattle.bt_peer.proofs.rounds.tell_ends.Given as goal

abbrev pub invariant-loop-seat : goal.invariant-loop-seat
invariant-loop-seat l = record {
  count : length l.ends.items ≡ l.seat-index;
  room : length l.seats ≤ vec_capacity l.ends;
  told : map Some l.ends.items ≡ map (λ seat. seat.session.outcome) (take l.seat-index l.seats);
}
