use Rattle.std.proofs.Common.{◌≡◌, ◌≤◌, [], length, take, drop, IfNone, IfSome}
use Rattle.atomic_table.specs.declared.shared.Seat.{Seat}
use Rattle.bt_shared.specs.declared.view.DeskView.{DeskView}
use Rattle.bt_shared.specs.Closing.{IsJoined}
use Rattle.bt_shared.specs.Guard.{Slot}
use Rattle.bt_shared.proofs.collecting.joined_seats.Given as goal

abbrev pub invariant-loop-pass : goal.invariant-loop-pass
invariant-loop-pass l = record {
  left : l.passes.items ≡ take (length l.passes.items) l.fn.passes.items;
  fewer : length l.passes.items ≤ length l.fn.passes.items;
  none : IfNone l.all (drop (length l.passes.items) l.fn.passes.items ≡ []);
  joined : IfSome l.all
      (λ (s : Seat Slot DeskView). (s.table_id ≡ l.words.table_id) × IsJoined (drop (length l.passes.items) l.fn.passes.items) s.me);
}

abbrev pub decreases-loop-pass : goal.decreases-loop-pass
decreases-loop-pass l = goal.left-loop-pass l
