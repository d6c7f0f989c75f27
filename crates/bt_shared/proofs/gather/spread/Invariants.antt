use Rattle.std.proofs.Common.{◌≡◌, ◌≤◌, [], length, take, drop, vec_len, IfNone, IfSome}
use Rattle.atomic_table.specs.declared.shared.Seat.{Seat}
use Rattle.bt_shared.specs.declared.view.DeskView.{DeskView}
use Rattle.bt_shared.specs.Closing.{EachOwn, IsJoined}
use Rattle.bt_shared.specs.Gathering.{EachFrom, held_by}
use Rattle.bt_shared.specs.Guard.{Slot}
use Rattle.bt_shared.proofs.gather.spread.Given as goal

abbrev pub invariant-loop-pass : goal.invariant-loop-pass
invariant-loop-pass l = record {
  left : l.passes.items ≡ take (length l.passes.items) l.fn.passes.items;
  fewer : length l.passes.items ≤ length l.fn.passes.items;
  held : l.held ≡ held_by (drop (length l.passes.items) l.fn.passes.items);
  none : IfNone l.all (drop (length l.passes.items) l.fn.passes.items ≡ []);
  joined : IfSome l.all
      (λ (s : Seat Slot DeskView). (s.table_id ≡ l.words.table_id) × IsJoined (drop (length l.passes.items) l.fn.passes.items) s.me);
  own : EachOwn (drop (length l.passes.items) l.fn.passes.items);
  room : vec_len l.logs ≡ vec_len l.fn.logs;
  logs : EachFrom (drop (length l.passes.items) l.fn.passes.items) l.logs.items;
}

abbrev pub decreases-loop-pass : goal.decreases-loop-pass
decreases-loop-pass l = goal.left-loop-pass l
