use Rattle.std.proofs.Common.{◌≡◌, ◌+◌, ◌≤◌, length, vec_len, vec_capacity, Some}
use Rattle.std.specs.List.{All}
use Rattle.std.specs.Vec.Iter.{into_iter_items, into_iter_len}
use Rattle.bt_session.specs.Beginnings.{AreFresh, IsNewPass, IsNewSeat}
use Rattle.bt_session.specs.Workers.{AreNumbered}
use Rattle.bt_session.proofs.fittings.enlist.Given as goal

abbrev pub invariant-loop-pass : goal.invariant-loop-pass
invariant-loop-pass g l = record {
  fresh : AreFresh g.L.RunName.setting l.workers.items;
  passes : AreNumbered (IsNewPass g.L.RunName.desk g.L.RunName.setting) (length l.workers.items) (into_iter_items l.pass-iterator);
  seats : AreNumbered (IsNewSeat g.L.RunName.board) (length l.workers.items) (into_iter_items l.seats);
  tickets : All (λ pass. g.L.RunName.queue ≡ Some pass.queue) (into_iter_items l.tickets);
  many_seats : into_iter_len l.seats ≡ into_iter_len l.pass-iterator;
  many_tickets : into_iter_len l.tickets ≡ into_iter_len l.pass-iterator;
  count : vec_len l.workers + into_iter_len l.pass-iterator ≡ vec_len l.fn.passes;
  room : vec_len l.workers + into_iter_len l.pass-iterator ≤ vec_capacity l.workers;
}
