use Rattle.std.proofs.Common.{sym, subst}
use Rattle.bt_session.specs.Checking.{ChecksTickets}
use Rattle.bt_session.specs.Workers.{WorkerState}
use Rattle.bt_session.proofs.Rounds.{tickets_none, tickets_on}
use Rattle.bt_session.proofs.checker.check_pieces.Goals as goal
use Rattle.bt_session.proofs.checker.check_pieces.Goals.{in-None, in-Some+then-round}

pub loop-init : goal.loop-init
loop-init g c = tickets_none g.L.RunName.setting c.args.worker _

pub loop-preserved : goal.loop-preserved
loop-preserved g c =
    tickets_on g.L.RunName.setting c.args.worker c.loop.worker c.next_round-round.new.worker c.check_all-given_up.new.worker _ _ _ _
    c.loop.invariant c.next_round-round.ensures (rw c.as_slice.ensures.value at c.check_all-given_up.ensures)

pub returns : goal.returns
returns g c =
    let first = c.args.worker in
    elim c.match-next.branch [
      | in-None w ↦ rw (w.worker-is, w.given_up-is) c.loop.invariant
      | in-Some+then-round w ↦ rw (w.worker-is, w.given_up-is)
          (tickets_on g.L.RunName.setting first c.loop.worker w.next_round-round.new.worker w.check_all-given_up.new.worker _ _ _ _
          c.loop.invariant w.next_round-round.ensures (rw w.as_slice.ensures.value at w.check_all-given_up.ensures))
    ]
