use Rattle.bt_session.proofs.Noted.{kept_err}
use Rattle.bt_session.proofs.Seats.{same_table}
use Rattle.bt_session.proofs.commons.Commons.call.Goals as goal

pub call-requires : goal.call-requires
call-requires g c = same_table g.L.RunName.desk c.worker.inside.pass.table c.self.inside.desk.table c.worker.invariant.pass.desk_is
    c.self.invariant.desk_is

pub returns-clause-kept : goal.returns-clause-kept
returns-clause-kept g c = rw (← c.worker.view_is) (kept_err c.call.result _ _ c.call.ensures.err)
