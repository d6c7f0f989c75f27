use Rattle.std.proofs.Common.{rules}
use Rattle.bt_session.proofs.Noted.{entered_call}
use Rattle.bt_session.proofs.pass_place.PassPlacePlace.call.Goals as goal

pub returns-in-Ok-clause-ok : goal.returns-in-Ok-clause-ok
returns-in-Ok-clause-ok g c =
    rw (← c.self.view_is) (entered_call g.L.RunName.setting c.self.inside.worker c.call.new.worker c.self.inside.lacked c.args.call
    c.in-Ok.reply c.in-Ok.ensures.ok c.call.ensures.rest.0)

pub returns-in-Err-clause-err : goal.returns-in-Err-clause-err
returns-in-Err-clause-err g c = search rules fits 100
