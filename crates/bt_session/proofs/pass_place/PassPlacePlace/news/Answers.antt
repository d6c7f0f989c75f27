use Rattle.bt_session.proofs.Told.{if_none, if_some, told_none, told_one}
use Rattle.bt_session.proofs.pass_place.PassPlacePlace.news.Goals as goal

pub returns-clause-some : goal.returns-clause-some
returns-clause-some g c =
    rw (← c.self.view_is) (if_some (told_one g.L.RunName.setting c.self.inside.worker c.news.new.worker c.self.inside.lacked c.news.ensures.rest.0)
    c.news.result c.news.ensures.some)

pub returns-clause-none : goal.returns-clause-none
returns-clause-none g c =
    rw (← c.self.view_is) (if_none (told_none g.L.RunName.setting c.self.inside.worker c.news.new.worker c.self.inside.lacked c.news.ensures.rest.0)
    c.news.result c.news.ensures.none)
