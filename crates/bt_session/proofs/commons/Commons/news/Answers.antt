use Rattle.bt_session.proofs.Told.{news_none, news_one}
use Rattle.bt_session.proofs.commons.Commons.news.Goals as goal

pub returns-clause-some : goal.returns-clause-some
returns-clause-some g c =
    rw (← c.worker.view_is) (news_one g.L.RunName.setting c.self.inside.board.torrent c.self.invariant.board_torrent c.worker.inside.seat
    c.news.new.seat
    c.news.result c.news.ensures.piece c.news.ensures.some c.news.ensures.given)

pub returns-clause-none : goal.returns-clause-none
returns-clause-none g c =
    rw (← c.worker.view_is) (news_none g.L.RunName.setting c.self.inside.board.torrent c.self.invariant.board_torrent c.worker.inside.seat
    c.news.new.seat
    c.news.result c.news.ensures.none c.news.ensures.complete)
