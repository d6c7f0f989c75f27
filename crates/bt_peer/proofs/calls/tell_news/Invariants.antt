use Rattle.bt_peer.specs.Outlets.{outlet}
use Rattle.bt_peer.proofs.Telling.{Telling}
use Rattle.bt_peer.proofs.calls.tell_news.Given as goal

abbrev pub invariant-news : goal.invariant-news
invariant-news g l = Telling (outlet g.P.Place g.W.Sink l.fn.place l.fn.said) (outlet g.P.Place g.W.Sink l.place l.said) l.counter
