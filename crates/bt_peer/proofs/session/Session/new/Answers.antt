use Rattle.std.proofs.Common.{rules}
use Rattle.bt_peer.proofs.session.Session.new.Goals as goal

pub returns : goal.returns
returns c = search rules fits 100
