use Rattle.bt_peer.proofs.Leaving.{left}
use Rattle.bt_peer.proofs.turn.leave_by.Goals as goal

pub returns-clause-leave : goal.returns-clause-leave
returns-clause-leave g c = left _ _ c.call.result c.call.ensures.ok c.call.ensures.err
