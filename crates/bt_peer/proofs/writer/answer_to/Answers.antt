use Rattle.std.proofs.Common.{rules}
use Rattle.bt_peer.proofs.writer.answer_to.Goals as goal

pub returns-in-Request : goal.returns-in-Request
returns-in-Request c = search rules fits 100
