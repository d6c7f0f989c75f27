use Rattle.std.proofs.Common.{rules}
use Rattle.bt_session.proofs.waiting.is_waiting.Goals as goal

pub loop-piece-preserved : goal.loop-piece-preserved
loop-piece-preserved c = search rules fits 100
