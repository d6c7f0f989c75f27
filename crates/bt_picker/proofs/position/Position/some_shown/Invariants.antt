use Rattle.std.proofs.Common.{None}
use Rattle.bt_history.specs.Peers.{shows}
use Rattle.bt_picker.specs.Search.{FindsListed}
use Rattle.bt_picker.proofs.position.Position.some_shown.Given as goal

abbrev pub invariant-loop-piece : goal.invariant-loop-piece
invariant-loop-piece l = FindsListed (shows l.self.history l.worker) l.pieces l.piece-index None
