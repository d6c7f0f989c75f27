use Rattle.std.proofs.Common.{None}
use Rattle.bt_picker.specs.Search.{FindsListed, serves_at}
use Rattle.bt_picker.proofs.position.Position.least_served.Given as goal

abbrev pub invariant-loop-piece : goal.invariant-loop-piece
invariant-loop-piece l = FindsListed (serves_at l.self.setting l.self.history l.worker l.level) l.pieces l.piece-index None
