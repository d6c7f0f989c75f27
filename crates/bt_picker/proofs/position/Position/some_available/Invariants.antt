use Rattle.std.proofs.Common.{None}
use Rattle.std.specs.Prelude.{nat_lt}
use Rattle.bt_history.specs.Pieces.{availability}
use Rattle.bt_picker.specs.Search.{FindsListed}
use Rattle.bt_picker.proofs.position.Position.some_available.Given as goal

abbrev pub invariant-loop-piece : goal.invariant-loop-piece
invariant-loop-piece l = FindsListed (λ p. nat_lt 0 (availability l.self.setting l.self.history p)) l.pieces l.piece-index None
