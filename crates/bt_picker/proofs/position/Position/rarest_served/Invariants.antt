use Rattle.std.proofs.Common.{◌≡◌}
use Rattle.std.specs.Prelude.{IfSome, true}
use Rattle.bt_history.specs.Pieces.{availability}
use Rattle.bt_picker.specs.Search.{FindsRarest, order_of, serves_at}
use Rattle.bt_picker.proofs.position.Position.rarest_served.Given as goal

abbrev pub invariant-loop-piece : goal.invariant-loop-piece
invariant-loop-piece l =
    FindsRarest (serves_at l.self.setting l.self.history l.worker l.level) (order_of l.self.setting l.self.history true 0) l.pieces l.piece-index l.rarest
    × IfSome l.rarest (λ p. l.fewest ≡ availability l.self.setting l.self.history p)
