use Rattle.std.proofs.Common.{◌<◌}
use Rattle.std.specs.Prelude.{IfSome}
use Rattle.bt_history.specs.Pieces.{offers}
use Rattle.bt_meta.specs.Layout.{piece_count}
use Rattle.bt_picker.specs.Search.{FindsRarest, order_of}
use Rattle.bt_picker.proofs.position.Position.first_offered.Given as goal

abbrev pub invariant-loop-piece : goal.invariant-loop-piece
invariant-loop-piece l =
    FindsRarest (offers l.self.setting l.self.history l.worker) (order_of l.self.setting l.self.history l.rare l.first) l.pieces l.piece-index l.best
    × IfSome l.best (λ p. p < piece_count l.self.setting.torrent)
