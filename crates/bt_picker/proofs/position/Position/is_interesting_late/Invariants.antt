use Rattle.std.proofs.Common.{◌≡◌, ◌<◌, ◌&&◌, ℕ, false, not}
use Rattle.bt_history.specs.Peers.{shows}
use Rattle.bt_history.specs.Pieces.{had, wanted}
use Rattle.bt_picker.proofs.position.Position.is_interesting_late.Given as goal

abbrev pub invariant-loop-piece : goal.invariant-loop-piece
invariant-loop-piece l = (p : ℕ) → p < l.piece
    → (wanted l.self.setting l.self.history p && (shows l.self.history l.worker p && not (had l.self.history p))) ≡ false
