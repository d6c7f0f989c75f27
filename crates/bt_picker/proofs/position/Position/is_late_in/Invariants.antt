use Rattle.std.proofs.Common.{◌≡◌, ℕ, ◌<◌, false}
use Rattle.bt_meta.specs.Layout.{block}
use Rattle.bt_history.specs.Peers.{overdue}
use Rattle.bt_picker.proofs.position.Position.is_late_in.Given as goal

abbrev pub invariant-loop-index : goal.invariant-loop-index
invariant-loop-index l = (k : ℕ) → k < l.index → overdue l.self.history l.worker (block l.self.setting.torrent l.piece k) ≡ false
