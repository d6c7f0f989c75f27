use Rattle.std.proofs.Common.{◌≡◌, ℕ, ◌<◌, true}
use Rattle.bt_meta.specs.Layout.{block}
use Rattle.bt_history.specs.Pieces.{is_of}
use Rattle.bt_picker.proofs.position.Position.is_sole.Given as goal

abbrev pub invariant-loop-index : goal.invariant-loop-index
invariant-loop-index l =
    (k : ℕ) → k < l.index → is_of l.self.setting l.self.history l.worker (block l.self.setting.torrent l.piece k) ≡ true
