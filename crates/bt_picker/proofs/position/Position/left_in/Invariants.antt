use Rattle.std.proofs.Common.{◌≡◌, ℕ, ◌<◌, false}
use Rattle.bt_meta.specs.Layout.{block, block_count}
use Rattle.bt_picker.specs.Search.{is_left}
use Rattle.bt_picker.proofs.position.Position.left_in.Given as goal

abbrev pub invariant-loop-index : goal.invariant-loop-index
invariant-loop-index l =
    (k : ℕ) → k < l.index → k < block_count l.self.setting.torrent l.piece →
    is_left l.self.setting l.self.history l.worker (block l.self.setting.torrent l.piece k) ≡ false
