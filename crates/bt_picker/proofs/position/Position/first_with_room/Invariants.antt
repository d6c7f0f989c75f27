use Rattle.std.proofs.Common.{◌≡◌, ℕ, ◌<◌, ◌≤◌, false}
use Rattle.bt_meta.specs.Layout.{block}
use Rattle.bt_picker.specs.Search.{has_room}
use Rattle.bt_picker.proofs.position.Position.first_with_room.Given as goal

abbrev pub invariant-loop-index : goal.invariant-loop-index
invariant-loop-index l =
    (k : ℕ) → l.first ≤ k → k < l.index → has_room l.self.setting l.self.history (block l.self.setting.torrent l.piece k) ≡ false
