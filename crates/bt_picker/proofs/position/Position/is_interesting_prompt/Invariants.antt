use Rattle.std.proofs.Common.{◌≡◌, ◌<◌, ◌-◌, ◌&&◌, ℕ, false, not}
use Rattle.bt_meta.specs.Layout.{piece_count}
use Rattle.bt_history.specs.Peers.{shows}
use Rattle.bt_history.specs.Pieces.{had, level, wanted}
use Rattle.bt_picker.proofs.position.Position.is_interesting_prompt.Given as goal

abbrev pub invariant-loop-slot : goal.invariant-loop-slot
invariant-loop-slot l = (p : ℕ) → p < piece_count l.self.setting.torrent → 7 - l.slot < level l.self.history p
    → (wanted l.self.setting l.self.history p && (shows l.self.history l.worker p && not (had l.self.history p))) ≡ false
