use Rattle.std.proofs.Common.{◌≡◌, ◌<◌, ◌-◌, ℕ, true}
use Rattle.bt_meta.specs.Layout.{piece_count}
use Rattle.bt_history.specs.Pieces.{availability, level, unbegun}
use Rattle.bt_picker.proofs.position.Position.is_fresh_shown.Given as goal

abbrev pub invariant-loop-slot : goal.invariant-loop-slot
invariant-loop-slot l = (p : ℕ) → p < piece_count l.self.setting.torrent → 7 - l.slot < level l.self.history p
    → unbegun l.self.setting l.self.history p ≡ true → availability l.self.setting l.self.history p ≡ 0
