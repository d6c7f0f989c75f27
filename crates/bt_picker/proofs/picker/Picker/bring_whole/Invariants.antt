use Rattle.std.proofs.Common.{◌≡◌}
use Rattle.bt_meta.specs.Layout.{block_count}
use Rattle.bt_picker.proofs.Restoring.{Bringing}
use Rattle.bt_picker.proofs.picker.Picker.bring_whole.Given as goal

abbrev pub invariant-loop-index : goal.invariant-loop-index
invariant-loop-index l =
    (l.count ≡ block_count l.initial.self.setting.torrent l.piece) × Bringing l.initial.self l.self l.worker l.piece l.bytes.bytes l.index
