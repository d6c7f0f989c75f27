use Rattle.std.proofs.Common.{◌≡◌}
use Rattle.bt_meta.specs.Layout.{block}
use Rattle.bt_history.specs.Pieces.{content_of_block}
use Rattle.bt_history.specs.Counting.{table}
use Rattle.bt_picker.proofs.filed.Filed.share_blocks.Given as goal

abbrev pub invariant-loop-index : goal.invariant-loop-index
invariant-loop-index l = l.blocks.items ≡ table l.index (λ k. content_of_block l.self.history (block l.self.setting.torrent l.piece k))
