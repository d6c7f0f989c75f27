use Rattle.std.proofs.Common.{◌≡◌, ◌++◌}
use Rattle.bt_meta.specs.Layout.{block}
use Rattle.bt_check.specs.Checked.{joined}
use Rattle.bt_history.specs.Pieces.{content_of_block, joined_below}
use Rattle.bt_picker.proofs.filed.Filed.is_current.Given as goal

abbrev pub invariant-loop-index : goal.invariant-loop-index
invariant-loop-index l =
    joined l.verdict ≡ joined_below l.index (λ k. content_of_block l.self.history (block l.self.setting.torrent l.verdict.piece k)) ++ l.hashed
