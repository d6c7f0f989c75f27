use Rattle.std.proofs.Common.{◌∙◌, arith, sym}
use Rattle.bt_meta.specs.Layout.{block, block_count}
use Rattle.bt_history.specs.Peers.{overdue}
use Rattle.bt_history.proofs.Below.{any_found}
use Rattle.bt_picker.proofs.position.Position.is_late_in.Goals as goal

pub returns-then-is_overdue : goal.returns-then-is_overdue
returns-then-is_overdue c =
    let d = c.args.self.now in
    sym (any_found (block_count d.setting.torrent c.args.piece) (λ k. overdue d.history c.args.worker (block d.setting.torrent c.args.piece k))
    c.loop-index.index (omega (arith, c.loop-index-test.true, c.block_count-index-end.ensures)) (sym c.is_overdue.ensures ∙ c.if-is_overdue.true))
