use Rattle.std.proofs.Common.{ap, ◌∙◌}
use Rattle.sha1.specs.Sha1.{sha1}
use Rattle.bt_picker.proofs.KeeperWaiting.{joined_blocks}
use Rattle.bt_picker.proofs.keeper.Keeper.settle.Goals as goal

pub settle_by-requires : goal.settle_by-requires
settle_by-requires c = λ waiting.
    let d = c.args.self.now in
    c.digest.ensures
    ∙ ap sha1 (rw c.piece.ensures (joined_blocks d.setting d.history c.args.verdict.now.piece c.args.verdict.now.blocks
    (c.is_stale.ensures.no c.if-is_stale.false (rw c.piece.ensures at waiting))))
