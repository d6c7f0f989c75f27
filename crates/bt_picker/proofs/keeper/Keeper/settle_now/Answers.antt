use Rattle.std.proofs.Common.{ap, sym, ◌∙◌}
use Rattle.std.proofs.lemmas.Bool.{false≢true}
use Rattle.sha1.specs.Sha1.{sha1}
use Rattle.bt_picker.proofs.KeeperWaiting.{joined_blocks}
use Rattle.bt_picker.proofs.keeper.Keeper.settle_now.Goals as goal
use Rattle.bt_picker.proofs.keeper.Keeper.settle_now.Goals.{then-is_waiting, else-is_waiting}

pub settle_by-requires : goal.settle_by-requires
settle_by-requires c = λ waiting.
    let d = c.args.self.now in
    elim c.if-is_waiting.branch [
      | then-is_waiting w ↦ w.digest-is ∙ (w.hash-digest.ensures ∙ ap sha1 (joined_blocks d.setting d.history c.args.piece _ w.waiting.ensures))
      | else-is_waiting w ↦ absurd (false≢true (sym w.if-is_waiting.false ∙ (c.is_waiting.ensures ∙ rw c.self.view_is waiting)))
    ]
