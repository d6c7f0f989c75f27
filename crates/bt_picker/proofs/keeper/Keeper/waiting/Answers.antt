use Rattle.std.proofs.Common.{◌∙◌}
use Rattle.bt_picker.proofs.KeeperWaiting.{waiting_row}
use Rattle.bt_picker.proofs.keeper.Keeper.waiting.Goals as goal

pub returns : goal.returns
returns c =
    rw (← c.self.view_is)
    (c.row.ensures ∙ waiting_row _ _ c.self.inside.stash c.args.piece c.self.invariant c.attest.ensures.legal (rw (← c.self.view_is) at c.requires))
