use Rattle.std.proofs.Common.{◌∙◌, sym}
use Rattle.bt_picker.proofs.KeeperCalls.{dropped_stash}
use Rattle.bt_picker.proofs.keeper.Keeper.arrived.Goals as goal

pub invariant_of-self : goal.invariant_of-self
invariant_of-self c =
    dropped_stash c.self.inside.picker c.tell.new.self c.self.inside.stash c.args.worker c.args.piece c.args.begin c.as_slice.result.now
    c.tell.result c.self.invariant c.tell.ensures.tells
    (sym (c.keeps-is_kept.ensures _ _ c.tell.ensures.tells) ∙ c.if-not-is_kept.true)
