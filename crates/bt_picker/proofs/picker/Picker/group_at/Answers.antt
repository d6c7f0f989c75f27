use Rattle.std.proofs.Common.{arith}
use Rattle.bt_picker.proofs.Unbegun.{group_unbegun_of}
use Rattle.bt_picker.proofs.picker.Picker.group_at.Goals as goal

pub returns : goal.returns
returns c =
    let few = rw (← c.self.view_is) at c.requires.shown_by in
    rw (← c.self.view_is) (group_unbegun_of _ _ c.args.level c.args.shown_by c.group.result.now c.self.invariant.0 c.requires.level
    (omega (arith, few, c.self.invariant.1)) c.group.ensures)
