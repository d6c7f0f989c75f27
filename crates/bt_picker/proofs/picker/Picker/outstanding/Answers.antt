use Rattle.std.proofs.Common.{◌∙◌, ap}
use Rattle.bt_tables.specs.Showing.{Dealings, dealings}
use Rattle.bt_picker.proofs.Entering.{peer_row_is}
use Rattle.bt_picker.proofs.picker.Picker.outstanding.Goals as goal

pub returns : goal.returns
returns c =
    let lt = rw (← c.self.view_is) at c.requires in
    rw (← c.self.view_is) (c.asked.ensures
    ∙ ap (λ (r : Dealings). r.asked) (c.peer.ensures ∙ ap dealings (peer_row_is _ _ c.args.worker c.self.invariant.0 lt)))
