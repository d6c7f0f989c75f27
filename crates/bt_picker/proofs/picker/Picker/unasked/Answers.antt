use Rattle.std.proofs.Common.{◌∙◌}
use Rattle.bt_picker.proofs.Unbegun.{unasked_rows}
use Rattle.bt_picker.proofs.picker.Picker.unasked.Goals as goal

pub returns : goal.returns
returns c = rw (← c.self.view_is) (c.unasked.ensures ∙ unasked_rows _ _ c.self.invariant.0)
