use Rattle.std.proofs.Common.{◌∙◌, ap}
use Rattle.bt_picker.specs.Contents.{has_wanted}
use Rattle.bt_picker.specs.Positions.{DeskState}
use Rattle.bt_picker.proofs.Contents.{resting_wanted}
use Rattle.bt_picker.proofs.position.Position.has_wanted.Goals as goal

pub returns : goal.returns
returns c =
    resting_wanted c.self.inside.tables.now _ c.are_all_resting.result c.self.invariant c.are_all_resting.ensures
    ∙ ap (λ (d : DeskState). has_wanted d.setting d.history) c.self.view_is
