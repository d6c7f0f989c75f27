use Rattle.std.proofs.Common.{subst}
use Rattle.bt_picker.specs.Search.{NoneBefore}
use Rattle.bt_picker.specs.Positions.{DeskState}
use Rattle.bt_picker.proofs.Learning.{floor_before}
use Rattle.bt_picker.proofs.position.Position.floor.Goals as goal

pub returns : goal.returns
returns c =
    let lw = rw (← c.self.view_is) at c.requires in
    subst (λ (d : DeskState). NoneBefore d.setting d.history c.args.worker c.floor.result) c.self.view_is
    (floor_before c.self.inside.tables.now _ c.args.worker c.self.invariant lw c.floor.result c.floor.ensures)
