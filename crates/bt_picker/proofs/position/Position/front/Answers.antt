use Rattle.std.proofs.Common.{subst}
use Rattle.bt_picker.specs.Search.{NoneBegins}
use Rattle.bt_picker.specs.Positions.{DeskState}
use Rattle.bt_picker.proofs.Learning.{front_begins}
use Rattle.bt_picker.proofs.position.Position.front.Goals as goal

pub returns : goal.returns
returns c =
    subst (λ (d : DeskState). NoneBegins d.setting d.history c.front.result) c.self.view_is
    (front_begins c.self.inside.tables.now _ c.front.result c.self.invariant c.front.ensures)
