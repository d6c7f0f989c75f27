use Rattle.std.proofs.Common.{◌≡◌, ◌-◌, ◌*◌, ◌+◌, subst, arith}
use Rattle.bt_picker.specs.Search.{NoneRarer}
use Rattle.bt_picker.proofs.Rarest.{floor_at}
use Rattle.bt_picker.proofs.position.Position.floor_at.Goals as goal

pub returns : goal.returns
returns c =
    let d = c.args.self.now in
    let is : c.floor.result - ((7 - c.args.level) * 65536 + 0) ≡ c.saturating_sub.result = omega (arith, c.saturating_sub.ensures, c.rank.ensures) in
    subst (NoneRarer d.setting d.history c.args.worker c.args.level) is
    (floor_at d.setting d.history c.args.worker c.args.level c.floor.result c.floor.ensures)
