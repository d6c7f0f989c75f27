use Rattle.std.proofs.Common.{◌≡◌, ℕ, ◌<◌, false, subst}
use Rattle.bt_history.specs.Peers.{alone}
use Rattle.bt_picker.specs.Positions.{DeskState}
use Rattle.bt_picker.proofs.Sharing.{none_works_alone}
use Rattle.bt_picker.proofs.position.Position.may_have_alone.Goals as goal

pub returns : goal.returns
returns c never =
    subst (λ (d : DeskState). (q : ℕ) → q < d.setting.workers → alone d.history q ≡ false) c.self.view_is
    (none_works_alone c.self.inside.tables.now _ c.self.invariant (c.may_have_alone.ensures never))
