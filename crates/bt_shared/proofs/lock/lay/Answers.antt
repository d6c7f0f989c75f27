use Rattle.std.proofs.Common.{◌≡◌, []}
use Rattle.bt_picker.specs.Positions.{DeskState}
use Rattle.bt_shared.specs.Guard.{desk}
use Rattle.bt_shared.proofs.Seats.{opens}
use Rattle.bt_shared.proofs.lock.lay.Goals as goal

pub new-requires : goal.new-requires
new-requires g c =
    let d : DeskState = g.D.Shareable.state c.args.shared.value in
    let is : d ≡ desk c.args.terms.now [] = c.requires in
    rw (c.in_ok-push.ensures.items, c.new-slots.ensures.items, is) (opens c.args.terms.now)
