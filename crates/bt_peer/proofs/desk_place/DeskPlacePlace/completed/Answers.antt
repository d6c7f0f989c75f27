use Rattle.std.proofs.Common.{[], ◌∷◌, rules}
use Rattle.bt_picker.specs.Checks.{waits}
use Rattle.bt_peer.proofs.Desks.{settled}
use Rattle.bt_peer.proofs.News.{told_settled}
use Rattle.bt_peer.proofs.desk_place.DeskPlacePlace.completed.Goals as goal

pub returns-in-Ok-clause-ok : goal.returns-in-Ok-clause-ok
returns-in-Ok-clause-ok c =
    let place = c.args.self.now in
    settled (place.desk.ghost_name ∷ place.told.ghost_name ∷ []) place.desk.now c.settle_now.new.self place.worker c.args.piece c.in-Ok.field-0
    place.told.now place.lacked c.in-Ok.ensures.ok

pub invariant_of-self : goal.invariant_of-self
invariant_of-self c =
    let place = c.args.self.now in
    let desk = place.desk.now in
    record {
      worker_is = search rules;
      pieces = search rules;
      told_first = told_settled (waits desk.setting desk.history c.args.piece) place.told.now place.seen desk c.settle_now.new.self place.worker
          c.args.piece c.in-Ok.field-0 c.in-Ok.ensures.ok place.told_first;
    }
