use Rattle.bt_history.specs.Entries.{action_of}
use Rattle.std.proofs.Common.{[], ◌∷◌, rules}
use Rattle.bt_history.proofs.Losing.{call_keeps}
use Rattle.bt_peer.proofs.Desks.{called}
use Rattle.bt_peer.proofs.News.{told_entered}
use Rattle.bt_peer.proofs.desk_place.DeskPlacePlace.call.Goals as goal

pub returns-in-Ok-clause-ok : goal.returns-in-Ok-clause-ok
returns-in-Ok-clause-ok c =
    let place = c.args.self.now in
    called (place.desk.ghost_name ∷ place.told.ghost_name ∷ []) place.desk.now c.call.new.self place.worker
    (action_of c.args.call) c.in-Ok.reply place.told.now place.lacked (call_keeps c.args.call) c.in-Ok.ensures.ok

pub invariant_of-self : goal.invariant_of-self
invariant_of-self c =
    let place = c.args.self.now in
    record {
      worker_is = search rules;
      pieces = search rules;
      told_first = told_entered place.told.now place.seen place.desk.now c.call.new.self _ c.in-Ok.ensures.ok place.told_first;
    }
