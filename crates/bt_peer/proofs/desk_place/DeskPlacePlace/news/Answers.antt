use Rattle.std.proofs.Common.{[], ◌∷◌}
use Rattle.bt_peer.proofs.Desks.{told_one}
use Rattle.bt_peer.proofs.News.{all_told, found_had, lesser_told}
use Rattle.bt_peer.proofs.Stretches.{Gains-none}
use Rattle.bt_peer.proofs.desk_place.DeskPlacePlace.news.Goals as goal

pub returns-in-Some-clause-some : goal.returns-in-Some-clause-some
returns-in-Some-clause-some c =
    let place = c.args.self.now in
    let finds = c.in-Some.ensures.found in
    rw c.set.ensures (told_one (place.desk.ghost_name ∷ place.told.ghost_name ∷ []) place.desk.now place.worker c.in-Some.piece place.told.now
    place.lacked finds.0 (found_had place.desk.now place.told.now c.in-Some.piece c.in-Some.ensures.kept place.pieces finds) finds.1)

pub returns-in-Some-clause-least : goal.returns-in-Some-clause-least
returns-in-Some-clause-least c =
    lesser_told c.args.self.now.told.now c.args.self.now.desk.now.history c.in-Some.piece c.in-Some.ensures.found

pub returns-in-None-clause-none : goal.returns-in-None-clause-none
returns-in-None-clause-none c =
    let place = c.args.self.now in
    rw c.in-None.is (Gains-none _, all_told place.desk.now place.told.now place.pieces c.in-None.ensures.found)
