use Rattle.std.proofs.Common.{◌∷◌, []}
use Rattle.bt_session.proofs.Through.{begin_with}
use Rattle.bt_session.proofs.commons.Commons.verdicts_of.Goals as goal

pub returns-in-Ok-clause-pieces : goal.returns-in-Ok-clause-pieces
returns-in-Ok-clause-pieces g c =
    let jobs = c.in_ok-first in
    let hashed = c.in-Ok.ensures in
    rw (hashed.first, hashed.second, hashed.third, hashed.fourth)
    (begin_with g.L.RunName.desk g.L.RunName.setting c.args.pieces.now c.in_ok-lanes.lanes
    (jobs.first ∷ jobs.second ∷ jobs.third ∷ jobs.fourth ∷ []) c.in_ok-lanes.ensures.few c.in_ok-lanes.ensures.first jobs.ensures.pieces)
