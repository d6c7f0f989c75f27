use Rattle.std.proofs.Common.{arith}
use Rattle.std.proofs.lemmas.Bool.{ltb-true}
use Rattle.bt_picker.proofs.Rarest.{above_all}
use Rattle.bt_picker.proofs.position.Position.shows_no_candidate.Goals as goal

pub returns : goal.returns
returns c is =
    let d = c.args.self.now in
    above_all d.setting d.history c.args.worker c.args.level c.floor_at.result c.floor_at.ensures
    (omega (arith, ltb-true c.workers.result c.floor_at.result is, c.workers.ensures))
