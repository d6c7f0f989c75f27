use Rattle.std.proofs.Common.{◌∙◌, arith, subst}
use Rattle.bt_history.specs.Picks.{IsPicked}
use Rattle.bt_picker.specs.Positions.{DeskState}
use Rattle.bt_picker.specs.Told.{action_told, telling}
use Rattle.bt_picker.proofs.KeeperCalls.{known_keeps, stranger_keeps}
use Rattle.bt_picker.proofs.picker.Picker.keeps.Goals as goal

pub returns-then-worker-workers : goal.returns-then-worker-workers
returns-then-worker-workers c new reply tells =
    stranger_keeps c.args.self.now new (telling c.args.worker c.args.told.now reply) (omega arith) tells

pub returns : goal.returns
returns c new reply tells =
    let d = c.args.self.now in
    c.is_stored.ensures
    ∙ known_keeps d new c.args.worker (action_told c.args.told.now) c.reply.result reply (omega arith)
    (subst (λ (n : DeskState). IsPicked n.setting n.history (telling c.args.worker c.args.told.now c.reply.result)) c.position.ensures
    c.reply.ensures.picked) tells
