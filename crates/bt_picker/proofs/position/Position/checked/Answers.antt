use Rattle.bt_check.specs.Checked.{joined}
use Rattle.bt_history.specs.declared.event.Action.TheVariants.{Settle}
use Rattle.bt_picker.proofs.Answering.{check_picked, ruling_allowed}
use Rattle.bt_picker.proofs.position.Position.checked.Goals as goal

pub returns-clause-allowed : goal.returns-clause-allowed
returns-clause-allowed c =
    let d = c.args.self.now in
    let v = c.args.verdict.now in
    ruling_allowed d.setting d.history c.args.worker (Settle v.piece (joined v)) c.check_ruling.result c.reply.result
    c.requires.worker c.check_ruling.ensures c.reply.ensures

pub returns-clause-picked : goal.returns-clause-picked
returns-clause-picked c =
    let d = c.args.self.now in
    let v = c.args.verdict.now in
    check_picked d.setting d.history c.args.worker v.piece (joined v) c.reply.result (ruling_allowed d.setting d.history c.args.worker
    (Settle v.piece (joined v)) c.check_ruling.result c.reply.result c.requires.worker c.check_ruling.ensures c.reply.ensures)
