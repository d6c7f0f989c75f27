use Rattle.bt_history.specs.declared.event.Action.TheVariants.{Arrived}
use Rattle.bt_picker.proofs.Answering.{block_picked, ruling_allowed}
use Rattle.bt_picker.proofs.position.Position.received.Goals as goal

pub returns-clause-allowed : goal.returns-clause-allowed
returns-clause-allowed c =
    let d = c.args.self.now in
    ruling_allowed d.setting d.history c.args.worker (Arrived c.args.piece c.args.begin c.args.bytes.now.bytes) c.block_ruling.result c.reply.result
    c.requires.worker c.block_ruling.ensures c.reply.ensures

pub returns-clause-picked : goal.returns-clause-picked
returns-clause-picked c =
    let d = c.args.self.now in
    block_picked d.setting d.history c.args.worker c.args.piece c.args.begin c.args.bytes.now.bytes c.reply.result
    (ruling_allowed d.setting d.history c.args.worker (Arrived c.args.piece c.args.begin c.args.bytes.now.bytes) c.block_ruling.result
    c.reply.result c.requires.worker c.block_ruling.ensures c.reply.ensures)
