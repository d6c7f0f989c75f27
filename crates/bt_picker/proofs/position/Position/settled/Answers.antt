use Rattle.std.proofs.Common.{◌∙◌, false, sym, true}
use Rattle.bt_history.specs.Pieces.{content}
use Rattle.bt_picker.proofs.Answering.{check_picked}
use Rattle.bt_picker.proofs.Checking.{settled_allowed}
use Rattle.bt_picker.proofs.position.Position.settled.Goals as goal

pub returns-then-passed-clause-allowed : goal.returns-then-passed-clause-allowed
returns-then-passed-clause-allowed c =
    let d = c.args.self.now in
    settled_allowed d.setting d.history c.args.worker c.args.piece true c.requires.worker c.requires.waits (sym c.if-passed.true ∙ c.requires.passed)

pub returns-else-passed-clause-allowed : goal.returns-else-passed-clause-allowed
returns-else-passed-clause-allowed c =
    let d = c.args.self.now in
    settled_allowed d.setting d.history c.args.worker c.args.piece false c.requires.worker c.requires.waits (sym c.if-passed.false ∙ c.requires.passed)

pub returns-then-passed-clause-picked : goal.returns-then-passed-clause-picked
returns-then-passed-clause-picked c =
    let d = c.args.self.now in
    check_picked d.setting d.history c.args.worker c.args.piece (content d.setting d.history c.args.piece) _
    (settled_allowed d.setting d.history c.args.worker c.args.piece true c.requires.worker c.requires.waits (sym c.if-passed.true ∙ c.requires.passed))

pub returns-else-passed-clause-picked : goal.returns-else-passed-clause-picked
returns-else-passed-clause-picked c =
    let d = c.args.self.now in
    check_picked d.setting d.history c.args.worker c.args.piece (content d.setting d.history c.args.piece) _
    (settled_allowed d.setting d.history c.args.worker c.args.piece false c.requires.worker c.requires.waits (sym c.if-passed.false ∙ c.requires.passed))
