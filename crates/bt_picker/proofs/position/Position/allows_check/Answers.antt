use Rattle.bt_check.specs.Checked.{joined}
use Rattle.bt_history.specs.declared.event.Action.TheVariants.{Settle}
use Rattle.bt_history.specs.Legal.{answer, answer_unless, refusal}
use Rattle.bt_picker.proofs.Answering.{allowed_made, allowed_permits}
use Rattle.bt_picker.proofs.position.Position.allows_check.Goals as goal

pub returns-clause-yes : goal.returns-clause-yes
returns-clause-yes c =
    let d = c.args.self.now in
    let call = Settle c.args.verdict.now.piece (joined c.args.verdict.now) in
    λ passes. allowed_made d.setting d.history c.args.worker call c.args.reply c.requires.worker
    (c.permits.ensures.yes passes (answer_unless (refusal d.setting d.history c.args.worker call) (answer d.setting d.history c.args.worker call))
    c.check_ruling.ensures)

pub returns-clause-no : goal.returns-clause-no
returns-clause-no c =
    let d = c.args.self.now in
    let call = Settle c.args.verdict.now.piece (joined c.args.verdict.now) in
    λ allowed. c.permits.ensures.no (answer_unless (refusal d.setting d.history c.args.worker call) (answer d.setting d.history c.args.worker call))
    c.check_ruling.ensures
    (allowed_permits d.setting d.history c.args.worker call c.args.reply allowed)
