use Rattle.bt_picker.specs.Told.{action_told}
use Rattle.bt_history.specs.Legal.{answer, answer_unless, refusal}
use Rattle.bt_picker.proofs.Answering.{allowed_made, allowed_permits}
use Rattle.bt_picker.proofs.position.Position.allows_told.Goals as goal

pub returns-clause-yes : goal.returns-clause-yes
returns-clause-yes c =
    let d = c.args.self.now in
    let call = action_told c.args.told.now in
    λ passes. allowed_made d.setting d.history c.args.worker call c.args.reply c.requires
    (c.permits.ensures.yes passes (answer_unless (refusal d.setting d.history c.args.worker call) (answer d.setting d.history c.args.worker call))
    c.ruling.ensures.ruled)

pub returns-clause-no : goal.returns-clause-no
returns-clause-no c =
    let d = c.args.self.now in
    let call = action_told c.args.told.now in
    λ allowed. c.permits.ensures.no (answer_unless (refusal d.setting d.history c.args.worker call) (answer d.setting d.history c.args.worker call))
    c.ruling.ensures.ruled
    (allowed_permits d.setting d.history c.args.worker call c.args.reply allowed)
