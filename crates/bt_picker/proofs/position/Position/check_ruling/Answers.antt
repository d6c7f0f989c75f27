use Rattle.std.proofs.Common.{◌∙◌, Option, ap, sym}
use Rattle.bt_check.specs.Checked.{joined}
use Rattle.bt_history.specs.declared.call.Reason.{Reason}
use Rattle.bt_history.specs.declared.event.Action.TheVariants.{Settle}
use Rattle.bt_history.specs.Legal.{answer, answer_unless}
use Rattle.bt_history.proofs.Allowed.{settle_facts}
use Rattle.bt_picker.proofs.Entered.{settle_piece}
use Rattle.bt_picker.proofs.position.Position.check_ruling.Goals as goal

pub checked_reply-requires-clause-piece : goal.checked_reply-requires-clause-piece
checked_reply-requires-clause-piece c =
    let d = c.args.self.now in
    let v = c.args.verdict.now in
    settle_piece d.setting d.history c.args.worker v.piece (joined v)
    (sym c.check_refusal.ensures ∙ c.in-None.is)

pub checked_reply-requires-clause-current : goal.checked_reply-requires-clause-current
checked_reply-requires-clause-current c =
    let d = c.args.self.now in
    let v = c.args.verdict.now in
    (settle_facts d.setting d.history c.args.worker v.piece (joined v)
    (sym c.check_refusal.ensures ∙ c.in-None.is)).current

pub returns-in-Some : goal.returns-in-Some
returns-in-Some c =
    let d = c.args.self.now in
    let v = c.args.verdict.now in
    ap (λ (o : Option Reason). answer_unless o (answer d.setting d.history c.args.worker (Settle v.piece (joined v))))
    (sym c.check_refusal.ensures ∙ c.in-Some.is)

pub returns-in-None : goal.returns-in-None
returns-in-None c =
    let d = c.args.self.now in
    let v = c.args.verdict.now in
    ap (λ (o : Option Reason). answer_unless o (answer d.setting d.history c.args.worker (Settle v.piece (joined v))))
    (sym c.check_refusal.ensures ∙ c.in-None.is)
    ∙ c.checked_reply.ensures
