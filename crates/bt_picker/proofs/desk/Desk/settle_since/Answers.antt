use Rattle.std.proofs.Common.{ap, subst, ◌∙◌}
use Rattle.bt_history.specs.Legal.{IsLegal}
use Rattle.bt_picker.specs.Lasting.{failure_count}
use Rattle.bt_picker.specs.Positions.{DeskState}
use Rattle.bt_picker.proofs.Lasting.{still_current}
use Rattle.bt_picker.proofs.desk.Desk.settle_since.Goals as goal

pub enter-requires-clause-current : goal.enter-requires-clause-current
enter-requires-clause-current c =
    let d = c.args.self.now in
    let legal = subst (λ (x : DeskState). IsLegal x.setting x.history) c.self.view_is c.attest.ensures.legal in
    let counted = c.self.invariant.5 ∙ ap (λ (x : DeskState). failure_count x.history) c.self.view_is in
    still_current d.setting d.history c.args.failures c.args.verdict.value legal c.requires.due (c.if-failures-self.true ∙ counted)
