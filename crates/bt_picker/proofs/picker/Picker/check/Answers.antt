use Rattle.std.proofs.Common.{◌≡◌, ◌≤◌, ◌∙◌, ◌%◌, ◌^◌, ap, not, refl, subst, sym}
use Rattle.bt_history.specs.declared.rules.TheConstants.{MOST_WORKERS}
use Rattle.bt_history.specs.Epochs.{epoch}
use Rattle.bt_history.specs.Setting.{Setting}
use Rattle.bt_check.specs.Checked.{joined}
use Rattle.bt_history.specs.Legal.{IsAllowed}
use Rattle.bt_history.specs.Picks.{IsPicked}
use Rattle.bt_picker.specs.Positions.{DeskState}
use Rattle.bt_picker.specs.Told.{checking}
use Rattle.bt_picker.proofs.Answering.{picks_more}
use Rattle.bt_picker.specs.Tables.{AreTables}
use Rattle.bt_picker.proofs.Epochs.{epoch_settled}
use Rattle.bt_picker.proofs.picker.Picker.check.Goals as goal

pub invariant_of-self : goal.invariant_of-self
invariant_of-self c =
    let inside = c.self.inside in
    let s = inside.tables.setting in
    let old = inside.past.entries in
    let e = checking c.args.worker c.args.verdict.now.piece (joined c.args.verdict.now) c.checked-reply.result in
    let is : c.position.result ≡ record { setting = s; history = old } = c.position.ensures ∙ sym c.self.view_is in
    let setting = c.enter_verdict.ensures.setting in (
      subst (AreTables c.enter_verdict.new.tables) (sym c.then-self-inside.ensures) c.enter_verdict.ensures.are,
      subst (λ (n : Setting). n.workers ≤ MOST_WORKERS) (sym setting) c.self.invariant.1,
      c.risen-self-inside.ensures
          ∙ (epoch_settled s old e inside.stirred (not c.is_refusal.result) c.self.invariant.2 refl (ap not c.is_refusal.ensures)
          ∙ (λ i. epoch (sym setting i) (sym c.then-self-inside.ensures i) % 2 ^ 64)),
      picks_more s c.enter_verdict.new.tables.setting old _ e setting c.then-self-inside.ensures c.self.invariant.3
          (subst (λ (n : DeskState). IsAllowed n.setting n.history e) is c.checked-reply.ensures.allowed)
          (subst (λ (n : DeskState). IsPicked n.setting n.history e) is c.checked-reply.ensures.picked),
    )
