use Rattle.std.proofs.Common.{◌≡◌, ◌≤◌, ◌%◌, ◌^◌, ◌∷◌, ◌∙◌, true, ap, subst, sym, refl}
use Rattle.bt_history.specs.declared.rules.TheConstants.{MOST_WORKERS}
use Rattle.bt_history.specs.Epochs.{epoch, stirs}
use Rattle.bt_history.specs.History.{History}
use Rattle.bt_history.specs.Legal.{IsAllowed}
use Rattle.bt_history.specs.Picks.{IsPicked}
use Rattle.bt_history.specs.Setting.{Setting}
use Rattle.bt_picker.specs.Checks.{arriving, waits}
use Rattle.bt_picker.specs.Positions.{DeskState}
use Rattle.bt_picker.specs.Tables.{AreTables}
use Rattle.bt_picker.proofs.Answering.{picks_more}
use Rattle.bt_picker.proofs.Completing.{completed_waits}
use Rattle.bt_picker.proofs.Epochs.{epoch_told}
use Rattle.bt_picker.proofs.picker.Picker.bring.Goals as goal

pub invariant_of-self : goal.invariant_of-self
invariant_of-self c =
    let inside = c.self.inside in
    let s = inside.tables.setting in
    let old = inside.past.entries in
    let e = arriving c.args.worker c.args.piece c.args.begin c.args.bytes.now.bytes c.received-reply.result in
    let is : c.position-before.result ≡ record { setting = s; history = old } = c.position-before.ensures ∙ sym c.self.view_is in
    let setting = c.enter_block.ensures.setting in
    let stirred : c.stirs_with-stirs.result ≡ stirs s old e =
    c.stirs_with-stirs.ensures ∙ ap (λ (d : DeskState). stirs d.setting d.history e) is in (
      subst (AreTables c.enter_block.new.tables) (sym c.then-self-inside.ensures) c.enter_block.ensures.are,
      subst (λ (n : Setting). n.workers ≤ MOST_WORKERS) (sym setting) c.self.invariant.1,
      c.risen-self-inside.ensures
          ∙ (epoch_told s old e inside.stirred _ c.self.invariant.2 stirred
          ∙ (λ i. epoch (sym setting i) (sym c.then-self-inside.ensures i) % 2 ^ 64)),
      picks_more s c.enter_block.new.tables.setting old _ e setting c.then-self-inside.ensures c.self.invariant.3
          (subst (λ (n : DeskState). IsAllowed n.setting n.history e) is c.received-reply.ensures.allowed)
          (subst (λ (n : DeskState). IsPicked n.setting n.history e) is c.received-reply.ensures.picked),
    )

pub returns-clause-completes : goal.returns-clause-completes
returns-clause-completes c =
    λ completed.
    let inside = c.self.inside in
    let d = c.position-before.result in
    let piece = c.args.piece in
    let bytes = c.args.bytes.now.bytes in
    let e = arriving c.args.worker piece c.args.begin bytes c.received-reply.result in
    let old = inside.past.entries in
    let is : d ≡ record { setting = inside.tables.setting; history = old } = c.position-before.ensures ∙ sym c.self.view_is in
    let allowed = subst (λ (n : DeskState). IsAllowed n.setting n.history e) is c.received-reply.ensures.allowed in
    let waiting : waits inside.tables.setting (e ∷ old) piece ≡ true =
    completed_waits inside.tables.setting old e piece c.args.begin bytes c.self.invariant.0.legal allowed refl completed in
    ap (λ (h : History). waits c.enter_block.new.tables.setting h piece) c.then-self-inside.ensures
    ∙ (ap (λ (s : Setting). waits s (e ∷ old) piece) c.enter_block.ensures.setting ∙ waiting)
