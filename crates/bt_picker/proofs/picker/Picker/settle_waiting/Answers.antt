use Rattle.std.proofs.Common.{◌≡◌, ◌≤◌, ◌∷◌, ◌∙◌, ◌%◌, ◌^◌, ap, not, refl, subst, sym}
use Rattle.bt_meta.specs.Layout.{Layout}
use Rattle.bt_history.specs.declared.event.Event.{Event}
use Rattle.bt_history.specs.declared.rules.TheConstants.{MOST_WORKERS}
use Rattle.bt_history.specs.Setting.{Setting}
use Rattle.bt_history.specs.Legal.{IsAllowed}
use Rattle.bt_history.specs.Picks.{IsPicked}
use Rattle.bt_picker.proofs.Answering.{picks_more}
use Rattle.bt_picker.specs.Checks.{settling}
use Rattle.bt_picker.specs.Positions.{DeskState}
use Rattle.bt_picker.specs.Noted.{setting_with}
use Rattle.bt_picker.specs.Tables.{AreTables}
use Rattle.bt_history.specs.Epochs.{epoch}
use Rattle.bt_picker.proofs.Epochs.{epoch_settled}
use Rattle.bt_picker.proofs.picker.Picker.settle_waiting.Goals as goal

pub invariant_of-self : goal.invariant_of-self
invariant_of-self c =
    let inside = c.self.inside in
    let old = inside.past.entries in
    let reply = c.settled-reply.result in
    let is : c.position.result ≡ record { setting = inside.tables.setting; history = old } = c.position.ensures ∙ sym c.self.view_is in
    let same : settling (setting_with c.torrent.result.now.layout) old c.args.worker c.args.piece reply
    ≡ settling inside.tables.setting old c.args.worker c.args.piece reply =
    ap (λ (t : Layout). settling (setting_with t) old c.args.worker c.args.piece reply)
    (c.torrent.ensures ∙ ap (λ (s : Setting). s.torrent) c.enter_check.ensures.setting) in
    let entries : c.then-self-inside.result.entries ≡ settling inside.tables.setting old c.args.worker c.args.piece reply ∷ old =
    c.then-self-inside.ensures ∙ ap (λ (e : Event). e ∷ old) same in (
      subst (AreTables c.enter_check.new.tables) (sym entries) c.enter_check.ensures.are,
      subst (λ (s : Setting). s.workers ≤ MOST_WORKERS) (sym c.enter_check.ensures.setting) c.self.invariant.1,
      c.risen-self-inside.ensures
          ∙ (epoch_settled inside.tables.setting old (settling inside.tables.setting old c.args.worker c.args.piece reply) inside.stirred
          (not c.is_refusal.result) c.self.invariant.2 refl (ap not c.is_refusal.ensures)
          ∙ (λ i. epoch (sym c.enter_check.ensures.setting i) (sym entries i) % 2 ^ 64)),
      picks_more inside.tables.setting c.enter_check.new.tables.setting old _
          (settling inside.tables.setting old c.args.worker c.args.piece reply) c.enter_check.ensures.setting entries c.self.invariant.3
          (subst (λ (n : DeskState). IsAllowed n.setting n.history (settling n.setting n.history c.args.worker c.args.piece reply)) is
          c.settled-reply.ensures.allowed)
          (subst (λ (n : DeskState). IsPicked n.setting n.history (settling n.setting n.history c.args.worker c.args.piece reply)) is
          c.settled-reply.ensures.picked),
    )
