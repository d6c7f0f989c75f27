use Rattle.std.proofs.Common.{◌≡◌, ◌≤◌, ◌%◌, ◌^◌, ◌&&◌, ◌||◌, ◌∷◌, ◌∙◌, not, true, ap, subst, sym}
use Rattle.bt_history.specs.declared.rules.TheConstants.{MOST_WORKERS}
use Rattle.bt_history.specs.Epochs.{begins_endgame, epoch, is_request, stirs, stores_beyond, unsettles}
use Rattle.bt_history.specs.History.{History, counts}
use Rattle.bt_history.specs.Pieces.{endgame}
use Rattle.bt_history.specs.Legal.{IsAllowed}
use Rattle.bt_history.specs.Picks.{IsPicked}
use Rattle.bt_picker.proofs.Answering.{picks_more}
use Rattle.bt_history.specs.Setting.{Setting}
use Rattle.bt_picker.specs.Checks.{waits}
use Rattle.bt_picker.specs.Positions.{DeskState}
use Rattle.bt_picker.specs.Told.{telling}
use Rattle.bt_picker.specs.Tables.{AreTables}
use Rattle.bt_picker.proofs.Completing.{completed_waits}
use Rattle.bt_picker.proofs.Epochs.{epoch_told, only_requests, stirs_parts}
use Rattle.bt_picker.proofs.picker.Picker.hear.Goals as goal

pub invariant_of-self : goal.invariant_of-self
invariant_of-self c =
    let inside = c.self.inside in
    let s = inside.tables.setting in
    let old = inside.past.entries in
    let reply = c.reply-reply.result in
    let e = telling c.args.worker c.args.told.now reply in
    let is : c.position-before.result ≡ record { setting = s; history = old } = c.position-before.ensures ∙ sym c.self.view_is in
    let setting = c.enter.ensures.setting in
    let told : c.stirs-stirs.result ≡ (counts reply && (unsettles e.action || stores_beyond s old e e.action)) =
    c.stirs-stirs.ensures ∙ ap (λ (d : DeskState). counts reply && (unsettles e.action || stores_beyond d.setting d.history e e.action)) is in
    let was : c.asks_in_endgame-was_endgame.result ≡ (is_request reply && endgame s old) =
    c.asks_in_endgame-was_endgame.ensures ∙ ap (λ (d : DeskState). is_request reply && endgame d.setting d.history) is in
    let now : c.asks_in_endgame-is_endgame.result ≡ (is_request reply && endgame s (e ∷ old)) =
    c.asks_in_endgame-is_endgame.ensures
    ∙ (λ i. is_request reply && endgame ((c.new.ensures.setting ∙ setting) i) ((c.new.ensures.history ∙ c.then-self-inside.ensures) i)) in
    let begins : c.begins_endgame.result ≡ begins_endgame s old e =
    c.begins_endgame.ensures
    ∙ ((λ i. is_request reply && (not (was i) && now i)) ∙ only_requests (is_request reply) (endgame s old) (endgame s (e ∷ old))) in
    let stirred : (c.stirs-stirs.result || c.begins_endgame.result) ≡ stirs s old e = (λ i. told i || begins i) ∙ stirs_parts s old e in (
      subst (AreTables c.enter.new.tables) (sym c.then-self-inside.ensures) c.enter.ensures.are,
      subst (λ (n : Setting). n.workers ≤ MOST_WORKERS) (sym setting) c.self.invariant.1,
      c.risen-self-inside.ensures
          ∙ (epoch_told s old e inside.stirred _ c.self.invariant.2 stirred
          ∙ (λ i. epoch (sym setting i) (sym c.then-self-inside.ensures i) % 2 ^ 64)),
      picks_more s c.enter.new.tables.setting old _ e setting c.then-self-inside.ensures c.self.invariant.3
          (subst (λ (n : DeskState). IsAllowed n.setting n.history e) is c.reply-reply.ensures.allowed)
          (subst (λ (n : DeskState). IsPicked n.setting n.history e) is c.reply-reply.ensures.picked),
    )

pub returns-clause-completes : goal.returns-clause-completes
returns-clause-completes c =
    λ piece begin bytes call completed.
    let inside = c.self.inside in
    let d = c.position-before.result in
    let e = telling c.args.worker c.args.told.now c.reply-reply.result in
    let old = inside.past.entries in
    let is : d ≡ record { setting = inside.tables.setting; history = old } = c.position-before.ensures ∙ sym c.self.view_is in
    let allowed = subst (λ (n : DeskState). IsAllowed n.setting n.history e) is c.reply-reply.ensures.allowed in
    let waiting : waits inside.tables.setting (e ∷ old) piece ≡ true =
    completed_waits inside.tables.setting old e piece begin bytes c.self.invariant.0.legal allowed call completed in
    ap (λ (h : History). waits c.enter.new.tables.setting h piece) c.then-self-inside.ensures
    ∙ (ap (λ (s : Setting). waits s (e ∷ old) piece) c.enter.ensures.setting ∙ waiting)
