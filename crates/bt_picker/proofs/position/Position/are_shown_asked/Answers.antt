use Rattle.std.proofs.Common.{◌≡◌, ◌∙◌, ap, sym, not, true, false, ⊎_elim}
use Rattle.std.proofs.lemmas.Bool.{cases_Bool}
use Rattle.bt_picker.proofs.Waiting.{asked_all, asked_not, none_holds_up}
use Rattle.bt_picker.proofs.position.Position.are_shown_asked.Goals as goal

pub returns-then-not-is_open_shown : goal.returns-then-not-is_open_shown
returns-then-not-is_open_shown c =
    let d = c.args.self.now in
    ⊎_elim
    (λ (is : c.is_fresh_shown.result ≡ true). ap not is ∙ sym (asked_not d.setting d.history (c.is_fresh_shown.ensures.yes is)))
    (λ (isnt : c.is_fresh_shown.result ≡ false). ap not isnt ∙ sym (asked_all d.setting d.history
    (none_holds_up d.setting d.history c.attest.ensures.legal c.requires
    (c.is_open_shown.ensures.no c.if-not-is_open_shown.true) (c.is_fresh_shown.ensures.no isnt))))
    (cases_Bool c.is_fresh_shown.result)

pub returns-else-not-is_open_shown : goal.returns-else-not-is_open_shown
returns-else-not-is_open_shown c =
    let d = c.args.self.now in
    ap not c.if-not-is_open_shown.false ∙ sym (asked_not d.setting d.history (c.is_open_shown.ensures.yes c.if-not-is_open_shown.false))
