use Rattle.std.proofs.Common.{◌∙◌, ap, not, sym}
use Rattle.bt_picker.proofs.Waiting.{asked_not, waits_for_all, wanted_all}
use Rattle.bt_picker.proofs.position.Position.are_awaited_asked.Goals as goal

pub returns-then-are_wanted_asked : goal.returns-then-are_wanted_asked
returns-then-are_wanted_asked c =
    let d = c.args.self.now in
    sym (wanted_all d.setting d.history (sym c.are_wanted_asked.ensures ∙ c.if-are_wanted_asked.true))

pub returns-then-not-waits_for_shown : goal.returns-then-not-waits_for_shown
returns-then-not-waits_for_shown c =
    let d = c.args.self.now in
    sym (waits_for_all d.setting d.history (sym c.waits_for_shown.ensures ∙ c.if-not-waits_for_shown.true)
    ∙ (sym c.are_wanted_asked.ensures ∙ c.if-are_wanted_asked.false))

pub returns-else-not-is_first_open_shown : goal.returns-else-not-is_first_open_shown
returns-else-not-is_first_open_shown c =
    let d = c.args.self.now in
    ap not c.if-not-is_first_open_shown.false
    ∙ sym (asked_not d.setting d.history (c.is_first_open_shown.ensures c.if-not-is_first_open_shown.false))
