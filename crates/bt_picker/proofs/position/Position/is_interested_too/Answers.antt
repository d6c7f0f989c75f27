use Rattle.std.proofs.Common.{sym, ◌∙◌}
use Rattle.bt_picker.proofs.Interest.{haves_change_nothing, haves_interest}
use Rattle.bt_picker.proofs.position.Position.is_interested_too.Goals as goal

pub returns-then-is_interested_by : goal.returns-then-is_interested_by
returns-then-is_interested_by c =
    let d = c.args.self.now in
    sym (haves_interest d.setting d.history c.args.worker c.args.flags.now (sym c.is_interested_by.ensures ∙ c.if-is_interested_by.true))

pub returns : goal.returns
returns c =
    let d = c.args.self.now in
    c.is_interesting.ensures ∙
    haves_change_nothing d.setting d.history c.args.worker c.args.flags.now (sym c.is_interested_by.ensures ∙ c.if-is_interested_by.false)
