use Rattle.std.proofs.Common.{sym, ◌∙◌}
use Rattle.bt_picker.proofs.Interest.{have_changes_nothing, have_interests}
use Rattle.bt_picker.proofs.position.Position.is_interested_with.Goals as goal

pub returns-then-lacks : goal.returns-then-lacks
returns-then-lacks c =
    let d = c.args.self.now in
    sym (have_interests d.setting d.history c.args.worker c.args.shown c.requires.shown (sym c.lacks.ensures ∙ c.if-lacks.true))

pub returns : goal.returns
returns c =
    let d = c.args.self.now in
    c.is_interesting.ensures ∙ have_changes_nothing d.setting d.history c.args.worker c.args.shown (sym c.lacks.ensures ∙ c.if-lacks.false)
