use Rattle.std.proofs.Common.{ap, not, sym, ◌∙◌}
use Rattle.bt_history.proofs.Owning.{together}
use Rattle.bt_picker.proofs.position.Position.is_free_for.Goals as goal

pub returns-then-not-may_have_alone : goal.returns-then-not-may_have_alone
returns-then-not-may_have_alone c =
    let d = c.args.self.now in
    let none = c.may_have_alone.ensures c.if-not-may_have_alone.true in
    ap not c.if-not-may_have_alone.true
    ∙ sym (together d.setting d.history c.args.worker c.args.piece (none c.args.worker c.requires.worker) none)
