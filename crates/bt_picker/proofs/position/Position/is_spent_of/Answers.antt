use Rattle.std.proofs.Common.{sym}
use Rattle.bt_picker.proofs.Scans.{left_found}
use Rattle.bt_picker.proofs.position.Position.is_spent_of.Goals as goal

pub returns-in-Some : goal.returns-in-Some
returns-in-Some c =
    let d = c.args.self.now in
    sym (left_found d.setting d.history c.args.worker c.args.piece c.in-Some.field-0 c.in-Some.ensures)
