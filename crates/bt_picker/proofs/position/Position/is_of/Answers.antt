use Rattle.std.proofs.Common.{None, Some, sym, ◌∙◌}
use Rattle.bt_meta.specs.Layout.{block}
use Rattle.bt_picker.proofs.Sharing.{of_sender}
use Rattle.bt_picker.proofs.position.Position.is_of.Goals as goal

pub returns-in-Some : goal.returns-in-Some
returns-in-Some c =
    let d = c.args.self.now in
    sym (of_sender d.setting d.history c.args.worker (block d.setting.torrent c.args.piece c.args.index) (Some c.in-Some.sender) (sym c.in-Some.ensures))

pub returns-in-None : goal.returns-in-None
returns-in-None c =
    let d = c.args.self.now in
    c.is_expected_of_no_other.ensures
    ∙ sym (of_sender d.setting d.history c.args.worker (block d.setting.torrent c.args.piece c.args.index) None (sym c.in-None.ensures))
