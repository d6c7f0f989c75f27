use Rattle.std.proofs.Common.{◌∙◌, ap}
use Rattle.bt_meta.specs.Layout.{block}
use Rattle.bt_tables.specs.Standings.{is_held}
use Rattle.bt_picker.proofs.Cells.{held_is}
use Rattle.bt_picker.proofs.position.Position.holds.Goals as goal

pub returns : goal.returns
returns c =
    let d = c.args.self.now in
    c.is_held.ensures ∙ (ap is_held c.cell.ensures ∙ held_is d.setting d.history (block d.setting.torrent c.args.piece c.args.index))
