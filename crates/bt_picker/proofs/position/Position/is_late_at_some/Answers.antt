use Rattle.std.proofs.Common.{◌≡◌, ◌∙◌, ap, length, subst}
use Rattle.bt_history.specs.Counting.{any_below}
use Rattle.bt_history.specs.Pieces.{is_late_at_some}
use Rattle.bt_picker.specs.Positions.{DeskState}
use Rattle.bt_tables.specs.Tables.{is_late_at, peer_row}
use Rattle.bt_picker.proofs.Overdue.{overdue_somewhere}
use Rattle.bt_picker.proofs.position.Position.is_late_at_some.Goals as goal

pub returns : goal.returns
returns c =
    let t = c.self.inside.tables.now in
    let b = c.block-block.result in
    let d = c.args.self.now in
    c.is_late_at_some.ensures
    ∙ (subst (λ (d : DeskState). any_below (length t.peers) (λ q. is_late_at b.piece b.begin (peer_row t.peers q)) ≡ is_late_at_some d.setting d.history b)
    c.self.view_is (overdue_somewhere t _ b c.self.invariant)
    ∙ ap (is_late_at_some d.setting d.history) c.block-block.ensures)
