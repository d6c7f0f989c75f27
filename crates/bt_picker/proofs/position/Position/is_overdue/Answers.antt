use Rattle.std.proofs.Common.{◌==◌, ◌&&◌, ◌∙◌, ap}
use Rattle.std.specs.List.{list_any}
use Rattle.bt_history.specs.Peers.{overdue}
use Rattle.bt_tables.specs.Showing.{Dealings}
use Rattle.bt_picker.proofs.Overdue.{overdue_there}
use Rattle.bt_picker.proofs.position.Position.is_overdue.Goals as goal

pub returns : goal.returns
returns c =
    let h = c.args.self.now.history in
    let b = c.block-block.result in
    c.is_late_with.ensures ∙ (ap (λ (r : Dealings). list_any (λ a. (b.piece == a.piece) && (b.begin == a.begin)) r.overdue) c.peer.ensures
    ∙ (overdue_there h c.args.worker b ∙ ap (overdue h c.args.worker) c.block-block.ensures))
