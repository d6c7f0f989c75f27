use Rattle.std.proofs.Common.{◌==◌, ◌&&◌, ◌∙◌, Bool, List, ap, not}
use Rattle.std.specs.List.{list_any}
use Rattle.bt_meta.specs.declared.block.Block.{Block}
use Rattle.bt_tables.specs.Showing.{Dealings}
use Rattle.bt_history.specs.Peers.{expected}
use Rattle.bt_picker.proofs.Overdue.{expected_there}
use Rattle.bt_picker.proofs.position.Position.expects_newly.Goals as goal

pub returns : goal.returns
returns c =
    let b = c.block-block.result in
    let has : List Block → Bool = list_any (λ a. (b.piece == a.piece) && (b.begin == a.begin)) in
    c.expects_newly.ensures
    ∙ (ap (λ (r : Dealings). has r.asked && not (has r.overdue)) c.peer.ensures
    ∙ (expected_there c.args.self.now.history c.args.worker b ∙ ap (expected c.args.self.now.history c.args.worker) c.block-block.ensures))
