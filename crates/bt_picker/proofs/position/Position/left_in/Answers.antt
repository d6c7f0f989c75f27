use Rattle.std.proofs.Common.{◌&&◌, not, ◌∙◌, ap, sym, arith, length, ℕ}
use Rattle.bt_meta.specs.Layout.{block, block_count}
use Rattle.bt_tables.specs.Tables.{CellState, PieceState, empty_cell}
use Rattle.bt_history.specs.Peers.{overdue}
use Rattle.bt_picker.specs.Tables.{cell_of}
use Rattle.bt_tables.specs.Standings.{is_touched}
use Rattle.bt_picker.proofs.Cells.{touched_is}
use Rattle.bt_tables.proofs.Tabled.{get_or_is_table, length_table}
use Rattle.bt_picker.proofs.position.Position.left_in.Goals as goal

pub loop-index-init : goal.loop-index-init
loop-index-init c k lk inside =
    let d = c.args.self.now in
    let cells : ℕ → CellState = λ j. cell_of d.setting d.history (block d.setting.torrent c.args.piece j) in
    let count = block_count d.setting.torrent c.args.piece in
    let is = ap (λ (r : PieceState). r.blocks) c.piece.ensures in
    let long = ap length is ∙ length_table count cells in
    let here = get_or_is_table c.piece.result.blocks count cells k empty_cell is inside in
    λ j. not ((sym (touched_is d.setting d.history (block d.setting.torrent c.args.piece k))
    ∙ (ap is_touched (sym here) ∙ c.first-index.ensures k lk (omega (arith, inside, long)))) j)
    && not (overdue d.history c.args.worker (block d.setting.torrent c.args.piece k))
