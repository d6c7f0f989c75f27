use Rattle.std.proofs.Common.{List, ap, arith, length, ◌<◌, ◌≤◌, ◌∙◌, sym}
use Rattle.bt_tables.specs.Tables.{CellState, PieceState, edit, fresh_piece, one_less, piece_row}
use Rattle.bt_tables.specs.Standings.{cell_kept}
use Rattle.bt_tables.proofs.Rowed.{cell_edited}
use Rattle.bt_tables.proofs.Tabled.{edit_past, edit_unmoved}
use Rattle.bt_tables.proofs.rows.Rows.lower.Goals as goal

pub returns-then-index-len : goal.returns-then-index-len
returns-then-index-len c =
    let rows = c.args.self.now in
    let p = c.args.piece in
    let k = c.args.index in
    let lk : k < length (piece_row rows p).blocks =
    omega (arith, c.if-index-len.true, c.len.ensures, ap (λ (r : PieceState). length r.blocks) c.row.ensures) in
    c.put.ensures.rows
    ∙ cell_edited rows p k one_less (cell_kept c.lowered.result) (cell_kept c.cell-cell.result) c.requires lk c.cell-cell.ensures c.lowered.ensures

pub returns-else-index-len : goal.returns-else-index-len
returns-else-index-len c =
    let rows = c.args.self.now in
    let p = c.args.piece in
    let k = c.args.index in
    let row = piece_row rows p in
    let le : length row.blocks ≤ k = omega (arith, c.if-index-len.false, c.len.ensures, ap (λ (r : PieceState). length r.blocks) c.row.ensures) in
    sym (edit_unmoved rows p (λ r. record r { blocks = edit r.blocks k one_less }) (fresh_piece 0) c.requires
    (ap (λ (cells : List CellState). record row { blocks = cells }) (edit_past row.blocks k one_less le)))
