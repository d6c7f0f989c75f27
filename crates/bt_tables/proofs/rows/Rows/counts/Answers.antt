use Rattle.std.proofs.Common.{◌∙◌, List, ap, arith, length, sym}
use Rattle.bt_tables.specs.Tables.{PieceState, piece_row}
use Rattle.bt_tables.proofs.Rowed.{cells_at, is_row, own_counts, rows_length}
use Rattle.bt_tables.proofs.rows.Rows.counts.Goals as goal

pub index-requires : goal.index-requires
index-requires c =
    let o = c.self.inside in
    omega (arith, c.requires, o.counts.ok.0, ap length c.self.view_is, rows_length o.width o.counts.items o.cells.items)

pub returns : goal.returns
returns c =
    let o = c.self.inside in
    let p = c.args.piece in
    let counts = c.index.result.now in
    let row = is_row o.width o.counts.items o.cells.items _ p counts c.self.invariant c.self.view_is c.requires c.index.ensures in
    rw (ap (λ (l : List PieceState). piece_row l p) (sym c.self.view_is) ∙ row.row)
    (record { are = own_counts counts (cells_at o.width o.cells.items p) row.keeps; keeps = row.keeps })
