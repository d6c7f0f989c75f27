use Rattle.bt_tables.proofs.Apart.{kept_piece, lent_row}
use Rattle.bt_tables.proofs.pieces.Pieces.row.Goals as goal

pub row-requires : goal.row-requires
row-requires c =
    let o = c.self.inside in
    let kept = kept_piece o.shelf o.rows o.shown_by.items _ c.args.piece c.self.invariant.0 c.self.invariant.1 c.self.view_is c.requires in
    kept.within

pub returns : goal.returns
returns c =
    let o = c.self.inside in
    let kept = kept_piece o.shelf o.rows o.shown_by.items _ c.args.piece c.self.invariant.0 c.self.invariant.1 c.self.view_is c.requires in
    rw (← c.self.view_is) (lent_row o.rows o.shown_by.items c.args.piece c.row.result kept.len c.self.invariant.2 kept.within c.row.ensures)
