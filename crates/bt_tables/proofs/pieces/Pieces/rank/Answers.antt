use Rattle.std.proofs.Common.{◌∙◌, ap, arith, sym}
use Rattle.std.proofs.lemmas.List.{get_or_default}
use Rattle.bt_tables.specs.Tables.{PieceState, fresh_piece, piece_row}
use Rattle.bt_tables.specs.Floors.{rank_of_row}
use Rattle.bt_tables.proofs.Apart.{kept_piece, whole_at}
use Rattle.bt_tables.proofs.pieces.Pieces.rank.Goals as goal

pub row-requires : goal.row-requires
row-requires c =
    let o = c.self.inside in
    let kept = kept_piece o.shelf o.rows o.shown_by.items _ c.args.piece c.self.invariant.0 c.self.invariant.1 c.self.view_is c.requires in
    kept.within

pub index-requires : goal.index-requires
index-requires c =
    let o = c.self.inside in
    let kept = kept_piece o.shelf o.rows o.shown_by.items _ c.args.piece c.self.invariant.0 c.self.invariant.1 c.self.view_is c.requires in
    omega (arith, o.shown_by.ok.0, kept.len, kept.within)

pub returns : goal.returns
returns c =
    let o = c.self.inside in
    let p = c.args.piece in
    let kept = kept_piece o.shelf o.rows o.shown_by.items _ p c.self.invariant.0 c.self.invariant.1 c.self.view_is c.requires in
    let read = c.index.ensures ∙ get_or_default o.shown_by.items p c.index.result.now 0 (omega (arith, kept.len, kept.within)) in
    let level = c.level.ensures ∙ ap (λ (r : PieceState). r.level) c.row.ensures in
    rw (← c.self.view_is)
    (c.rank.ensures ∙ (λ i. rank_of_row (record (piece_row o.rows p) { level = level i; availability = read i }))
    ∙ ap rank_of_row (sym (whole_at o.rows o.shown_by.items p (fresh_piece 0) (fresh_piece 0) 0 kept.len kept.within)))
