use Rattle.std.proofs.Common.{◌≡◌, ◌∙◌, List, ap, subst, sym, arith, length, length-set, refl}
use Rattle.bt_tables.specs.Tables.{HasRoomOf, PieceState, changed_row, piece_row}
use Rattle.bt_tables.specs.Standings.{Amount, whole_rows}
use Rattle.bt_tables.proofs.Apart.{IsChange, IsKept, amount_after, can_change, changed_counts, changes, edit_is, edited_row, edited_rows, in_groups, is_change}
use Rattle.bt_tables.proofs.Apart.{kept_piece, lent_row, own_row, same_room, stands_in}
use Rattle.bt_tables.specs.Floors.{is_fresh}
use Rattle.bt_tables.specs.Rows.{amount_of, is_fresh_by}
use Rattle.bt_tables.proofs.Rowed.{fresh_is}
use Rattle.bt_tables.proofs.Fronts.{front_kept}
use Rattle.bt_tables.proofs.pieces.Pieces.apply.Goals as goal

pub index-requires : goal.index-requires
index-requires c =
    let o = c.self.inside in
    let p = c.args.piece in
    let kept = kept_piece o.shelf o.rows o.shown_by.items _ p c.self.invariant.0 c.self.invariant.1 c.self.view_is c.requires.piece in
    omega (arith, o.shown_by.ok.0, kept.len, kept.within)

pub row-requires : goal.row-requires
row-requires c =
    let o = c.self.inside in
    let p = c.args.piece in
    let kept = kept_piece o.shelf o.rows o.shown_by.items _ p c.self.invariant.0 c.self.invariant.1 c.self.view_is c.requires.piece in
    kept.within

pub apply-counts-requires-clause-piece : goal.apply-counts-requires-clause-piece
apply-counts-requires-clause-piece c =
    let o = c.self.inside in
    let p = c.args.piece in
    let kept = kept_piece o.shelf o.rows o.shown_by.items _ p c.self.invariant.0 c.self.invariant.1 c.self.view_is c.requires.piece in
    kept.within

pub apply-counts-requires-clause-fits : goal.apply-counts-requires-clause-fits
apply-counts-requires-clause-fits c =
    let o = c.self.inside in
    let p = c.args.piece in
    let kept = kept_piece o.shelf o.rows o.shown_by.items _ p c.self.invariant.0 c.self.invariant.1 c.self.view_is c.requires.piece in
    let fits = rw (← c.self.view_is) at c.requires.fits in
    let at_piece = piece_row (whole_rows o.rows o.shown_by.items) p in
    subst (HasRoomOf c.args.change) (sym (lent_row o.rows o.shown_by.items p (piece_row o.rows p) kept.len c.self.invariant.2 kept.within refl))
    (same_room c.args.change at_piece.availability at_piece fits)

-- what is read of the piece
kept : (c : goal.After-put-arg-1) → IsKept c.self.inside.shelf c.self.inside.rows c.self.inside.shown_by.items c.args.piece
kept c =
    let o = c.self.inside in
    kept_piece o.shelf o.rows o.shown_by.items _ c.args.piece c.self.invariant.0 c.self.invariant.1 c.self.view_is c.requires.piece

-- and how it stands before and after
stands : (c : goal.After-put-arg-1) → IsChange c.self.inside.rows c.self.inside.shown_by.items c.args.piece c.args.change c.from-shown_by.result
    (amount_of c.standing-before.result) (amount_of c.standing-after.result)
stands c =
    let within = (kept c).within in
    is_change c.self.inside.rows _ c.self.inside.shown_by.items c.args.piece c.args.change _ _ _ _ _ _ within (omega (arith, (kept c).len, within))
    c.from-shown_by.ensures c.index.ensures c.row.ensures c.apply-counts.ensures.rows refl c.standing-before.ensures.amount
    (amount_after c.self.inside.rows _ c.args.piece c.from-shown_by.result _ c.args.change c.apply-counts.result _ within c.apply-counts.ensures.rows
    (c.standing-before.ensures.blocks ∙ ap (λ (r : PieceState). length r.blocks) c.row.ensures) c.apply-counts.ensures.counts c.standing-after.ensures)

pub put-requires-clause-piece : goal.put-requires-clause-piece
put-requires-clause-piece c = in_groups c.self.inside.shelf c.self.inside.rows c.self.inside.shown_by.items c.args.piece (kept c)

pub put-requires-clause-before : goal.put-requires-clause-before
put-requires-clause-before c =
    let o = c.self.inside in
    let p = c.args.piece in
    ap (λ (s : Amount). s.group) (stands c).before_is
    ∙ stands_in o.shelf o.rows o.shown_by.items p (kept c) (piece_row o.rows p) c.from-shown_by.result (own_row o.rows p (kept c).within)
    (stands c).count

pub put-requires-clause-fits : goal.put-requires-clause-fits
put-requires-clause-fits c =
    let o = c.self.inside in
    can_change o.shelf o.rows o.shown_by.items c.args.piece (kept c) c.args.change c.from-shown_by.result _ _ (stands c)

-- the same facts of the rows as they were, at the place behind the last call
kept_at_end : (c : goal.After-put) → IsKept c.self.inside.shelf c.self.inside.rows c.self.inside.shown_by.items c.args.piece
kept_at_end c =
    let o = c.self.inside in
    kept_piece o.shelf o.rows o.shown_by.items _ c.args.piece c.self.invariant.0 c.self.invariant.1 c.self.view_is c.requires.piece

stands_at_end : (c : goal.After-put) → IsChange c.self.inside.rows c.self.inside.shown_by.items c.args.piece c.args.change c.from-shown_by.result
    (amount_of c.standing-before.result) (amount_of c.standing-after.result)
stands_at_end c =
    let within = (kept_at_end c).within in
    is_change c.self.inside.rows _ c.self.inside.shown_by.items c.args.piece c.args.change _ _ _ _ _ _ within
    (omega (arith, (kept_at_end c).len, within)) c.from-shown_by.ensures c.index.ensures c.row.ensures c.apply-counts.ensures.rows refl
    c.standing-before.ensures.amount
    (amount_after c.self.inside.rows _ c.args.piece c.from-shown_by.result _ c.args.change c.apply-counts.result _ within c.apply-counts.ensures.rows
    (c.standing-before.ensures.blocks ∙ ap (λ (r : PieceState). length r.blocks) c.row.ensures) c.apply-counts.ensures.counts c.standing-after.ensures)

-- whether the piece is fresh then
fresh_after : (c : goal.After-put) → c.is_fresh.result ≡ is_fresh (changed_row c.args.change (piece_row c.self.inside.rows c.args.piece))
fresh_after c =
    let rows = c.self.inside.rows in
    let p = c.args.piece in
    c.is_fresh.ensures ∙ ap is_fresh_by c.standing-after.ensures ∙ fresh_is c.apply-counts.result _ c.from-shown_by.result c.standing-before.result.blocks c.apply-counts.ensures.counts ∙ ap is_fresh (ap (λ (l : List PieceState). piece_row l p) c.apply-counts.ensures.rows ∙ edited_row rows p c.args.change (kept_at_end c).within)

pub invariant_of-self : goal.invariant_of-self
invariant_of-self c =
    let o = c.self.inside in
    let p = c.args.piece in
    let kept = kept_at_end c in
    let new = changed_row c.args.change (piece_row o.rows p) in
    rw (c.apply-counts.ensures.rows ∙ edited_rows o.rows p c.args.change kept.within) (
      changes o.shelf o.rows o.shown_by.items p kept c.put.new.self c.args.change c.from-shown_by.result _ _ (stands_at_end c) c.put.ensures,
      c.self.invariant.1 ∙ sym (length-set o.rows p new),
      changed_counts o.shelf o.rows o.shown_by.items p kept c.self.invariant.2 c.args.change _ new (own_row o.rows p kept.within) refl,
      front_kept o.rows p o.front _ new c.is_fresh.result c.self.invariant.3 (fresh_after c) c.front_with-self-inside.ensures,
    )

pub returns : goal.returns
returns c =
    let o = c.self.inside in
    let p = c.args.piece in
    let within = (kept_at_end c).within in
    rw (← c.self.view_is, c.apply-counts.ensures.rows ∙ edited_rows o.rows p c.args.change within)
    (edit_is o.shelf o.rows o.shown_by.items p (kept_at_end c) c.args.change (piece_row o.rows p) _ c.from-shown_by.result
    (own_row o.rows p within) (stands_at_end c).count refl)
