use Rattle.std.proofs.Common.{arith, sym, ◌∙◌}
use Rattle.std.proofs.lemmas.List.{get_or_default}
use Rattle.bt_tables.proofs.Apart.{count_is, kept_piece}
use Rattle.bt_tables.proofs.pieces.Pieces.availability.Goals as goal

pub index-requires : goal.index-requires
index-requires c =
    let o = c.self.inside in
    let kept = kept_piece o.shelf o.rows o.shown_by.items _ c.args.piece c.self.invariant.0 c.self.invariant.1 c.self.view_is c.requires in
    omega (arith, o.shown_by.ok.0, kept.len, kept.within)

pub returns : goal.returns
returns c =
    let o = c.self.inside in
    let kept = kept_piece o.shelf o.rows o.shown_by.items _ c.args.piece c.self.invariant.0 c.self.invariant.1 c.self.view_is c.requires in
    let read = c.index.ensures ∙ get_or_default o.shown_by.items c.args.piece c.index.result.now 0 (omega (arith, kept.len, kept.within)) in
    rw (← c.self.view_is) (c.from.ensures ∙ read ∙ sym (count_is o.shelf o.rows o.shown_by.items c.args.piece kept))
