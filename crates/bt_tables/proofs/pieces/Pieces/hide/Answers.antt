use Rattle.std.proofs.Common.{◌∙◌, arith, length-set}
use Rattle.std.proofs.lemmas.List.{get_or_default}
use Rattle.bt_tables.proofs.Apart.{counted_less, kept_piece, shown_less}
use Rattle.bt_tables.proofs.pieces.Pieces.hide.Goals as goal

pub index-shown_by-requires : goal.index-shown_by-requires
index-shown_by-requires c =
    let o = c.self.inside in
    let kept = kept_piece o.shelf o.rows o.shown_by.items _ c.args.piece c.self.invariant.0 c.self.invariant.1 c.self.view_is c.requires in
    omega (arith, o.shown_by.ok.0, kept.len, kept.within)

pub index_mut-requires : goal.index_mut-requires
index_mut-requires c =
    let o = c.self.inside in
    let kept = kept_piece o.shelf o.rows o.shown_by.items _ c.args.piece c.self.invariant.0 c.self.invariant.1 c.self.view_is c.requires in
    omega (arith, o.shown_by.ok.0, kept.len, kept.within)

pub invariant_of-self : goal.invariant_of-self
invariant_of-self c =
    let o = c.self.inside in
    let kept = kept_piece o.shelf o.rows o.shown_by.items _ c.args.piece c.self.invariant.0 c.self.invariant.1 c.self.view_is c.requires in
    let read = c.index-shown_by.ensures ∙ get_or_default o.shown_by.items c.args.piece c.index-shown_by.result.now 0
    (omega (arith, kept.len, kept.within)) in (
      shown_less o.shelf o.rows o.shown_by.items c.args.piece kept c.lower.new.self c.index-shown_by.result.now _ read (omega arith)
          (rw c.from.ensures at c.lower.ensures),
      length-set o.shown_by.items c.args.piece _ ∙ c.self.invariant.1,
      c.self.invariant.2,
      c.self.invariant.3,
    )

pub returns : goal.returns
returns c =
    let o = c.self.inside in
    let kept = kept_piece o.shelf o.rows o.shown_by.items _ c.args.piece c.self.invariant.0 c.self.invariant.1 c.self.view_is c.requires in
    let read = c.index-shown_by.ensures ∙ get_or_default o.shown_by.items c.args.piece c.index-shown_by.result.now 0
    (omega (arith, kept.len, kept.within)) in
    rw (← c.self.view_is)
    (counted_less o.shelf o.rows o.shown_by.items c.args.piece kept _ (omega (arith, read)))
