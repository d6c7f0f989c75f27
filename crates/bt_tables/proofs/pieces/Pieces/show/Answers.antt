use Rattle.std.proofs.Common.{◌+◌, ◌∙◌, arith, length-set}
use Rattle.std.proofs.lemmas.List.{get_or_default}
use Rattle.bt_tables.proofs.Apart.{count_is, counted_more, has_next, kept_piece, shown_more}
use Rattle.bt_tables.proofs.pieces.Pieces.show.Goals as goal

pub index-requires : goal.index-requires
index-requires c =
    let o = c.self.inside in
    let kept = kept_piece o.shelf o.rows o.shown_by.items _ c.args.piece c.self.invariant.0 c.self.invariant.1 c.self.view_is c.requires.piece
    in
    omega (arith, o.shown_by.ok.0, kept.len, kept.within)

pub overflow_add-shown_by : goal.overflow_add-shown_by
overflow_add-shown_by c =
    let o = c.self.inside in
    let kept = kept_piece o.shelf o.rows o.shown_by.items _ c.args.piece c.self.invariant.0 c.self.invariant.1 c.self.view_is c.requires.piece
    in
    let read = c.index.ensures ∙ get_or_default o.shown_by.items c.args.piece c.index.result.now 0 (omega (arith, kept.len, kept.within)) in
    let few = rw (← c.self.view_is) at c.requires.few in
    omega (arith, few, read, count_is o.shelf o.rows o.shown_by.items c.args.piece kept)

pub index_mut-requires : goal.index_mut-requires
index_mut-requires c =
    let o = c.self.inside in
    let kept = kept_piece o.shelf o.rows o.shown_by.items _ c.args.piece c.self.invariant.0 c.self.invariant.1 c.self.view_is c.requires.piece
    in
    omega (arith, o.shown_by.ok.0, kept.len, kept.within)

pub raise-requires-clause-next : goal.raise-requires-clause-next
raise-requires-clause-next c =
    let o = c.self.inside in
    let kept = kept_piece o.shelf o.rows o.shown_by.items _ c.args.piece c.self.invariant.0 c.self.invariant.1 c.self.view_is c.requires.piece
    in
    let read = c.index.ensures ∙ get_or_default o.shown_by.items c.args.piece c.index.result.now 0 (omega (arith, kept.len, kept.within)) in
    has_next o.shelf o.rows o.shown_by.items c.args.piece kept c.from.result (omega (arith, read, c.from.ensures))

pub invariant_of-self : goal.invariant_of-self
invariant_of-self c =
    let o = c.self.inside in
    let kept = kept_piece o.shelf o.rows o.shown_by.items _ c.args.piece c.self.invariant.0 c.self.invariant.1 c.self.view_is c.requires.piece
    in
    let read = c.index.ensures ∙ get_or_default o.shown_by.items c.args.piece c.index.result.now 0 (omega (arith, kept.len, kept.within)) in (
      shown_more o.shelf o.rows o.shown_by.items c.args.piece kept c.raise.new.self (c.index.result.now + 1) (omega (arith, read))
          (rw c.from.ensures at c.raise.ensures),
      length-set o.shown_by.items c.args.piece (c.index.result.now + 1) ∙ c.self.invariant.1,
      c.self.invariant.2,
      c.self.invariant.3,
    )

pub returns : goal.returns
returns c =
    let o = c.self.inside in
    let kept = kept_piece o.shelf o.rows o.shown_by.items _ c.args.piece c.self.invariant.0 c.self.invariant.1 c.self.view_is c.requires.piece
    in
    let read = c.index.ensures ∙ get_or_default o.shown_by.items c.args.piece c.index.result.now 0 (omega (arith, kept.len, kept.within)) in
    rw (← c.self.view_is)
    (counted_more o.shelf o.rows o.shown_by.items c.args.piece kept (c.index.result.now + 1) (omega (arith, read)))
