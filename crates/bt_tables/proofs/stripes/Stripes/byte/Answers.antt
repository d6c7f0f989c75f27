use Rattle.std.proofs.Common.{arith, sym, ◌∙◌, ◌+◌, ◌*◌}
use Rattle.std.proofs.lemmas.List.{get_or_default}
use Rattle.bt_tables.proofs.Striped.{byte_is, stands}
use Rattle.bt_tables.proofs.stripes.Stripes.byte.Goals as goal

pub overflow_mul-self-inside : goal.overflow_mul-self-inside
overflow_mul-self-inside c =
    let o = c.self.inside in
    let at = stands o.rows o.width c.args.row c.args.place o.bytes.items _ c.self.view_is c.self.invariant c.requires.row c.requires.place in
    omega (arith, at.within, o.bytes.ok.0, o.bytes.small)

pub overflow_add-self-inside : goal.overflow_add-self-inside
overflow_add-self-inside c =
    let o = c.self.inside in
    let at = stands o.rows o.width c.args.row c.args.place o.bytes.items _ c.self.view_is c.self.invariant c.requires.row c.requires.place in
    omega (arith, at.within, o.bytes.ok.0, o.bytes.small)

pub index-requires : goal.index-requires
index-requires c =
    let o = c.self.inside in
    let at = stands o.rows o.width c.args.row c.args.place o.bytes.items _ c.self.view_is c.self.invariant c.requires.row c.requires.place in
    omega (arith, at.within, o.bytes.ok.0, o.bytes.small)

pub returns : goal.returns
returns c =
    let o = c.self.inside in
    let at = stands o.rows o.width c.args.row c.args.place o.bytes.items _ c.self.view_is c.self.invariant c.requires.row c.requires.place in
    let read = c.index.ensures ∙ get_or_default o.bytes.items (o.rows * c.args.place + c.args.row) c.index.result.now 0 at.within in
    rw (← c.self.view_is) (read ∙ sym (byte_is o.rows o.width c.args.row c.args.place o.bytes.items at.row_is at.place_is))
