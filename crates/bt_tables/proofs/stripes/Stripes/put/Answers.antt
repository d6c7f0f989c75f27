use Rattle.std.proofs.Common.{arith, ◌+◌, ◌*◌, ◌∙◌, length-set}
use Rattle.bt_tables.proofs.Striped.{stands, striped_put}
use Rattle.bt_tables.proofs.stripes.Stripes.put.Goals as goal

pub overflow_mul-self-inside : goal.overflow_mul-self-inside
overflow_mul-self-inside c =
    let o = c.self.inside in
    let at = stands o.rows o.width c.args.row c.args.place o.bytes.items _ c.self.view_is c.self.invariant c.requires.row c.requires.place in
    omega (arith, at.within, o.bytes.ok.0, o.bytes.small)

pub overflow_add-self-inside : goal.overflow_add-self-inside
overflow_add-self-inside c =
    let o = c.self.inside in
    let at = stands o.rows o.width c.args.row c.args.place o.bytes.items _ c.self.view_is c.self.invariant c.requires.row c.requires.place in
    omega (arith, at.within, o.bytes.ok.0, o.bytes.small)

pub index_mut-requires : goal.index_mut-requires
index_mut-requires c =
    let o = c.self.inside in
    let at = stands o.rows o.width c.args.row c.args.place o.bytes.items _ c.self.view_is c.self.invariant c.requires.row c.requires.place in
    omega (arith, at.within, o.bytes.ok.0, o.bytes.small)

pub invariant_of-self : goal.invariant_of-self
invariant_of-self c =
    let o = c.self.inside in
    length-set o.bytes.items (o.rows * c.args.place + c.args.row) c.args.byte ∙ c.self.invariant

pub returns : goal.returns
returns c =
    let o = c.self.inside in
    let at = stands o.rows o.width c.args.row c.args.place o.bytes.items _ c.self.view_is c.self.invariant c.requires.row c.requires.place in
    rw (← c.self.view_is)
    (striped_put o.rows o.width c.args.row c.args.place c.args.byte o.bytes.items c.self.invariant at.row_is at.place_is)
