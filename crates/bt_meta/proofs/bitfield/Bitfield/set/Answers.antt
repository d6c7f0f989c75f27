use Rattle.std.proofs.Common.{arith, sym, ◌∙◌, ◌/◌}
use Rattle.std.proofs.lemmas.List.{get_or_default}
use Rattle.bt_meta.proofs.Payloads.{counted, byte_within, set_payload, set_flags}
use Rattle.bt_meta.proofs.bitfield.Bitfield.set.Goals as goal

pub index_mut-requires : goal.index_mut-requires
index_mut-requires c =
    let few = counted c.self.inside.count c.self.inside.bytes.items c.args.self.now c.self.view_is in
    omega (arith, byte_within c.self.inside.count c.self.inside.bytes.items c.args.piece c.self.invariant (omega (arith, c.requires, few)))

pub invariant_of-self : goal.invariant_of-self
invariant_of-self c =
    let few = counted c.self.inside.count c.self.inside.bytes.items c.args.self.now c.self.view_is in
    let within = byte_within c.self.inside.count c.self.inside.bytes.items c.args.piece c.self.invariant (omega (arith, c.requires, few)) in
    rw (c.index_mut.ensures.value ∙ get_or_default c.self.inside.bytes.items (c.args.piece / 8) _ 0 within)
    (set_payload c.self.inside.count c.self.inside.bytes.items c.args.piece c.self.invariant (omega (arith, c.requires, few)))

pub returns : goal.returns
returns c =
    let few = counted c.self.inside.count c.self.inside.bytes.items c.args.self.now c.self.view_is in
    let within = byte_within c.self.inside.count c.self.inside.bytes.items c.args.piece c.self.invariant (omega (arith, c.requires, few)) in
    rw (c.index_mut.ensures.value ∙ get_or_default c.self.inside.bytes.items (c.args.piece / 8) _ 0 within, sym c.self.view_is)
    (set_flags c.self.inside.count c.self.inside.bytes.items c.args.piece c.self.invariant (omega (arith, c.requires, few)))
