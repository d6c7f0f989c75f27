use Rattle.std.proofs.Common.{arith}
use Rattle.bt_meta.proofs.Payloads.{counted, told}
use Rattle.bt_meta.proofs.bitfield.Bitfield.has.Goals as goal

pub bit-requires : goal.bit-requires
bit-requires c =
    let few = counted c.self.inside.count c.self.inside.bytes.items c.args.self.now c.self.view_is in
    omega (arith, c.requires, few, c.self.invariant.len)

pub returns : goal.returns
returns c =
    let few = counted c.self.inside.count c.self.inside.bytes.items c.args.self.now c.self.view_is in
    rw (c.bit.ensures, c.deref.ensures.value)
    (told c.self.inside.count c.self.inside.bytes.items c.args.self.now c.self.view_is c.args.piece (omega (arith, c.requires, few)))
