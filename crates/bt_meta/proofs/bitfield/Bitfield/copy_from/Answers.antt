use Rattle.std.proofs.Common.{arith, ◌≡◌}
use Rattle.bt_meta.proofs.Payloads.{counted}
use Rattle.bt_meta.proofs.bitfield.Bitfield.copy_from.Goals as goal

pub copy_from_slice-requires : goal.copy_from_slice-requires
copy_from_slice-requires c =
    let own = counted c.self.inside.count c.self.inside.bytes.items c.args.self.now c.self.view_is in
    let other = counted c.other.inside.count c.other.inside.bytes.items c.args.other.now c.other.view_is in
    rw c.deref.ensures.value (omega (arith, own, other, c.requires, c.self.invariant.len, c.other.invariant.len))

pub invariant_of-self : goal.invariant_of-self
invariant_of-self c =
    let own = counted c.self.inside.count c.self.inside.bytes.items c.args.self.now c.self.view_is in
    let other = counted c.other.inside.count c.other.inside.bytes.items c.args.other.now c.other.view_is in
    let same : c.self.inside.count ≡ c.other.inside.count = omega (arith, own, other, c.requires) in
    rw (c.copy_from_slice.ensures.items, c.deref.ensures.value, same) c.other.invariant

pub returns : goal.returns
returns c =
    let own = counted c.self.inside.count c.self.inside.bytes.items c.args.self.now c.self.view_is in
    let other = counted c.other.inside.count c.other.inside.bytes.items c.args.other.now c.other.view_is in
    let same : c.self.inside.count ≡ c.other.inside.count = omega (arith, own, other, c.requires) in
    rw (c.copy_from_slice.ensures.items, c.deref.ensures.value, same) c.other.view_is
