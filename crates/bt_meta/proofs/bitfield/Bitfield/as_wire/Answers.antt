use Rattle.bt_meta.proofs.Payloads.{spelled}
use Rattle.bt_meta.proofs.bitfield.Bitfield.as_wire.Goals as goal

pub returns : goal.returns
returns c =
    rw c.as_slice.ensures.value (spelled c.self.inside.count c.self.inside.bytes.items c.args.self.now c.self.view_is c.self.invariant)
