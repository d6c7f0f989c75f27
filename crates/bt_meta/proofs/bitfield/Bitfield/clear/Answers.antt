use Rattle.bt_meta.proofs.Payloads.{counted, zero_flags}
use Rattle.bt_meta.proofs.bitfield.Bitfield.clear.Goals as goal

pub returns : goal.returns
returns c =
    let few = counted c.self.inside.count c.self.inside.bytes.items c.args.self.now c.self.view_is in
    rw (c.fill.ensures.items (λ y same. same), few) (zero_flags c.self.inside.count _)
