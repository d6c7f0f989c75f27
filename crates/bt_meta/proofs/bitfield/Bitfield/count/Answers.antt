use Rattle.std.proofs.Common.{sym}
use Rattle.bt_meta.proofs.Payloads.{counted}
use Rattle.bt_meta.proofs.bitfield.Bitfield.count.Goals as goal

pub returns : goal.returns
returns c = sym (counted c.self.inside.count c.self.inside.bytes.items c.args.self.now c.self.view_is)
