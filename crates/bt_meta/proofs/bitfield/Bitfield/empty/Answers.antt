use Rattle.bt_meta.proofs.Payloads.{zero_flags}
use Rattle.bt_meta.proofs.bitfield.Bitfield.empty.Goals as goal

pub returns : goal.returns
returns c = rw c.in_ok-vec.ensures.items_if_clones_equal (zero_flags c.args.count c.bytes_for.result)
