use Rattle.std.proofs.Common.{rules}
use Rattle.bt_meta.proofs.bitfield.has_spare_bit.Goals as goal

pub loop-place-preserved : goal.loop-place-preserved
loop-place-preserved c = search rules fits 100
