use Rattle.std.proofs.Common.{arith}
use Rattle.bt_tables.proofs.Ones.{ones_more}
use Rattle.bt_tables.proofs.full.are_ones.Goals as goal

pub loop-place-preserved : goal.loop-place-preserved
loop-place-preserved c = ones_more c.args.bytes.now c.loop-place.place c.loop-place.invariant (omega (arith, c.if-bytes-place.false))
