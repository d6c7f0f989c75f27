use Rattle.std.proofs.Common.{arith}
use Rattle.bt_tables.specs.Stripes.{stripe}
use Rattle.bt_tables.proofs.Ones.{ones_more}
use Rattle.bt_tables.proofs.shows.are_ones.Goals as goal

pub loop-place-preserved : goal.loop-place-preserved
loop-place-preserved c =
    ones_more (stripe c.args.stripes.now c.args.row) c.loop-place.place c.loop-place.invariant (omega (arith, c.byte.ensures, c.if-byte.false))
