use Rattle.std.proofs.Common.{arith}
use Rattle.bt_tables.proofs.Spelled.{empty_shown, empty_rows}
use Rattle.bt_tables.proofs.shows.Shows.new.Goals as goal

pub invariant_of-result : goal.invariant_of-result
invariant_of-result c =
    rw (c.in_ok-new.ensures, c.in_ok-vec.ensures.items_if_clones_equal)
    (empty_shown c.args.workers c.args.pieces c.div_ceil.result (omega (arith, c.ranges.pieces.fits)) (omega (arith, c.div_ceil.ensures)))

pub returns : goal.returns
returns c = rw c.in_ok-new.ensures (empty_rows c.args.workers c.args.pieces c.div_ceil.result)
