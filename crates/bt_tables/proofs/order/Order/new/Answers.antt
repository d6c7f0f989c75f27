use Rattle.std.proofs.Common.{arith}
use Rattle.bt_tables.proofs.Moves.{fresh_inverse, fresh_split}
use Rattle.bt_tables.proofs.order.Order.new.Goals as goal

pub invariant_of-result : goal.invariant_of-result
invariant_of-result c =
    rw (c.in_ok-rising.ensures, c.in_ok-rising-2.ensures) (
      fresh_inverse c.args.bound,
      rw (c.in_ok-vec.ensures.items_if_clones_equal, c.in_ok-vec-2.ensures.items_if_clones_equal)
          (fresh_split c.args.bound c.args.count c.requires (omega arith) (omega arith)),
    )
