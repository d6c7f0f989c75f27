use Rattle.std.proofs.Common.{◌≡◌, ◌+◌}
use Rattle.std.specs.Prelude.{slice_set}
use Rattle.bt_tables.specs.Orders.{at}
use Rattle.bt_tables.proofs.order.Order.lower_to.Given as goal

abbrev pub invariant-loop-group : goal.invariant-loop-group
invariant-loop-group l =
    (at l.self.group_of l.number + l._group ≡ l._group-end + l.group)
    × (l.self ≡ record l.initial.self { group_of = slice_set l.initial.self.group_of l.number (at l.self.group_of l.number) })
