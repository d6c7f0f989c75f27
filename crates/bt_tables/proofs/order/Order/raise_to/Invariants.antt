use Rattle.std.proofs.Common.{◌≡◌}
use Rattle.std.specs.Prelude.{slice_set}
use Rattle.bt_tables.proofs.order.Order.raise_to.Given as goal

abbrev pub invariant-loop-group : goal.invariant-loop-group
invariant-loop-group l = l.self ≡ record l.initial.self { group_of = slice_set l.initial.self.group_of l.number l._group }
