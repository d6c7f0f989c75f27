use Rattle.std.proofs.Common.{◌≡◌, ◌<◌, ◌≤◌, ℕ, length}
use Rattle.bt_tables.specs.Orders.{at, lowered_between}
use Rattle.bt_tables.proofs.order.lower_each.Given as goal

abbrev pub invariant-loop-number : goal.invariant-loop-number
invariant-loop-number l =
    (length l.groups ≡ length l.initial.groups)
    × ((p : ℕ) → p < l.number → at l.groups p ≡ lowered_between l.low l.high (at l.initial.groups p))
    × ((p : ℕ) → l.number ≤ p → at l.groups p ≡ at l.initial.groups p)
