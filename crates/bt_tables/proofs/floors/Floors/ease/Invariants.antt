use Rattle.std.proofs.Common.{◌≡◌, ◌-◌, ◌<◌, ◌≤◌, ℕ, length}
use Rattle.bt_tables.specs.Orders.{at}
use Rattle.bt_tables.proofs.floors.Floors.ease.Given as goal

abbrev pub invariant-loop-worker : goal.invariant-loop-worker
invariant-loop-worker l =
    (length l.self-inside.floors.items ≡ length l.initial.self-inside.floors.items)
    × ((q : ℕ) → q < l.worker → at l.self-inside.floors.items q ≡ at l.initial.self-inside.floors.items q - 1)
    × ((q : ℕ) → l.worker ≤ q → at l.self-inside.floors.items q ≡ at l.initial.self-inside.floors.items q)
