use Rattle.std.proofs.Common.{◌≡◌, ◌<◌, ◌≤◌, ◌+◌, ℕ, length}
use Rattle.bt_tables.specs.Orders.{at}
use Rattle.bt_tables.proofs.pieces.count_up.Given as goal

abbrev pub invariant-loop-piece : goal.invariant-loop-piece
invariant-loop-piece l =
    (length l.counts ≡ length l.initial.counts)
    × ((p : ℕ) → p < l.piece → at l.counts p ≡ at l.initial.counts p + 1)
    × ((p : ℕ) → l.piece ≤ p → at l.counts p ≡ at l.initial.counts p)
