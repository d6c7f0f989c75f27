use Rattle.std.proofs.Common.{◌≡◌}
use Rattle.bt_history.specs.Counting.{table}
use Rattle.bt_tables.specs.Showing.{dealings}
use Rattle.bt_tables.specs.Tables.{fresh_peer}
use Rattle.bt_tables.proofs.peers.new_rows.Given as goal

abbrev pub invariant-loop-worker : goal.invariant-loop-worker
invariant-loop-worker l = l.rows.items ≡ table l._worker (λ q. dealings (fresh_peer l.room 0))
