use Rattle.std.proofs.Common.{◌≡◌, ◌≤◌, ◌-◌, length, false}
use Rattle.std.specs.Prelude.{slice_index_or}
use Rattle.bt_history.specs.Counting.{table}
use Rattle.bt_tables.specs.Tables.{peer_row, piece_row, less_available}
use Rattle.bt_tables.proofs.Tabled.{upto}
use Rattle.bt_tables.proofs.sweep.hide_shown.Given as goal

abbrev pub invariant-loop-from : goal.invariant-loop-from
invariant-loop-from l =
    (l.from ≤ length (peer_row l.peers l.worker).shows)
    × (l.pieces ≡ table (length l.initial.pieces) (upto l.from
    (λ p. less_available (slice_index_or (peer_row l.peers l.worker).shows p false) (piece_row l.initial.pieces p))
    (piece_row l.initial.pieces)))

abbrev pub decreases-loop-from : goal.decreases-loop-from
decreases-loop-from l = length (peer_row l.peers l.worker).shows - l.from
