use Rattle.std.proofs.Common.{◌≡◌, ◌≤◌, ◌-◌, length, false}
use Rattle.std.specs.Prelude.{slice_index_or}
use Rattle.bt_history.specs.Counting.{table}
use Rattle.bt_tables.specs.Tables.{piece_row, more_available}
use Rattle.bt_tables.proofs.Tabled.{upto}
use Rattle.bt_tables.proofs.sweep.show_shown.Given as goal

abbrev pub invariant-loop-from : goal.invariant-loop-from
invariant-loop-from l =
    (l.from ≤ length l.flags)
    × (l.pieces ≡ table (length l.initial.pieces) (upto l.from
    (λ p. more_available (slice_index_or l.flags p false) (piece_row l.initial.pieces p))
    (piece_row l.initial.pieces)))

abbrev pub decreases-loop-from : goal.decreases-loop-from
decreases-loop-from l = length l.flags - l.from
