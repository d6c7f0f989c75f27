use Rattle.std.proofs.Common.{◌≡◌, not, take}
use Rattle.std.specs.List.{filter}
use Rattle.bt_history.specs.Peers.{has_place}
use Rattle.bt_tables.specs.Floors.{AreFloors}
use Rattle.bt_tables.specs.Tables.{lowered_by}
use Rattle.bt_tables.proofs.sweep.lower_all.Given as goal

abbrev pub invariant-loop-index : goal.invariant-loop-index
invariant-loop-index l =
    (l.pieces ≡ lowered_by (filter (λ b. not (has_place b l.line.overdue)) (take l.index l.line.asked)) l.initial.pieces)
    × AreFloors l.floors l.peers l.pieces
