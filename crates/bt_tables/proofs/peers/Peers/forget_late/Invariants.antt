use Rattle.std.proofs.Common.{◌≡◌, ◌==◌, length}
use Rattle.bt_history.specs.Counting.{table}
use Rattle.bt_tables.specs.Tables.{peer_row, without_block}
use Rattle.bt_tables.proofs.Tabled.{upto}
use Rattle.bt_tables.proofs.peers.Peers.forget_late.Given as goal

abbrev pub invariant-loop-index : goal.invariant-loop-index
invariant-loop-index l =
    l.self ≡ table (length l.initial.self) (upto l.index (λ q. without_block l.piece l.begin (l.worker == q) (peer_row l.initial.self q))
    (peer_row l.initial.self))
