use Rattle.std.proofs.Common.{◌≡◌, ◌<◌, ℕ, false}
use Rattle.bt_tables.specs.Tables.{is_late_at, peer_row}
use Rattle.bt_tables.proofs.peers.Peers.finds_late.Given as goal

abbrev pub invariant-loop-index : goal.invariant-loop-index
invariant-loop-index l = (q : ℕ) → q < l.index → is_late_at l.piece l.begin (peer_row l.self q) ≡ false
