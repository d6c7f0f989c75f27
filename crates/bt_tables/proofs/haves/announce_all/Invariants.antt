use Rattle.std.proofs.Common.{◌≡◌, length}
use Rattle.bt_tables.proofs.Added.{HaveTold}
use Rattle.bt_tables.proofs.haves.announce_all.Given as goal

abbrev pub invariant-loop-piece : goal.invariant-loop-piece
invariant-loop-piece l =
    (l.piece-end ≡ length l.flags) × HaveTold l.flags l.initial.peers l.initial.pieces l.worker l.piece l.peers l.pieces
