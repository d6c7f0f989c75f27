use Rattle.std.proofs.Common.{◌≡◌, length}
use Rattle.bt_tables.specs.Tables.{wanted_level}
use Rattle.bt_tables.proofs.Sweeps.{levelled_upto}
use Rattle.bt_tables.proofs.sweep.rewant.Given as goal

abbrev pub invariant-loop-piece : goal.invariant-loop-piece
invariant-loop-piece l =
    (l.piece-end ≡ length l.initial.pieces) × (l.pieces ≡ levelled_upto l.initial.pieces (wanted_level l.flags) l.piece)
