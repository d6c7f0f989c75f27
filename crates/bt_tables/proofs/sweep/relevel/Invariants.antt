use Rattle.std.proofs.Common.{◌≡◌, length}
use Rattle.std.specs.Prelude.{slice_index_or}
use Rattle.bt_tables.proofs.Sweeps.{levelled_upto}
use Rattle.bt_tables.proofs.sweep.relevel.Given as goal

abbrev pub invariant-loop-piece : goal.invariant-loop-piece
invariant-loop-piece l =
    (l.piece-end ≡ length l.initial.pieces) × (l.pieces ≡ levelled_upto l.initial.pieces (λ p. slice_index_or l.levels p 0) l.piece)
