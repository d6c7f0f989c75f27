use Rattle.std.proofs.Common.{◌≡◌, ◌<◌, ◌≤◌, ℕ, false, true}
use Rattle.std.specs.Prelude.{slice_index_or}
use Rattle.bt_tables.proofs.full.has_from.Given as goal

abbrev pub invariant-loop-piece : goal.invariant-loop-piece
invariant-loop-piece l = (p : ℕ) → l.from ≤ p → p < l.piece → slice_index_or l.flags p false ≡ true
