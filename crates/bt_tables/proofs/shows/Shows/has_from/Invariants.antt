use Rattle.std.proofs.Common.{◌≡◌, ◌<◌, ◌≤◌, ℕ, false, true}
use Rattle.std.specs.Prelude.{slice_index_or}
use Rattle.bt_tables.specs.Showing.{flags_at}
use Rattle.bt_tables.proofs.shows.Shows.has_from.Given as goal

abbrev pub invariant-loop-piece : goal.invariant-loop-piece
invariant-loop-piece l = (p : ℕ) → l.from ≤ p → p < l.piece → slice_index_or (flags_at l.self l.worker) p false ≡ true
