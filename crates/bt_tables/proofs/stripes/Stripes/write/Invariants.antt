use Rattle.std.proofs.Common.{get_or, ◌≡◌}
use Rattle.bt_tables.specs.Tables.{edit}
use Rattle.bt_tables.proofs.Striped.{written}
use Rattle.bt_tables.proofs.stripes.Stripes.write.Given as goal

abbrev pub invariant-loop-place : goal.invariant-loop-place
invariant-loop-place l = l.self ≡ edit l.initial.self l.row (written l.place (λ k. get_or l.bytes k 0))
