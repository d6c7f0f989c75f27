use Rattle.std.proofs.Common.{◌≡◌}
use Rattle.bt_tables.specs.Tables.{edit}
use Rattle.bt_tables.proofs.Striped.{written}
use Rattle.bt_tables.proofs.stripes.Stripes.clear.Given as goal

abbrev pub invariant-loop-place : goal.invariant-loop-place
invariant-loop-place l = l.self ≡ edit l.initial.self l.row (written l.place (λ k. 0))
