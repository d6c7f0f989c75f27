use Rattle.std.proofs.Common.{◌≡◌}
use Rattle.bench.proofs.threads.picking.ask_and_bring_each.Given as goal

abbrev pub invariant-pairs : goal.invariant-pairs
invariant-pairs g l = l.pass.table ≡ l.picker.table
