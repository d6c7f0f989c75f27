use Rattle.std.proofs.Common.{◌≡◌}
use Rattle.bt_picker_tests.proofs.tests.tickets.takes_many.Given as goal

abbrev pub invariant-loop-piece : goal.invariant-loop-piece
invariant-loop-piece g l = l.pass.queue ≡ l.tickets
