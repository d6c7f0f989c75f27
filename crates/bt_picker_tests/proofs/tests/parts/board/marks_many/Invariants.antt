use Rattle.std.proofs.Common.{◌≡◌}
use Rattle.bt_picker_tests.proofs.tests.parts.board.marks_many.Given as goal

abbrev pub invariant-loop-step : goal.invariant-loop-step
invariant-loop-step l = record { board : l.seat.table ≡ l.board.table }
