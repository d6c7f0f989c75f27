use Rattle.std.proofs.Common.{◌≡◌}
use Rattle.bt_picker_tests.proofs.tests.crowd.is_replayed.Given as goal

abbrev pub invariant-lines : goal.invariant-lines
invariant-lines g l = l.desk.setting.workers ≡ 8
